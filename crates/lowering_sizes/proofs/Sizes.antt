-- What the rules make of expressions of any kind is large only where what was asked is, or the input.
use Rattle.std.proofs.Common.{◌≡◌, inl, inr, ℕ, Bool, true, not, List, [], ◌∷◌, ◌++◌, length, refl, sym, ap, subst, ◌∙◌, arith}
use Rattle.std.specs.Prelude.{IsTrue, is_some, map, slice_get, ◌==◌, ◌&&◌}
use Rattle.std.specs.List.{AllByRecursion, list_all}
use Rattle.std.proofs.lemmas.List.{append-nil}
use Rattle.std.proofs.lemmas.Option.{slice_get_within}
use Rattle.ps_frame.proofs.Lists.{and_both}
use Rattle.ps_frame.specs.Functions.{Functions}
use Rattle.ps_frame.specs.Parts.{tree_parts, trees_parts}
use Rattle.ps_frame.specs.Tables.{Table}
use Rattle.ps_frame.specs.Trees.{Aggregation, Tree, Trees}
use Rattle.ps_frame.specs.Typing.{branch_kind, fits_keys, have_kinds, is_elementwise, is_kind, kind_over, tree_count}
use Rattle.ps_frame.specs.declared.expr.Operator.{Operator}
use Rattle.ps_frame.specs.declared.value.DataType.{DataType}
use Rattle.ps_frame.specs.declared.value.DataType.TheVariants as kind
use Rattle.ps_meaning.specs.Meaning.{IsLargeCase}
use Rattle.ps_meaning.specs.Shape.{IsPhysicalChoice, Shape}
use Rattle.ps_meaning.specs.Sound.{schema_at}
use Rattle.ps_meaning.specs.Steps.{Name, Named, exprs_of, select}
use Rattle.ps_plan.specs.Lowering.{HasRowsOf}
use Rattle.ps_rules.specs.Calls.{exprs_of_all, left_to_map}
use Rattle.ps_rules.specs.Lowered.{as_operand, lower, lower_exprs, operands, select_stream}
use Rattle.ps_rules.specs.Rules.{NamedOperand, aggregated, operands_of, over_operands}
use Rattle.ps_rules.specs.Slots.{State, Stream, schema_or_none, under}
use Rattle.ps_shares.specs.Kept.{IsReady}
use Rattle.ps_shares.proofs.Adding.{AllAdd, add_all, adds, all_add}
use Rattle.ps_shares.proofs.Ends.{exprs_under, has_first}
use Rattle.ps_shares.proofs.FlatLength.{both_hold}
use Rattle.ps_shares.proofs.Growing.{binary_of, cast_of, ternary_of}
use Rattle.ps_shares.proofs.Members.{Has, from_has}
use Rattle.ps_shares.proofs.Stands.{some_aggregate, some_binary, some_branch, some_cast, some_if, some_kind}
use Rattle.ps_bundles.proofs.Apart.{AllTyped}
use Rattle.ps_bundles.proofs.ExprEnds.{from_each}
use Rattle.ps_bundles.proofs.Gathered.{has_last}
use Rattle.ps_bundles.proofs.ZipEnds.{differ}
use Rattle.lowering_sizes.specs.Sizes.{ExprsStaySmall, IsLargeOver, SelectsStaySmall}
use Rattle.lowering_sizes.proofs.Calls.{AllSteps, IsThere, Steps, left_small, stays_or_small, under_all}
use Rattle.lowering_sizes.proofs.Nodes.{AreModest, IsModest, IsSmall, plain_modest, select_rows, step_modest}
use Rattle.lowering_sizes.proofs.Parts.{own_part, part_of_parts}
use Rattle.lowering_sizes.proofs.Rules.{answered_small, filter_small, len_small, operator_small, reduced_small, selected_small, sort_by_small, sort_small}

module _ (F : Functions) (at : ℕ) (input : Stream) (N : Shape) (tables : ℕ → Table) (choice : IsPhysicalChoice F N tables) (Large : Type 0) (few : IsSmall Large (tables input.0)) where
  abbrev t : Table
  t = tables input.0

  abbrev Does : Tree → Type 0
  Does e = Steps F at input N tables choice Large few e (lower at input e)

  abbrev Modest : Tree → Type 0
  Modest e = IsModest Large at t e

  cast_small : (k : DataType) (strict : Bool) (e : Tree) → Does e → Steps F at input N tables choice Large few (Tree.cast k strict e) (over_operands at input (cast_of k strict) (as_operand at input e ∷ []))
  cast_small k strict e step =
      operator_small F at input N tables choice Large few (Tree.cast k strict e) (cast_of k strict) (as_operand at input e ∷ []) (adds at input e, tt) (step, tt) (λ h. (some_cast k (kind_over t.schema e) h, tt)) (λ h. ((λ p part. h p (inr part)), tt)) plain
    where
      plain : (bs : List Tree) → length bs ≡ 1 → AllByRecursion (λ e. IsTrue (is_elementwise e)) bs → is_elementwise (cast_of k strict bs) ≡ true
      plain [] l all = absurd (omega arith)
      plain (a ∷ bs) l all = all.0

  binary_small : (o : Operator) (l r : Tree) → Does l → Does r → Steps F at input N tables choice Large few (Tree.binary o l r) (over_operands at input (binary_of o) (as_operand at input l ∷ as_operand at input r ∷ []))
  binary_small o l r step step' =
      operator_small F at input N tables choice Large few (Tree.binary o l r) (binary_of o) (as_operand at input l ∷ as_operand at input r ∷ []) (adds at input l, (adds at input r, tt)) (step, (step', tt))
      (λ h. let p = some_binary o (kind_over t.schema l) (kind_over t.schema r) h in (p.0, (p.1, tt)))
      (λ h. ((λ p part. h p (inr (has_first (tree_parts l) (tree_parts r) p part))), ((λ p part. h p (inr (has_last (tree_parts l) (tree_parts r) p part))), tt))) plain
    where
      plain : (bs : List Tree) → length bs ≡ 2 → AllByRecursion (λ e. IsTrue (is_elementwise e)) bs → is_elementwise (binary_of o bs) ≡ true
      plain [] n all = absurd (omega arith)
      plain (a ∷ []) n all = absurd (omega arith)
      plain (a ∷ b ∷ bs) n all = and_both (is_elementwise a) (is_elementwise b) all.0 all.1.0

  ternary_small : (p x y : Tree) → Does p → Does x → Does y → Steps F at input N tables choice Large few (Tree.ternary p x y) (over_operands at input ternary_of (as_operand at input p ∷ as_operand at input x ∷ as_operand at input y ∷ []))
  ternary_small p x y s0 s1 s2 =
      operator_small F at input N tables choice Large few (Tree.ternary p x y) ternary_of (as_operand at input p ∷ as_operand at input x ∷ as_operand at input y ∷ []) (adds at input p, (adds at input x, (adds at input y, tt))) (s0, (s1, (s2, tt)))
      (λ h.
      let a = some_if (is_kind kind.Boolean (kind_over t.schema p)) (branch_kind (kind_over t.schema x) (kind_over t.schema y)) h in
      let b = some_branch (kind_over t.schema x) (kind_over t.schema y) a.1 in
      (some_kind kind.Boolean (kind_over t.schema p) a.0, (b.0, (b.1, tt))))
      (λ h. (
        (λ q part. h q (inr (has_first (tree_parts p) (tree_parts x ++ tree_parts y) q part))),
        (
          (λ q part. h q (inr (has_last (tree_parts p) (tree_parts x ++ tree_parts y) q (has_first (tree_parts x) (tree_parts y) q part)))),
          ((λ q part. h q (inr (has_last (tree_parts p) (tree_parts x ++ tree_parts y) q (has_last (tree_parts x) (tree_parts y) q part)))), tt),
        ),
      )) plain
    where
      plain : (bs : List Tree) → length bs ≡ 3 → AllByRecursion (λ e. IsTrue (is_elementwise e)) bs → is_elementwise (ternary_of bs) ≡ true
      plain [] n all = absurd (omega arith)
      plain (a ∷ []) n all = absurd (omega arith)
      plain (a ∷ b ∷ []) n all = absurd (omega arith)
      plain (a ∷ b ∷ c ∷ bs) n all = and_both (is_elementwise a) (is_elementwise b && is_elementwise c) all.0 (and_both (is_elementwise b) (is_elementwise c) all.1.0 all.1.1.0)

  aggregate_small : (a : Aggregation) (e : Tree) → Does e → Steps F at input N tables choice Large few (Tree.aggregate a e) (aggregated at input a (as_operand at input e) (Tree.aggregate a e))
  aggregate_small Aggregation.n_unique e step = left_small F at input N tables choice Large few (Tree.aggregate Aggregation.n_unique e)
  aggregate_small (Aggregation.count all) e step = left_small F at input N tables choice Large few (Tree.aggregate (Aggregation.count all) e)
  aggregate_small Aggregation.min e step = reduced_small F at input N tables choice Large few Aggregation.min (λ k vs. (_, refl)) (as_operand at input e) (adds at input e) step (some_aggregate Aggregation.min (kind_over t.schema e))
  aggregate_small Aggregation.max e step = reduced_small F at input N tables choice Large few Aggregation.max (λ k vs. (_, refl)) (as_operand at input e) (adds at input e) step (some_aggregate Aggregation.max (kind_over t.schema e))
  aggregate_small Aggregation.first e step = reduced_small F at input N tables choice Large few Aggregation.first (λ k vs. (_, refl)) (as_operand at input e) (adds at input e) step (some_aggregate Aggregation.first (kind_over t.schema e))
  aggregate_small Aggregation.last e step = reduced_small F at input N tables choice Large few Aggregation.last (λ k vs. (_, refl)) (as_operand at input e) (adds at input e) step (some_aggregate Aggregation.last (kind_over t.schema e))
  aggregate_small Aggregation.sum e step = reduced_small F at input N tables choice Large few Aggregation.sum (λ k vs. (_, refl)) (as_operand at input e) (adds at input e) step (some_aggregate Aggregation.sum (kind_over t.schema e))

  -- sorts by keys, and filters
  all_typed : (by : Trees) → have_kinds t.schema by ≡ true → AllTyped F at input N tables choice (exprs_of_all (operands at input by))
  all_typed Trees.no_trees h = tt
  all_typed (Trees.tree e es) h = let b = both_hold (is_some (kind_over t.schema e)) (have_kinds t.schema es) h in (b.0, all_typed es b.1)

  keys_typed : (d n : List Bool) (e : Tree) (by : Trees) → IsTrue (is_some (kind_over t.schema (Tree.sort_by d n e by))) → AllTyped F at input N tables choice (e ∷ exprs_of_all (operands at input by))
  keys_typed d n e by h =
      let a = some_if (have_kinds t.schema by && not (tree_count by == 0) && fits_keys d (tree_count by) && fits_keys n (tree_count by)) (kind_over t.schema e) h in
      let b = both_hold (have_kinds t.schema by && not (tree_count by == 0) && fits_keys d (tree_count by)) (fits_keys n (tree_count by)) a.0 in
      let c = both_hold (have_kinds t.schema by && not (tree_count by == 0)) (fits_keys d (tree_count by)) b.0 in
      let k = both_hold (have_kinds t.schema by) (not (tree_count by == 0)) c.0 in
      (a.1, all_typed by k.0)

  keys_modest : (by : Trees) → ((p : Tree) → Has (trees_parts by) p → Modest p) → AreModest Large at t (exprs_of_all (operands at input by))
  keys_modest Trees.no_trees f = tt
  keys_modest (Trees.tree e es) f = (f e (has_first (tree_parts e) (trees_parts es) e (own_part e)), keys_modest es (λ p h. f p (has_last (tree_parts e) (trees_parts es) p h)))

  mutual
    steps : (e : Tree) → Does e
    steps (Tree.column name) = stays_or_small F at input N tables choice Large few (Tree.column name) (λ call. call) (λ q. absurd (differ q))
    steps (Tree.literal l) = stays_or_small F at input N tables choice Large few (Tree.literal l) (λ call. call) (λ q. absurd (differ q))
    steps (Tree.binary o l r) =
        let x = steps l in
        let y = steps r in
        stays_or_small F at input N tables choice Large few (Tree.binary o l r) (over_operands at input (binary_of o) (as_operand at input l ∷ as_operand at input r ∷ [])) (λ q. binary_small o l r x y)
    steps (Tree.cast k strict e) =
        let x = steps e in
        stays_or_small F at input N tables choice Large few (Tree.cast k strict e) (over_operands at input (cast_of k strict) (as_operand at input e ∷ [])) (λ q. cast_small k strict e x)
    steps (Tree.ternary p a b) =
        let x = steps p in
        let y = steps a in
        let z = steps b in
        stays_or_small F at input N tables choice Large few (Tree.ternary p a b) (over_operands at input ternary_of (as_operand at input p ∷ as_operand at input a ∷ as_operand at input b ∷ [])) (λ q. ternary_small p a b x y z)
    steps (Tree.function g e) = stays_or_small F at input N tables choice Large few (Tree.function g e) (left_to_map (Tree.function g e)) (λ q. left_small F at input N tables choice Large few (Tree.function g e))
    steps (Tree.sort d n e) = sort_small F at input N tables choice Large few d n (as_operand at input e) (adds at input e) (steps e) (λ h. h)
    steps (Tree.sort_by d n e by) =
        sort_by_small F at input N tables choice Large few d n (Tree.sort_by d n e by) (as_operand at input e) (operands at input by) (adds at input e, add_all at input by) (steps e, all_steps by) (keys_typed d n e by)
        (λ h. ((λ p part. h p (inr (has_first (tree_parts e) (trees_parts by) p part))), keys_modest by (λ p part q inner. h q (inr (has_last (tree_parts e) (trees_parts by) q (part_of_parts p q inner by part))))))
    steps (Tree.gather s e i) = left_small F at input N tables choice Large few (Tree.gather s e i)
    steps (Tree.filter e by) =
        filter_small F at input N tables choice Large few (as_operand at input e) (as_operand at input by) (adds at input e) (adds at input by) (steps e) (steps by)
        (λ h. let w = some_if (is_kind kind.Boolean (kind_over t.schema by)) (kind_over t.schema e) h in (w.1, (some_kind kind.Boolean (kind_over t.schema by) w.0, tt)))
        (λ h. ((λ p part. h p (inr (has_first (tree_parts e) (tree_parts by) p part))), ((λ p part. h p (inr (has_last (tree_parts e) (tree_parts by) p part))), tt)))
    steps (Tree.aggregate a e) = aggregate_small a e (steps e)
    steps (Tree.slice e o l) = left_small F at input N tables choice Large few (Tree.slice e o l)
    steps Tree.len = len_small F at input N tables choice Large few
    steps (Tree.left_out w) = left_small F at input N tables choice Large few (Tree.left_out w)
    steps Tree.missing = left_small F at input N tables choice Large few Tree.missing

    all_steps : (es : Trees) → AllSteps F at input N tables choice Large few (operands at input es)
    all_steps Trees.no_trees = tt
    all_steps (Trees.tree e es) = (steps e, all_steps es)

  list_steps : (es : List Tree) → AllSteps F at input N tables choice Large few (map (as_operand at input) es)
  list_steps [] = tt
  list_steps (e ∷ es) = (steps e, list_steps es)

  -- what is known before a call
  module _ (s : State) (es : List Tree) (ready : IsReady s input es) (rows : HasRowsOf (schema_at (slice_get s.nodes input.0)) t) where
    schema_is : t.schema ≡ ready.node.schema
    schema_is = rows.0 ∙ ap schema_at ready.there

    there : IsThere F at input N tables choice Large few s
    there = record { ordered = ready.ordered; node = slice_get_within s.nodes input.0 ready.node ready.there; schema = ap schema_or_none ready.there ∙ sym schema_is }

    typed : AllTyped F at input N tables choice es
    typed = each es (subst (λ f. list_all (λ e. is_some (kind_over f e)) es ≡ true) (sym schema_is) ready.typed)
      where
        each : (es : List Tree) → list_all (λ e. is_some (kind_over t.schema e)) es ≡ true → AllByRecursion (λ e. IsTrue (is_some (kind_over t.schema e))) es
        each [] h = tt
        each (e ∷ es) h = let b = both_hold (is_some (kind_over t.schema e)) (list_all (λ e. is_some (kind_over t.schema e)) es) h in (b.0, each es b.1)

-- a select is large where a part of one of its expressions is
asked_modest : (F : Functions) (at : ℕ) (z : Table) (es : List Named) → AreModest (IsLargeOver F at (select es) z) at z (exprs_of es)
asked_modest F at z es = from_each (IsModest (IsLargeOver F at (select es) z) at z) (exprs_of es) (λ e has p part long. inl (inl (e, p, from_has (exprs_of es) e has, from_has (tree_parts e) p part, long)))

operands_back : (at : ℕ) (input : Stream) (es : List Tree) → exprs_of_all (map (as_operand at input) es) ≡ es
operands_back at input [] = refl
operands_back at input (e ∷ es) = ap (λ es. e ∷ es) (operands_back at input es)

pub exprs_stay_small : ExprsStaySmall
exprs_stay_small F at input s ns es ready count tables choice rows =
    let os = map (as_operand at input) es in
    let a = lower_exprs at input es s in
    let N = a.state.nodes in
    let t' = tables input.0 in
    let back = operands_back at input es in
    let Large = IsLargeOver F at (select (under ns es)) t' in
    let few : IsSmall Large t' = λ long. inr long in
    let modest : AreModest Large at t' (exprs_of_all os) = subst (AreModest Large at t') (exprs_under ns es count ∙ sym back) (asked_modest F at t' (under ns es)) in
    let r = answered_small F at input N tables choice Large few os (all_add at input es) (list_steps F at input N tables choice Large few es) s (there F at input N tables choice Large few s es ready rows)
    (subst (AllTyped F at input N tables choice) (sym back) (typed F at input N tables choice Large few s es ready rows)) modest ([], append-nil N) in
    let Z = tables a.stream.0 in
    let plain = plain_modest Large at Z r.0.small (exprs_of (under ns a.exprs)) (under_all (λ e. IsTrue (is_elementwise e)) ns a.exprs r.1.bundle.plain) in
    ((λ large. by F at ns a.exprs Z Large plain large), r.0.made)
  where
    by : (F : Functions) (at : ℕ) (ns : List Name) (gs : List Tree) (Z : Table) (Large : Type 0) → AreModest Large at Z (exprs_of (under ns gs)) → IsLargeCase F at (select (under ns gs)) (Z ∷ []) → Large
    by F at ns gs Z Large plain (inl large) = step_modest Large at Z (exprs_of (under ns gs)) plain large
    by F at ns gs Z Large plain (inr (U, before, long)) = select_rows Large at F (under ns gs) Z U plain before long

abbrev items_of : ℕ → Stream → List Named → List NamedOperand
items_of at input es = map (λ (e : Named). (e.0, as_operand at input e.1)) es

items_back : (at : ℕ) (input : Stream) (es : List Named) → operands_of (items_of at input es) ≡ map (as_operand at input) (exprs_of es)
items_back at input [] = refl
items_back at input (e ∷ es) = ap (λ os. as_operand at input e.1 ∷ os) (items_back at input es)

pub selects_stay_small : SelectsStaySmall
selects_stay_small F at input s es ready tables choice rows =
    let items = items_of at input es in
    let N = (select_stream at input es s).state.nodes in
    let t' = tables input.0 in
    let is = items_back at input es in
    let back = ap exprs_of_all is ∙ operands_back at input (exprs_of es) in
    let Large = IsLargeOver F at (select es) t' in
    let few : IsSmall Large t' = λ long. inr long in
    let r = selected_small F at input N tables choice Large few items (subst (AllAdd at input) (sym is) (all_add at input (exprs_of es))) (subst (AllSteps F at input N tables choice Large few) (sym is) (list_steps F at input N tables choice Large few (exprs_of es))) s
    (there F at input N tables choice Large few s (exprs_of es) ready rows) (subst (AllTyped F at input N tables choice) (sym back) (typed F at input N tables choice Large few s (exprs_of es) ready rows))
    (subst (AreModest Large at t') (sym back) (asked_modest F at t' es)) ([], append-nil N) in
    r.made
