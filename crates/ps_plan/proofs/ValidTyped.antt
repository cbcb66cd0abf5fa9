-- Each step of a valid plan's reached node is typed.
use Rattle.std.proofs.Common.{◌≡◌, ℕ, ◌++◌, List, [], ◌∷◌, slice_get, refl, sym, subst, ◌∙◌, inl, inr}
use Rattle.std.specs.Prelude.{Bool, true, false, not, ◌&&◌, ◌||◌, Option, Some, None, is_some, is_none, Contains, IfSome}
use Rattle.std.specs.List.{AllByRecursion, list_any}
use Rattle.std.specs.Str.{bytes_eq}
use Rattle.pu_base.specs.declared.arena.Node.{Node}
use Rattle.ps_frame.proofs.Lists.{and_both, both}
use Rattle.ps_frame.proofs.Typings.{kinds-exact}
use Rattle.ps_frame.specs.Frames.{has_name}
use Rattle.ps_frame.specs.Functions.{Functions}
use Rattle.ps_frame.specs.Parts.{is_column_of, reads_column, some_part, tree_parts}
use Rattle.ps_frame.specs.Refusals.{breaks_rule, is_left_out, is_missing, is_unknown}
use Rattle.ps_frame.specs.Tables.{Fields, field_kind}
use Rattle.ps_frame.specs.Trees.{Tree, tree_at}
use Rattle.ps_frame.specs.Typing.{kind_over}
use Rattle.ps_plan.specs.Graph.{here, Reached, exprs_at, named_by}
use Rattle.ps_meaning.specs.Laws.{AreTyped, HoldsFitting, IsTyped, IsTypedStep}
use Rattle.ps_plan.specs.Graph.{EachReached}
use Rattle.ps_plan.specs.Plans.{Plan, plan_at, plan_trees_of, tree_of}
use Rattle.ps_meaning.specs.StepRefusals.{Refusal, TypingRefused, break_rules, column_not_found, lacks_column, pairs_differ, schema_mismatch, unsupported}
use Rattle.ps_plan.specs.Refusals.{IsClean, IsValid, expr_left_out}
use Rattle.ps_meaning.specs.Schemas.{first_schema, second_schema, tree_schemas}
use Rattle.ps_meaning.specs.Sound.{have_all_kinds, have_kinds_over}
use Rattle.ps_meaning.specs.Steps.{Name, Step, scan, project, select, hstack, filter, slice, sink, row_index, user, sort, union, hconcat, cache, group_by, join, distinct, left_out, exprs_of, step_exprs}
use Rattle.ps_plan.specs.Entries.{entry_exprs, entry_inputs, entry_step}
use Rattle.ps_plan.specs.declared.ir.IR.{IR}
use Rattle.ps_meaning.proofs.Begins.{or-left, or-right}
use Rattle.ps_plan.proofs.CleanPlans.{each-reached, inputs_of, made_of, reached-clean, reached-is}
use Rattle.ps_plan.proofs.Complete.{exprs-each, numbers}
use Rattle.ps_meaning.proofs.MeaningFits.{kind-some}
use Rattle.ps_meaning.proofs.Containing.{contains-first, contains-later}
use Rattle.ps_meaning.proofs.StepFits.{or-parts, same-name}
use Rattle.ps_plan.proofs.TypedKinds.{AreBuilt, AreFree, IsBuiltTree, accepted, all-left, all-right, expr-built}
use Rattle.ps_plan.proofs.TypedSteps.{alike, inputs-distinct}
use Rattle.ps_plan.proofs.ValidPlans.{in-range, no-circle}

never-true : (b : Bool) → (b ≡ true → ⊥) → b ≡ false
never-true true h = absurd (h refl)
never-true false h = refl

or-false : (a b : Bool) → a ≡ false → b ≡ false → (a || b) ≡ false
or-false true b e f = e
or-false false b e f = f

some-is : {A : Type 0} (o : Option A) → is_some o ≡ true → is_none o ≡ false
some-is None h = sym h
some-is (Some x) h = refl

has-true : (b : Bool) → not b ≡ false → b ≡ true
has-true true h = refl
has-true false h = sym h

module _ (s : Fields) where
  known : (p : Tree) → ((n : Name) → (is_column_of n p && not (has_name n s)) ≡ true → ⊥) → is_unknown s p ≡ false
  known (Tree.column n) h = some-is (field_kind n s) (kind-some n s (has-true (has_name n s) (never-true (not (has_name n s)) (λ q. h n (and_both (bytes_eq n n) (not (has_name n s)) (same-name n) q)))))
  known (Tree.literal l) h = refl
  known (Tree.binary o l r) h = refl
  known (Tree.cast k b e) h = refl
  known (Tree.sort d n e) h = refl
  known (Tree.sort_by d n e by) h = refl
  known (Tree.gather b e i) h = refl
  known (Tree.filter e by) h = refl
  known (Tree.aggregate a e) h = refl
  known (Tree.ternary p a b) h = refl
  known (Tree.function g e) h = refl
  known (Tree.slice e o l) h = refl
  known Tree.len h = refl
  known (Tree.left_out w) h = refl
  known Tree.missing h = refl

  -- an absent name that one of two reads is one that either reads
  reads-first : (a b c : Bool) → ((a || b) && c ≡ true → ⊥) → a && c ≡ true → ⊥
  reads-first a b c h q = let parts = both a c q in h (and_both (a || b) c (or-left a b parts.0) parts.1)

  reads-later : (a b c : Bool) → ((a || b) && c ≡ true → ⊥) → b && c ≡ true → ⊥
  reads-later a b c h q = let parts = both b c q in h (and_both (a || b) c (or-right a b parts.0) parts.1)

  free : (ps : List Tree) → AreBuilt ps → list_any (breaks_rule s) ps ≡ false → ((n : Name) → (list_any (is_column_of n) ps && not (has_name n s)) ≡ true → ⊥) → AreFree s ps
  free [] built rules names = tt
  free (p ∷ ps) built rules names =
      let parts = or-parts (breaks_rule s p) (list_any (breaks_rule s) ps) rules in (
        or-false (is_unknown s p) _ (known p (λ n. reads-first (is_column_of n p) (list_any (is_column_of n) ps) (not (has_name n s)) (names n)))
            (or-false (breaks_rule s p) (is_left_out p || is_missing p) parts.0 built.0),
        free ps built.1 parts.1 (λ n. reads-later (is_column_of n p) (list_any (is_column_of n) ps) (not (has_name n s)) (names n)),
      )

  exprs-kinds : (es : List Tree) → AllByRecursion IsBuiltTree es → break_rules s es ≡ false → ((n : Name) → lacks_column n s es ≡ true → ⊥) → have_all_kinds s es ≡ true
  exprs-kinds [] built rules names = refl
  exprs-kinds (e ∷ es) built rules names =
      let parts = or-parts (some_part (breaks_rule s) e) (break_rules s es) rules in
      and_both (is_some (kind_over s e)) (have_all_kinds s es)
      (kinds-exact s e ∙ accepted s e (free (tree_parts e) built.0 parts.0 (λ n. reads-first (reads_column n e) (list_any (reads_column n) es) (not (has_name n s)) (names n))))
      (exprs-kinds es built.1 parts.1 (λ n. reads-later (reads_column n e) (list_any (reads_column n) es) (not (has_name n s)) (names n)))

module _ (F : Functions) where
  step-kinds : (step : Step) (ss : List Fields) → AllByRecursion IsBuiltTree (step_exprs step) → ((R : Refusal) → ¬ TypingRefused F step ss R) → have_kinds_over ss step ≡ true
  step-kinds (scan f ns) ss built rules = refl
  step-kinds (project ns) ss built rules = refl
  step-kinds (select es) ss built rules = exprs-kinds (first_schema ss) (exprs_of es) built (never-true _ (λ b. rules schema_mismatch (inr b))) (λ n l. rules (column_not_found n) l)
  step-kinds (hstack es) ss built rules = exprs-kinds (first_schema ss) (exprs_of es) built (never-true _ (λ b. rules schema_mismatch (inr b))) (λ n l. rules (column_not_found n) l)
  step-kinds (filter e) ss built rules = exprs-kinds (first_schema ss) (e ∷ []) built (never-true _ (λ b. rules schema_mismatch (inr b))) (λ n l. rules (column_not_found n) l)
  step-kinds (slice offset n) ss built rules = refl
  step-kinds (sink payload) ss built rules = refl
  step-kinds (row_index name offset) ss built rules = refl
  step-kinds (user n) ss built rules = refl
  step-kinds (sort o) ss built rules = exprs-kinds (first_schema ss) o.keys built (never-true _ (λ b. rules schema_mismatch (inr b))) (λ n l. rules (column_not_found n) l)
  step-kinds (union cut) ss built rules = refl
  step-kinds hconcat ss built rules = refl
  step-kinds (cache id) ss built rules = refl
  step-kinds (group_by o) ss built rules =
      exprs-kinds (first_schema ss) (exprs_of o.keys ++ exprs_of o.aggregates) built (never-true _ (λ b. rules schema_mismatch (inr b))) (λ n l. rules (column_not_found n) l)
  step-kinds (join o) ss built rules =
      let paired = pairs_differ (first_schema ss) (second_schema ss) o.left_on o.right_on in
      let sides =
      or-parts (break_rules (first_schema ss) o.left_on || break_rules (second_schema ss) o.right_on) paired
      (never-true (break_rules (first_schema ss) o.left_on || break_rules (second_schema ss) o.right_on || paired) (λ b. rules schema_mismatch (inl b))) in
      let each = or-parts (break_rules (first_schema ss) o.left_on) (break_rules (second_schema ss) o.right_on) sides.0 in
      and_both _ _
      (exprs-kinds (first_schema ss) o.left_on (all-left IsBuiltTree o.left_on o.right_on built) each.0 (λ n q. rules (column_not_found n) (or-left (lacks_column n (first_schema ss) o.left_on) (lacks_column n (second_schema ss) o.right_on) q)))
      (exprs-kinds (second_schema ss) o.right_on (all-right IsBuiltTree o.left_on o.right_on built) each.1 (λ n q. rules (column_not_found n) (or-right (lacks_column n (first_schema ss) o.left_on) (lacks_column n (second_schema ss) o.right_on) q)))
  step-kinds (distinct o) ss built rules = refl
  step-kinds (left_out what) ss built rules = refl

module _ (F : Functions) (plan : Plan) (valid : IsValid F plan) where
  -- the expressions of a reached node hold nothing that is left out
  own-built : (n e : ℕ) → Reached plan n → Contains (exprs_at plan n) e → IsBuiltTree (tree_at plan.exprs (record { 0 = e }))
  own-built n e reached own =
      expr-built plan e
      (λ m w way q. valid n (unsupported w) (record { reached = reached; because = inl (inr (expr_left_out m (record { from = e; is_own = own; way = way }) q)) }))
      (λ m way. (no-circle F plan valid n reached).exprs n m here (record { from = e; is_own = own; way = way }))
      (λ m way. (in-range F plan valid n reached).exprs n m here (record { from = e; is_own = own; way = way }))

  exprs-built : (n : ℕ) (x : IR) → Reached plan n → slice_get plan.nodes n ≡ Some x → AllByRecursion IsBuiltTree (step_exprs (entry_step (tree_at plan.exprs) x))
  exprs-built n x reached is =
      exprs-each (tree_at plan.exprs) IsBuiltTree x (λ m c. own-built n m.0 reached (subst (λ (o : Option IR). Contains (named_by entry_exprs o) m.0) (sym is) c))

  pub typed-step : (n : ℕ) (x : IR) → Reached plan n → slice_get plan.nodes n ≡ Some x → IsClean F plan (made_of F plan valid n x) → IsTypedStep F (entry_step (tree_at plan.exprs) x) (tree_schemas F (inputs_of F plan valid x))
  typed-step n x reached is clean =
      record {
        kinds = step-kinds F (entry_step (tree_at plan.exprs) x) (tree_schemas F (inputs_of F plan valid x)) (exprs-built n x reached is) clean.2;
        rules = clean.2;
        alike = alike F (entry_step (tree_at plan.exprs) x) (tree_schemas F (inputs_of F plan valid x)) clean.2;
        names = inputs-distinct F plan (inputs_of F plan valid x) clean.0;
      }

  module _ (holds : EachReached HoldsFitting plan) where
    typed-inputs : (ns : List Node) → ((m : Node) → Contains (numbers ns) m.0 → IsTyped F (plan_at plan.nodes plan.exprs m)) → AreTyped F (plan_trees_of (plan_at plan.nodes plan.exprs) ns)
    typed-inputs [] all = tt
    typed-inputs (n ∷ ns) all = (all n (contains-first n.0 _), typed-inputs ns (λ m c. all m (contains-later n.0 m.0 _ c)))

    typed-node : (n : ℕ) (x : IR) → Reached plan n → slice_get plan.nodes n ≡ Some x → ((m : Node) → Contains (numbers (entry_inputs x)) m.0 → IsTyped F (tree_of plan m.0)) → IsTyped F (tree_of plan n)
    typed-node n x reached is all =
        let q = reached-is F plan valid n x reached is in
        subst (IsTyped F) (sym q) (
          typed-step n x reached is (subst (IsClean F plan) q (reached-clean F plan valid n reached)),
          subst (λ (o : Option IR). IfSome o (λ x. HoldsFitting (entry_step (tree_at plan.exprs) x))) is (holds n reached),
          typed-inputs (entry_inputs x) all,
        )

    pub reached-typed : (n : ℕ) → Reached plan n → IsTyped F (tree_of plan n)
    reached-typed = each-reached F plan valid (λ n. IsTyped F (tree_of plan n)) typed-node
