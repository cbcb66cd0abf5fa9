-- What the rules make at an expression of any kind.
use Rattle.std.proofs.Common.{◌≡◌, ◌≢◌, inl, inr, ℕ, suc, ◌+◌, ◌≤◌, ◌^◌, Bool, true, false, not, cond, List, [], ◌∷◌, ◌++◌, length, Some, None, refl, sym, ap, subst, ◌∙◌, arith}
use Rattle.std.specs.Prelude.{IsTrue, Option, is_some, map, unwrap_or, ◌==◌, ◌&&◌, ◌||◌}
use Rattle.std.specs.Cmp.Lexicographic.{bytes_decides}
use Rattle.std.specs.List.{AllByRecursion}
use Rattle.std.specs.Str.{bytes_eq}
use Rattle.std.proofs.lemmas.Bool.{eqb-true, or_cases}
use Rattle.std.proofs.lemmas.List.{append-nil, length-map}
use Rattle.std.proofs.lemmas.Option.{same_Some}
use Rattle.ps_frame.proofs.Lists.{and_both}
use Rattle.ps_frame.specs.Frames.{has_distinct_names}
use Rattle.ps_frame.specs.Functions.{Functions}
use Rattle.ps_frame.specs.Tables.{Fields, field_kind}
use Rattle.ps_frame.specs.Trees.{Aggregation, Tree, Trees}
use Rattle.ps_frame.specs.Typing.{aggregate_kind, branch_kind, fits_keys, have_kinds, is_kind, kind_over, tree_count}
use Rattle.ps_frame.specs.declared.expr.Operator.{Operator}
use Rattle.ps_frame.specs.declared.value.DataType.{DataType}
use Rattle.ps_frame.specs.declared.value.DataType.TheVariants as kind
use Rattle.ps_meaning.specs.Schemas.{fields_of, is_among, named_fields, names_of}
use Rattle.ps_meaning.specs.Shape.{PhysicalNode, Shape, filter_node, in_memory_map, reduce, simple_projection}
use Rattle.ps_meaning.specs.Sound.{have_all_kinds}
use Rattle.ps_meaning.specs.Steps.{Name, Named, SortStep, exprs_of, sort}
use Rattle.ps_rules.specs.Bundles.{finished, is_stream_alone, one_of}
use Rattle.ps_rules.specs.Calls.{Answer, Bundle, Call, Operand, given_reduction, left_to_map}
use Rattle.ps_rules.specs.Lowered.{as_operand, lower, operands, select_stream}
use Rattle.ps_rules.specs.Names.{Names}
use Rattle.ps_rules.specs.Rules.{NamedOperand, aggregated, first_tree, over_operands, reduced_apart, reduced_column, selected, sorted_by, together}
use Rattle.ps_rules.specs.Slots.{Made, State, Stream, after_name, after_names, columns_named, new_name, new_names, projection, same_names, schema_at, schema_or_none, selected_schema, under, with_columns}
use Rattle.ps_shares.specs.CallLaws.{listed}
use Rattle.ps_shares.specs.Kept.{IsOrdered}
use Rattle.ps_shares.proofs.Adding.{IsNode, adds_same, adds_then, all_add, all_grow, columns_made, inserted, named_nodes, under_made}
use Rattle.ps_shares.proofs.Ends.{exprs_under, last_there}
use Rattle.ps_shares.proofs.FlatLength.{both_hold}
use Rattle.ps_shares.proofs.Fresh.{Grown, grown_fresh, grown_names, grown_same, grown_then}
use Rattle.ps_shares.proofs.Growing.{binary_of, cast_of, columns_names, finished_names, grows_under, ternary_of}
use Rattle.ps_shares.proofs.Projected.{kind_as, named_as}
use Rattle.ps_shares.proofs.Stands.{some_aggregate, some_binary, some_branch, some_cast, some_if, some_kind}
use Rattle.ps_bundles.proofs.Reading.{has_fields}
use Rattle.ps_bundles.proofs.SortSteps.{cons_some, split_fields}
use Rattle.ps_bundles.proofs.ZipEnds.{differ}
use Rattle.name_rules.proofs.Items.{count_names, each_among, names_under, same_is, some_under}
use Rattle.name_rules.specs.Lawful.{KeepsRules}
use Rattle.name_rules.proofs.Extending.{extends_none, extends_one, extends_then}
use Rattle.name_rules.proofs.Ruling.{FlagsFit, field_names, filter_right, project_right, reduce_right, some_fields, sort_right, typed_fields}
use Rattle.name_rules.proofs.Streams.{same_is as same_stream_is}
use Rattle.name_rules.proofs.Times.{FreshOnce, fewer_fresh, names_fresh, one_fresh, times}
use Rattle.lowering_kinds.proofs.Selecting.{items_of, selects_have_fields}
use Rattle.lowering_names.proofs.Calling.{Does, AllDo, AllTyped, Fine, Good, Later, Makes, Right, StepTo, Steps, Typed, answered_kinds, answered_later, answered_right, bundle_steps, fine_later, given_steps, is_node, later_then, left_steps, ops, ready, reduction_steps, schema_is, select_makes, stays_or_steps, together_later, together_right}

-- names that were fresh still are once more are known
later_fresh : (a b c : Names) (u : Name → ℕ) → Grown b c → FreshOnce a b u → FreshOnce a c u
later_fresh a b c u g h = record { once = h.once; fresh = λ n some. let f = h.fresh n some in (f.0, g.0 n f.1) }

-- and are fresh since fewer were known
sooner_fresh : (a b c : Names) (u : Name → ℕ) → Grown a b → FreshOnce b c u → FreshOnce a c u
sooner_fresh a b c u g h = record { once = h.once; fresh = λ n some. let f = h.fresh n some in ((λ known. f.0 (g.0 n known)), f.1) }

-- the first of names stands there
first_among : (n : Name) (ns : List Name) → is_among n (n ∷ ns) ≡ true
first_among n ns = ap (λ b. b || is_among n ns) ((bytes_decides n n).1 refl)

later_among : (m n : Name) (ns : List Name) → is_among m ns ≡ true → is_among m (n ∷ ns) ≡ true
later_among m n ns h = by (bytes_eq m n)
  where
    by : (b : Bool) → (b || is_among m ns) ≡ true
    by true = refl
    by false = h

own_among : (ns ms : List Name) → ((m : Name) → is_among m ns ≡ true → is_among m ms ≡ true) → AllByRecursion (λ m. is_among m ms ≡ true) ns
own_among [] ms g = tt
own_among (n ∷ ns) ms g = (g n (first_among n ns), own_among ns ms (λ m h. g m (later_among m n ns h)))

-- columns that stand in a schema have kinds there
kind_there : (g : Fields) (n : Name) → is_among n (names_of g) ≡ true → is_some (field_kind n g) ≡ true
kind_there g n h = kind_as n g ∙ sym (named_as n g) ∙ h

columns_typed : (g : Fields) (ns : List Name) → AllByRecursion (λ n. is_among n (names_of g) ≡ true) ns → have_all_kinds g (columns_named ns) ≡ true
columns_typed g [] all = refl
columns_typed g (n ∷ ns) all = and_both (is_some (field_kind n g)) (have_all_kinds g (columns_named ns)) (kind_there g n all.0) (columns_typed g ns all.1)

-- expressions under names, as operands
module _ (F : Functions) (at : ℕ) (input : Stream) where
  under_items : (ns : List Name) (es : List Tree) → items_of F at input (under ns es) ≡ under ns (map (as_operand at input) es)
  under_items [] es = refl
  under_items (n ∷ ns) [] = refl
  under_items (n ∷ ns) (e ∷ es) = ap (λ is. (n, as_operand at input e) ∷ is) (under_items ns es)

  keys_listed : (by : Trees) → map (as_operand at input) (listed by) ≡ operands at input by
  keys_listed Trees.no_trees = refl
  keys_listed (Trees.tree e es) = ap (λ os. as_operand at input e ∷ os) (keys_listed es)

count_listed : (by : Trees) → length (listed by) ≡ tree_count by
count_listed Trees.no_trees = refl
count_listed (Trees.tree e es) = ap suc (count_listed es)

flags_of : (flags : List Bool) (n : ℕ) → fits_keys flags n ≡ true → FlagsFit flags n
flags_of flags n h = elim (or_cases (length flags == 1) (length flags == n) h) [ inl k ↦ inl (eqb-true (length flags) 1 k) | inr k ↦ inr (eqb-true (length flags) n k) ]

two_ones : (b c : Bool) → b ≡ true → c ≡ true → cond b 1 0 + (cond c 1 0 + 0) ≤ 1 → ⊥
two_ones true true p q le = absurd (omega arith)
two_ones true false p q le = cc
two_ones false c p q le = cc

boolean_of : (o : Option DataType) → is_kind kind.Boolean o ≡ true → o ≡ Some kind.Boolean
boolean_of None h = cc
boolean_of (Some kind.Boolean) h = refl
boolean_of (Some kind.Int64) h = cc
boolean_of (Some kind.IdxSize) h = cc
boolean_of (Some kind.String) h = cc

module _ (F : Functions) (at : ℕ) (input : Stream) (node : PhysicalNode) (distinct : IsTrue (has_distinct_names node.schema)) where
  abbrev f : Fields
  f = node.schema

  -- The select of some expressions under fresh names.
  record Chosen (s : State) (ns : List Name) (es : List Tree) (m : Made) : Type 0 where
    made : Makes F at input node distinct s.nodes m.state.nodes
    later : Later F at input node distinct s m.state
    there : IsNode m.state.nodes m.stream
    fields : fields_of (under ns es) f ≡ Some (schema_at m.state.nodes m.stream)
    names : names_of (schema_at m.state.nodes m.stream) ≡ ns
    some : schema_at m.state.nodes m.stream ≢ []
    fresh : FreshOnce s.names m.state.names (λ n. times n ns)

  module _ (es : List Tree) (steps : AllDo F at input node distinct es) (s : State) (fine : Fine F at input node distinct s) (typed : AllTyped F at input node distinct es) (some : es ≢ []) where
    abbrev os : List Operand
    os = ops F at input node distinct es

    abbrev ns : List Name
    ns = new_names os s

    abbrev from : State
    from = after_names os s

    abbrev m : Made
    m = selected at input (under ns os) from

    count : length ns ≡ length es
    count = count_names os s ∙ length-map es (as_operand at input)

    chosen_later : Later F at input node distinct s m.state
    chosen_later =
        ((under_made at input os (all_add at input es) s fine.ordered (is_node F at input node distinct s fine)).0, grown_then s.names from.names m.state.names (grown_names os s) (grows_under at input os (all_grow at input es) s))

    from_later : Later F at input node distinct s from
    from_later = (let e = named_nodes os s in ((([], e ∙ sym (append-nil s.nodes)), subst IsOrdered (sym e) fine.ordered), grown_names os s))

    chosen : m.state.names.next ≤ 2 ^ 64 → Chosen s ns es m
    chosen small =
        let items : List Named = under ns es in
        let e = under_items F at input ns es in
        let k = select_stream at input items from in
        let same : m ≡ k = ap (λ (is : List NamedOperand). selected at input is from) (sym e) in
        let back = exprs_under ns es count in
        let own = names_under ns es count in
        let here = fine_later F at input node distinct s from from_later fine in
        let typed' : AllTyped F at input node distinct (exprs_of items) = subst (AllTyped F at input node distinct) (sym back) typed in
        let small' : k.state.names.next ≤ 2 ^ 64 = subst (λ (m : Made). m.state.names.next ≤ 2 ^ 64) same small in
        let range = grows_under at input os (all_grow at input es) s in
        let le = range.1 in
        let fresh = names_fresh os s (omega arith) in
        let some' : exprs_of items ≢ [] = λ q. some (sym back ∙ q) in
        let few = some_under ns es count some in
        let made = select_makes F at input node distinct items (subst (AllDo F at input node distinct) (sym back) steps) from here typed' few (λ n. let o = fresh.once n in let q = ap (times n) own in omega arith) small' in
        let fields = sym (ap (fields_of items) (schema_is F at input node distinct from here)) ∙ selects_have_fields F at input from items (ready F at input node distinct from here (exprs_of items) typed' some') small' in
        let is : schema_at m.state.nodes m.stream ≡ schema_at k.state.nodes k.stream = ap (λ (m : Made). schema_at m.state.nodes m.stream) same in
        record {
          made = subst (λ (nodes : Shape). Makes F at input node distinct nodes m.state.nodes) (named_nodes os s) (subst (λ (m : Made). Makes F at input node distinct from.nodes m.state.nodes) (sym same) made);
          later = chosen_later;
          there = (under_made at input os (all_add at input es) s fine.ordered (is_node F at input node distinct s fine)).1;
          fields = fields ∙ ap (λ g. Some g) (sym is);
          names = ap names_of is ∙ field_names f items (schema_at k.state.nodes k.stream) fields ∙ own;
          some = λ q. some_fields f items (schema_at k.state.nodes k.stream) fields few (sym is ∙ q);
          fresh = later_fresh s.names from.names m.state.names (λ n. times n ns) (grows_under at input os (all_grow at input es) s) fresh;
        }

  sort_steps : (d n : Bool) (e : Tree) → Does F at input node distinct e → Does F at input node distinct (Tree.sort d n e)
  sort_steps d n e step a c g fine h typed small =
      let s = c.state in
      let name = new_name s in
      let os : List Operand = as_operand at input e ∷ [] in
      let m = selected at input (under (new_names os s) os) (after_names os s) in
      let r = chosen (e ∷ []) (step, tt) s fine (typed, tt) (cons_some e []) small in
      let z = schema_at m.state.nodes m.stream in
      let o : SortStep = record { keys = Tree.column name ∷ []; descending = d ∷ []; nulls_last = n ∷ []; cut = None } in
      let p : PhysicalNode = record { kind = in_memory_map (sort o); schema = z; origin = at; inputs = m.stream ∷ [] } in
      let v : Made = record { state = record { nodes = m.state.nodes ++ p ∷ []; names = m.state.names }; stream = (length m.state.nodes, 0) } in
      let is : schema_at v.state.nodes v.stream ≡ z = ap schema_or_none (last_there m.state.nodes p) in
      let there : is_among name (names_of z) ≡ true = ap (is_among name) r.names ∙ first_among name [] in
      let right = sort_right F o z r.some (λ n. let k = r.fresh.once n in let q = ap (times n) r.names in omega arith) (columns_typed z (name ∷ []) (there, tt)) (cons_some (Tree.column name) []) (inl refl) (inl refl) in
      let l = inserted m.state p r.later.0.1 (r.there, tt) in
      given_steps F at input node distinct (Tree.column name) a c v g (later_then F at input node distinct s m.state v.state r.later (l.0, grown_same m.state.names)) h l.1 (λ q. r.some (sym is ∙ q))
      (fewer_fresh s.names m.state.names (λ n. times n (name ∷ [])) (λ n. times n (names_of (schema_at v.state.nodes v.stream))) (λ n. let q = ap (times n) (ap names_of is ∙ r.names) in omega arith) r.fresh)
      (extends_then (Right F at input node distinct) s.nodes m.state.nodes v.state.nodes r.made (extends_one (Right F at input node distinct) m.state.nodes p right))

  filter_steps : (e by : Tree) → Does F at input node distinct e → Does F at input node distinct by → Does F at input node distinct (Tree.filter e by)
  filter_steps e by step step' a c g fine h typed small =
      let s = c.state in
      let name = new_name s in
      let test = new_name (after_name s) in
      let os : List Operand = as_operand at input e ∷ as_operand at input by ∷ [] in
      let m = selected at input (under (new_names os s) os) (after_names os s) in
      let w = some_if (is_kind kind.Boolean (kind_over f by)) (kind_over f e) typed in
      let boolean = boolean_of (kind_over f by) w.0 in
      let r = chosen (e ∷ by ∷ []) (step, (step', tt)) s fine (w.1, (some_kind kind.Boolean (kind_over f by) w.0, tt)) (cons_some e (by ∷ [])) small in
      let z = schema_at m.state.nodes m.stream in
      let p : PhysicalNode = record { kind = filter_node (Tree.column test); schema = z; origin = at; inputs = m.stream ∷ [] } in
      let v : Made = record { state = record { nodes = m.state.nodes ++ p ∷ []; names = m.state.names }; stream = (length m.state.nodes, 0) } in
      let is : schema_at v.state.nodes v.stream ≡ z = ap schema_or_none (last_there m.state.nodes p) in
      let once : (n : Name) → times n (names_of z) ≤ 1 = λ n. (let k = r.fresh.once n in let q = ap (times n) r.names in omega arith) in
      let right = filter_right F (Tree.column test) z r.some once (second_kind name test e by z kind.Boolean r.fields boolean (λ q. two_same name test q (r.fresh.once name))) in
      let l = inserted m.state p r.later.0.1 (r.there, tt) in
      given_steps F at input node distinct (Tree.column name) a c v g (later_then F at input node distinct s m.state v.state r.later (l.0, grown_same m.state.names)) h l.1 (λ q. r.some (sym is ∙ q))
      (fewer_fresh s.names m.state.names (λ n. times n (name ∷ test ∷ [])) (λ n. times n (names_of (schema_at v.state.nodes v.stream))) (λ n. let q = ap (times n) (ap names_of is ∙ r.names) in omega arith) r.fresh)
      (extends_then (Right F at input node distinct) s.nodes m.state.nodes v.state.nodes r.made (extends_one (Right F at input node distinct) m.state.nodes p right))
    where
      -- the kind of the second of two fields
      second_kind : (n k : Name) (x y : Tree) (z : Fields) (b : DataType) → fields_of ((n, x) ∷ (k, y) ∷ []) f ≡ Some z → kind_over f y ≡ Some b → (bytes_eq k n ≡ true → ⊥) → field_kind k z ≡ Some b
      second_kind n k x y z b h is apart =
          let p = split_fields n x ((k, y) ∷ []) f z h in
          let q = split_fields k y [] f p.1 p.3 in
          let same : q.0 ≡ b = same_Some q.0 b (sym q.2 ∙ is) in
          ap (field_kind k) (p.4 ∙ ap (λ gs. (n, p.0) ∷ gs) q.4) ∙ second_is (bytes_eq k n) refl (bytes_eq k k) ((bytes_decides k k).1 refl) (Some p.0) q.0 q.1 same
        where
          second_is : (s : Bool) → bytes_eq k n ≡ s → (t : Bool) → t ≡ true → (first : Option DataType) (second : DataType) (rest : Fields) → second ≡ b → cond s first (cond t (Some second) (field_kind k rest)) ≡ Some b
          second_is true r t e first second rest same = absurd (apart r)
          second_is false r t e first second rest same = ap (λ t. cond t (Some second) (field_kind k rest)) e ∙ ap Some same

      two_same : (n k : Name) → bytes_eq k n ≡ true → times n (n ∷ k ∷ []) ≤ 1 → ⊥
      two_same n k q le = two_ones (bytes_eq n n) (bytes_eq n k) ((bytes_decides n n).1 refl) ((bytes_decides n k).1 (sym ((bytes_decides k n).0 q))) le

  -- one column of a stream
  record One (s : State) (n : Name) (w : Made) : Type 0 where
    made : Makes F at input node distinct s.nodes w.state.nodes
    names : names_of (schema_at w.state.nodes w.stream) ≡ n ∷ []

  one_column : (n : Name) (i : Stream) (s : State) → is_among n (names_of (schema_at s.nodes i)) ≡ true → One s n (with_columns at (n ∷ []) i s)
  one_column n i s there = by (same_names (n ∷ []) (names_of g)) refl
    where
      g : Fields
      g = schema_at s.nodes i

      by : (b : Bool) → same_names (n ∷ []) (names_of g) ≡ b → One s n (cond {A = Made} b (record { state = s; stream = i }) (projection at (n ∷ []) i s))
      by true q = record { made = extends_none (Right F at input node distinct) s.nodes; names = sym (same_is (n ∷ []) (names_of g) q) }
      by false q =
          let fs = has_fields (n ∷ []) g (there, tt) in
          let is : unwrap_or (named_fields (n ∷ []) g) [] ≡ fs.fields = ap (λ o. unwrap_or o []) fs.found in
          let p : PhysicalNode = record { kind = simple_projection (n ∷ []); schema = unwrap_or (named_fields (n ∷ []) g) []; origin = at; inputs = i ∷ [] } in
          record {
            made =
                extends_one (Right F at input node distinct) s.nodes p
                (subst (λ (h : Fields). KeepsRules F (simple_projection (n ∷ [])) h (g ∷ [])) (sym is)
                (project_right F (n ∷ []) g fs.fields fs.found fs.names (cons_some n []) (λ m. one (bytes_eq m n)) (each_among (n ∷ []) (names_of g) (there, tt))));
            names = ap (λ o. names_of (schema_or_none o)) (last_there s.nodes p) ∙ ap names_of is ∙ fs.names;
          }
        where
          one : (b : Bool) → cond b 1 0 + 0 ≤ 1
          one true = omega arith
          one false = omega arith

  -- a sort by keys
  kinds_listed : (by : Trees) → have_kinds f by ≡ true → AllTyped F at input node distinct (listed by)
  kinds_listed Trees.no_trees h = tt
  kinds_listed (Trees.tree e es) h = let b = both_hold (is_some (kind_over f e)) (have_kinds f es) h in (b.0, kinds_listed es b.1)

  keyed_steps : (d n : List Bool) (e : Tree) (keys : List Tree) → AllDo F at input node distinct (e ∷ keys) → AllTyped F at input node distinct (e ∷ keys) → keys ≢ [] → FlagsFit d (length keys) → FlagsFit n (length keys)
      → (a : Names) (c : Call) → Grown a c.state.names → Fine F at input node distinct c.state → Good F at input node distinct a c → (sorted_by at input d n (as_operand at input e) (map (as_operand at input) keys) c).state.names.next ≤ 2 ^ 64
      → StepTo F at input node distinct a c (sorted_by at input d n (as_operand at input e) (map (as_operand at input) keys) c)
  keyed_steps d n e keys steps typed some fd fn a c g fine h small =
      let s = c.state in
      let name = new_name s in
      let ks = map (as_operand at input) keys in
      let os : List Operand = as_operand at input e ∷ ks in
      let rest = new_names ks (after_name s) in
      let m = selected at input (under (new_names os s) os) (after_names os s) in
      let z = schema_at m.state.nodes m.stream in
      let o : SortStep = record { keys = columns_named rest; descending = d; nulls_last = n; cut = None } in
      let p : PhysicalNode = record { kind = in_memory_map (sort o); schema = z; origin = at; inputs = m.stream ∷ [] } in
      let v : Made = record { state = record { nodes = m.state.nodes ++ p ∷ []; names = m.state.names }; stream = (length m.state.nodes, 0) } in
      let w = with_columns at (name ∷ []) v.stream v.state in
      let same : w.state.names ≡ m.state.names = columns_names at input (name ∷ []) v.stream v.state in
      let r = chosen (e ∷ keys) steps s fine typed (cons_some e keys) (subst (λ (a : Names). a.next ≤ 2 ^ 64) same small) in
      let is : schema_at v.state.nodes v.stream ≡ z = ap schema_or_none (last_there m.state.nodes p) in
      let among : (k : Name) → is_among k (name ∷ rest) ≡ true → is_among k (names_of z) ≡ true = λ k q. ap (is_among k) r.names ∙ q in
      let count : length (columns_named rest) ≡ length keys = length-map rest (λ n. Tree.column n) ∙ count_names ks (after_name s) ∙ length-map keys (as_operand at input) in
      let right =
      sort_right F o z r.some (λ n. let k = r.fresh.once n in let q = ap (times n) r.names in omega arith) (columns_typed z rest (own_among rest (names_of z) (λ k q. among k (later_among k name rest q)))) (no_keys keys rest some count)
      (subst (FlagsFit d) (sym count) fd) (subst (FlagsFit n) (sym count) fn) in
      let l = inserted m.state p r.later.0.1 (r.there, tt) in
      let k = columns_made at input (name ∷ []) v.stream v.state l.0.1 l.1 in
      let x = one_column name v.stream v.state (ap (λ (g : Fields). is_among name (names_of g)) is ∙ among name (first_among name rest)) in
      let there : names_of (schema_at w.state.nodes w.stream) ≡ name ∷ [] = x.names in
      given_steps F at input node distinct (Tree.column name) a c w g (adds_then s.nodes v.state.nodes w.state.nodes (adds_then s.nodes m.state.nodes v.state.nodes r.later.0 l.0) k.0, subst (λ (a : Names). Grown s.names a) (sym same) r.later.1) h k.1
      (λ q. let none : name ∷ [] ≡ [] = sym there ∙ ap names_of q in cc)
      (subst (λ (b : Names). FreshOnce s.names b (λ n. times n (names_of (schema_at w.state.nodes w.stream)))) (sym same)
      (fewer_fresh s.names m.state.names (λ n. times n (name ∷ rest)) (λ n. times n (names_of (schema_at w.state.nodes w.stream))) (λ n. let q = ap (times n) there in omega arith) r.fresh))
      (extends_then (Right F at input node distinct) s.nodes v.state.nodes w.state.nodes
      (extends_then (Right F at input node distinct) s.nodes m.state.nodes v.state.nodes r.made (extends_one (Right F at input node distinct) m.state.nodes p right)) x.made)
    where
      no_keys : (keys : List Tree) (rest : List Name) → keys ≢ [] → length (columns_named rest) ≡ length keys → columns_named rest ≢ []
      no_keys [] rest some count e = some refl
      no_keys (k ∷ keys) rest some count e = let none = ap length e in absurd (omega arith)

  sort_by_steps : (d n : List Bool) (e : Tree) (by : Trees) → Does F at input node distinct e → AllDo F at input node distinct (listed by) → Does F at input node distinct (Tree.sort_by d n e by)
  sort_by_steps d n e by step steps a c g fine h typed small =
      let w1 = some_if (have_kinds f by && not (tree_count by == 0) && fits_keys d (tree_count by) && fits_keys n (tree_count by)) (kind_over f e) typed in
      let w2 = both_hold (have_kinds f by && not (tree_count by == 0) && fits_keys d (tree_count by)) (fits_keys n (tree_count by)) w1.0 in
      let w3 = both_hold (have_kinds f by && not (tree_count by == 0)) (fits_keys d (tree_count by)) w2.0 in
      let w4 = both_hold (have_kinds f by) (not (tree_count by == 0)) w3.0 in
      let keys = listed by in
      let count = count_listed by in
      let is = keys_listed F at input by in
      let fd = subst (FlagsFit d) (sym count) (flags_of d (tree_count by) w3.1) in
      let fn = subst (FlagsFit n) (sym count) (flags_of n (tree_count by) w2.1) in
      subst (λ (ks : List Operand). StepTo F at input node distinct a c (sorted_by at input d n (as_operand at input e) ks c)) is
      (keyed_steps d n e keys (step, steps) (w1.1, kinds_listed by w4.0) (λ q. some_keys keys (tree_count by) count w4.1 q) fd fn a c g fine h
      (subst (λ (ks : List Operand). (sorted_by at input d n (as_operand at input e) ks c).state.names.next ≤ 2 ^ 64) (sym is) small))
    where
      some_keys : (keys : List Tree) (n : ℕ) → length keys ≡ n → not (n == 0) ≡ true → keys ≡ [] → ⊥
      some_keys keys n count some e =
          let z : n ≡ 0 = sym count ∙ ap length e in
          let w : not (0 == 0) ≡ true = ap (λ n. not (n == 0)) (sym z) ∙ some in
          cc

  -- a reduction: over the input itself, or over a stream of its own
  alone_is : (ss : List Stream) (rs : List Named) (s : State) → is_stream_alone input ss rs ≡ true → one_of at input ss rs s ≡ record { state = s; stream = input }
  alone_is [] [] s h = cc
  alone_is [] (r ∷ rs) s h = cc
  alone_is (i ∷ []) [] s h = let is = same_stream_is input i h in λ j. record { state = s; stream = sym is j }
  alone_is (i ∷ []) (r ∷ rs) s h = cc
  alone_is (i ∷ j ∷ ss) [] s h = cc
  alone_is (i ∷ j ∷ ss) (r ∷ rs) s h = cc

  first_kind : (g : Fields) (bs : List Tree) (e : Tree) → map (kind_over g) bs ≡ map (kind_over f) (e ∷ []) → kind_over g (first_tree bs) ≡ kind_over f e
  first_kind g [] e h = let w : [] ≡ kind_over f e ∷ [] = h in cc
  first_kind g (b ∷ bs) e h = let w : kind_over g b ∷ map (kind_over g) bs ≡ kind_over f e ∷ [] = h in cc

  column_steps : (k : Aggregation) (e : Tree) → Does F at input node distinct e → Steps F at input node distinct (Tree.aggregate k e) (reduced_column at input k (as_operand at input e))
  column_steps k e step a c g fine h typed = by (is_stream_alone input b.streams b.reduced) refl
    where
      es : List Tree
      es = e ∷ []

      s : State
      s = c.state

      b : Bundle
      b = together at input (ops F at input node distinct es) s

      ans : Answer
      ans = finished at input b

      new : Tree
      new = Tree.aggregate k (first_tree b.exprs)

      value_typed : AllTyped F at input node distinct es
      value_typed = (some_aggregate k (kind_over f e) typed, tt)

      some : es ≢ []
      some = cons_some e []

      later : Later F at input node distinct s b.state
      later = together_later F at input node distinct es s fine

      names : ans.state.names ≡ b.state.names
      names = finished_names at input b

      by : (q : Bool) → is_stream_alone input b.streams b.reduced ≡ q → (cond {A = Call → Call} q (given_reduction new b.state) (reduced_apart at input new ans) c).state.names.next ≤ 2 ^ 64
          → StepTo F at input node distinct a c (cond {A = Call → Call} q (given_reduction new b.state) (reduced_apart at input new ans) c)
      by true q small =
          let after = grown_fresh b.state.names in
          let le = after.1 in
          let low : b.state.names.next ≤ 2 ^ 64 = omega arith in
          let r = together_right F at input node distinct es (step, tt) s fine value_typed some low in
          let kinds = answered_kinds F at input node distinct es s fine value_typed some (subst (λ (a : Names). a.next ≤ 2 ^ 64) (sym names) low) in
          let is = alone_is b.streams b.reduced b.state q in
          let there : schema_at ans.state.nodes ans.stream ≡ f = ap (λ (m : Made). schema_at m.state.nodes m.stream) is ∙ schema_is F at input node distinct b.state (fine_later F at input node distinct s b.state later fine) in
          let first = first_kind f b.exprs e (ap (λ (g : Fields). map (kind_over g) b.exprs) (sym there) ∙ kinds) in
          reduction_steps F at input node distinct new a c b.state g later h (ap (λ o. is_some (aggregate_kind k o)) first ∙ typed)
          (sooner_fresh s.names b.state.names (after_name b.state).names (λ n. times n (new_name b.state ∷ [])) later.1 (one_fresh b.state.names small)) r.made
      by false q small =
          let t = after_name ans.state in
          let after = grown_fresh ans.state.names in
          let le = after.1 in
          let low : ans.state.names.next ≤ 2 ^ 64 = omega arith in
          let l = answered_later F at input node distinct es s fine in
          let name = new_name ans.state in
          let z = schema_at ans.state.nodes ans.stream in
          let items : List Named = (name, new) ∷ [] in
          let p : PhysicalNode = record { kind = reduce items; schema = selected_schema items z; origin = at; inputs = ans.stream ∷ [] } in
          let v : Made = record { state = record { nodes = ans.state.nodes ++ p ∷ []; names = t.names }; stream = (length ans.state.nodes, 0) } in
          let first = first_kind z b.exprs e (answered_kinds F at input node distinct es s fine value_typed some low) in
          let kinds : have_all_kinds z (exprs_of items) ≡ true = and_both (is_some (kind_over z new)) true (ap (λ o. is_some (aggregate_kind k o)) first ∙ typed) refl in
          let few : items ≢ [] = (cons_some (name, new) []) in
          let fresh = one_fresh ans.state.names small in
          let fields = typed_fields z items kinds in
          let is : schema_at v.state.nodes v.stream ≡ selected_schema items z = ap schema_or_none (last_there ans.state.nodes p) in
          let own : names_of (schema_at v.state.nodes v.stream) ≡ name ∷ [] = ap names_of is ∙ field_names z items (selected_schema items z) fields in
          let i = inserted t p l.0.0.1 (l.0.1, tt) in
          given_steps F at input node distinct (Tree.column name) a c v g (adds_then s.nodes ans.state.nodes v.state.nodes l.0.0 i.0, grown_then s.names ans.state.names t.names l.1 after) h i.1
          (λ q. some_fields z items (selected_schema items z) fields few (sym is ∙ q))
          (fewer_fresh s.names t.names (λ n. times n (name ∷ [])) (λ n. times n (names_of (schema_at v.state.nodes v.stream))) (λ n. let q = ap (times n) own in omega arith)
          (sooner_fresh s.names ans.state.names t.names (λ n. times n (name ∷ [])) l.1 fresh))
          (extends_then (Right F at input node distinct) s.nodes ans.state.nodes v.state.nodes (answered_right F at input node distinct es (step, tt) s fine value_typed some low)
          (extends_one (Right F at input node distinct) ans.state.nodes p (reduce_right F items (z ∷ []) (kinds, few, fresh.once))))

  aggregate_steps : (k : Aggregation) (e : Tree) → Does F at input node distinct e → Steps F at input node distinct (Tree.aggregate k e) (aggregated at input k (as_operand at input e) (Tree.aggregate k e))
  aggregate_steps Aggregation.n_unique e step = left_steps F at input node distinct (Tree.aggregate Aggregation.n_unique e)
  aggregate_steps (Aggregation.count all) e step = left_steps F at input node distinct (Tree.aggregate (Aggregation.count all) e)
  aggregate_steps Aggregation.min e step = column_steps Aggregation.min e step
  aggregate_steps Aggregation.max e step = column_steps Aggregation.max e step
  aggregate_steps Aggregation.first e step = column_steps Aggregation.first e step
  aggregate_steps Aggregation.last e step = column_steps Aggregation.last e step
  aggregate_steps Aggregation.sum e step = column_steps Aggregation.sum e step

  len_steps : Steps F at input node distinct Tree.len (lower at input Tree.len)
  len_steps a c g fine h typed small =
      reduction_steps F at input node distinct Tree.len a c c.state g (adds_same c.state.nodes fine.ordered, grown_same c.state.names) h refl (one_fresh c.state.names small) (extends_none (Right F at input node distinct) c.state.nodes)

  -- an operator over operands that are lowered together
  operator_steps : (e : Tree) (op : List Tree → Tree) (es : List Tree) → AllDo F at input node distinct es → es ≢ [] → (Typed F at input node distinct e → AllTyped F at input node distinct es)
      → Steps F at input node distinct e (over_operands at input op (ops F at input node distinct es))
  operator_steps e op es steps some below a c g fine h typed small =
      let b = together at input (ops F at input node distinct es) c.state in
      bundle_steps F at input node distinct op a c b g (together_later F at input node distinct es c.state fine) h (together_right F at input node distinct es steps c.state fine (below typed) some small)

  binary_typed : (o : Operator) (l r : Tree) → Typed F at input node distinct (Tree.binary o l r) → AllTyped F at input node distinct (l ∷ r ∷ [])
  binary_typed o l r h = let p = some_binary o (kind_over f l) (kind_over f r) h in (p.0, (p.1, tt))

  ternary_typed : (p x y : Tree) → Typed F at input node distinct (Tree.ternary p x y) → AllTyped F at input node distinct (p ∷ x ∷ y ∷ [])
  ternary_typed p x y h =
      let a = some_if (is_kind kind.Boolean (kind_over f p)) (branch_kind (kind_over f x) (kind_over f y)) h in
      let b = some_branch (kind_over f x) (kind_over f y) a.1 in
      (some_kind kind.Boolean (kind_over f p) a.0, (b.0, (b.1, tt)))

  mutual
    pub steps : (e : Tree) → Does F at input node distinct e
    steps (Tree.column name) = stays_or_steps F at input node distinct (Tree.column name) (λ call. call) (λ q. absurd (differ q))
    steps (Tree.literal l) = stays_or_steps F at input node distinct (Tree.literal l) (λ call. call) (λ q. absurd (differ q))
    steps (Tree.binary o l r) =
        let x = steps l in
        let y = steps r in
        stays_or_steps F at input node distinct (Tree.binary o l r) (over_operands at input (binary_of o) (as_operand at input l ∷ as_operand at input r ∷ []))
        (λ q. operator_steps (Tree.binary o l r) (binary_of o) (l ∷ r ∷ []) (x, (y, tt)) (cons_some l (r ∷ [])) (binary_typed o l r))
    steps (Tree.cast k strict e) =
        let x = steps e in
        stays_or_steps F at input node distinct (Tree.cast k strict e) (over_operands at input (cast_of k strict) (as_operand at input e ∷ []))
        (λ q. operator_steps (Tree.cast k strict e) (cast_of k strict) (e ∷ []) (x, tt) (cons_some e []) (λ h. (some_cast k (kind_over f e) h, tt)))
    steps (Tree.ternary p a b) =
        let x = steps p in
        let y = steps a in
        let z = steps b in
        stays_or_steps F at input node distinct (Tree.ternary p a b) (over_operands at input ternary_of (as_operand at input p ∷ as_operand at input a ∷ as_operand at input b ∷ []))
        (λ q. operator_steps (Tree.ternary p a b) ternary_of (p ∷ a ∷ b ∷ []) (x, (y, (z, tt))) (cons_some p (a ∷ b ∷ [])) (ternary_typed p a b))
    steps (Tree.function g e) = stays_or_steps F at input node distinct (Tree.function g e) (left_to_map (Tree.function g e)) (λ q. left_steps F at input node distinct (Tree.function g e))
    steps (Tree.sort d n e) = sort_steps d n e (steps e)
    steps (Tree.sort_by d n e by) = sort_by_steps d n e by (steps e) (all_steps by)
    steps (Tree.gather s e i) = left_steps F at input node distinct (Tree.gather s e i)
    steps (Tree.filter e by) = filter_steps e by (steps e) (steps by)
    steps (Tree.aggregate k e) = aggregate_steps k e (steps e)
    steps (Tree.slice e o l) = left_steps F at input node distinct (Tree.slice e o l)
    steps Tree.len = len_steps
    steps (Tree.left_out w) = left_steps F at input node distinct (Tree.left_out w)
    steps Tree.missing = left_steps F at input node distinct Tree.missing

    pub all_steps : (es : Trees) → AllDo F at input node distinct (listed es)
    all_steps Trees.no_trees = tt
    all_steps (Trees.tree e es) = (steps e, all_steps es)

  pub list_steps : (es : List Tree) → AllDo F at input node distinct es
  list_steps [] = tt
  list_steps (e ∷ es) = (steps e, list_steps es)
