-- A group-by whose keys go by cell and whose aggregates are reductions: one node over the input, and its slice.
use Rattle.std.proofs.Common.{◌≡◌, ◌≢◌, ℕ, Bool, true, false, not, cond, ◌&&◌, List, [], ◌∷◌, ◌++◌, Option, Some, None, refl, sym, ap, subst, ◌∙◌}
use Rattle.std.proofs.lemmas.List.{append_assoc, append-nil, map-append}
use Rattle.std.proofs.lemmas.Option.{same_Some}
use Rattle.std.specs.Prelude.{map, unwrap_or}
use Rattle.std.specs.List.{AllByRecursion, fold, list_all}
use Rattle.ps_frame.proofs.Lists.{both}
use Rattle.ps_frame.specs.Functions.{Functions}
use Rattle.ps_frame.specs.Tables.{Fields, Table}
use Rattle.ps_frame.specs.Trees.{Tree}
use Rattle.ps_frame.specs.Typing.{is_elementwise, kind_over}
use Rattle.ps_frame.specs.declared.value.DataType.{DataType}
use Rattle.ps_meaning.specs.Cases.{GivesBeforeCut}
use Rattle.ps_meaning.specs.Schemas.{both as both_of, expr_names, fields_of, names_of}
use Rattle.ps_meaning.specs.Shape.{PhysicalNode, group_by_node}
use Rattle.ps_meaning.specs.Steps.{GroupStep, Name, Named, exprs_of, group_by}
use Rattle.ps_meaning.proofs.StepFits.{not-true, same-name}
use Rattle.ps_rules.specs.Calls.{Answer, all_independent, exprs_of_all}
use Rattle.ps_rules.specs.Lowered.{as_operand, select_stream}
use Rattle.ps_rules.specs.Rules.{NamedOperand, are_own_columns, computed, names_of_items, operands_of}
use Rattle.ps_rules.specs.Slots.{Made, State, Stream, columns_named, insert_node, over_selected, schema_at, selected_schema, under, with_columns, without_input}
use Rattle.plan_rules.specs.Groups.{can_stream, columns_over, group_stream, mapped_groups, own_columns, streamed_groups}
use Rattle.plan_rules.specs.Reductions.{Split, is_made_of_reductions, split_aggregates, with_aggregate}
use Rattle.plan_rules.specs.Slices.{cut_stream}
use Rattle.step_keeps.specs.Kept.{IsKeptStep, IsPlainReduction, KeepsStep}
use Rattle.step_keeps.proofs.ByCell.{by_cell_both, columns_cells, columns_read, some_later, stays_alone}
use Rattle.step_keeps.proofs.CellSteps.{own_columns_are}
use Rattle.step_keeps.proofs.Cuts.{cut_keeps}
use Rattle.step_keeps.proofs.One.{plain_keeps}

-- the names of the fields of expressions
fields_names : (es : List Named) (s fs : Fields) → fields_of es s ≡ Some fs → names_of fs ≡ expr_names es
fields_names [] s fs e = ap names_of (sym (same_Some [] fs e))
fields_names (x ∷ es) s fs e = by (kind_over s x.1) (fields_of es s) e (fields_names es s)
  where
    by : (o : Option DataType) (r : Option Fields) → both_of (λ (k : DataType) (gs : Fields). (x.0, k) ∷ gs) o r ≡ Some fs → ((gs : Fields) → r ≡ Some gs → names_of gs ≡ expr_names es) → names_of fs ≡ x.0 ∷ expr_names es
    by None None e more = cc
    by None (Some gs) e more = cc
    by (Some k) None e more = cc
    by (Some k) (Some gs) e more = ap names_of (sym (same_Some ((x.0, k) ∷ gs) fs e)) ∙ ap (λ ms. x.0 ∷ ms) (more gs refl)

-- a select of columns under their own names
module _ (at : ℕ) (i : Stream) where
  abbrev items : List Name → List NamedOperand
  items ns = map (λ (e : Named). (e.0, as_operand at i e.1)) (own_columns ns)

  own_exprs : (ns : List Name) → exprs_of_all (operands_of (items ns)) ≡ columns_named ns
  own_exprs [] = refl
  own_exprs (n ∷ ns) = ap (λ (es : List Tree). Tree.column n ∷ es) (own_exprs ns)

  own_items : (ns : List Name) → are_own_columns (items ns) ≡ true
  own_items [] = refl
  own_items (n ∷ ns) = ap (λ (b : Bool). b && are_own_columns (items ns)) (same-name n) ∙ own_items ns

  own_names : (ns : List Name) → names_of_items (items ns) ≡ ns
  own_names [] = refl
  own_names (n ∷ ns) = ap (λ (ms : List Name). n ∷ ms) (own_names ns)

  reads_some : (ns : List Name) → ns ≢ [] → all_independent (columns_named ns) ≡ false
  reads_some [] some = absurd (some refl)
  reads_some (n ∷ ns) some = refl

  own_select : (ns : List Name) → ns ≢ [] → (s : State) → select_stream at i (own_columns ns) s ≡ with_columns at ns i s
  own_select ns some s =
      let xs = items ns in
      ap (λ (b : Bool). cond {A = State → Made} b (without_input at (under (names_of_items xs) (exprs_of_all (operands_of xs)))) (cond {A = State → Made} (are_own_columns xs) (with_columns at (names_of_items xs) i) (computed at i xs)) s) (ap all_independent (own_exprs ns) ∙ reads_some ns some)
      ∙ ap (λ (b : Bool). cond {A = State → Made} b (with_columns at (names_of_items xs) i) (computed at i xs) s) (own_items ns)
      ∙ ap (λ (ms : List Name). with_columns at ms i s) (own_names ns)

-- keys over themselves and all columns
own_keys : (keys : List Named) (more : List Tree) → under (expr_names keys) (exprs_of keys ++ more) ≡ keys
own_keys [] more = refl
own_keys (k ∷ keys) more = ap (λ (ks : List Named). k ∷ ks) (own_keys keys more)

-- reductions stay whole
split_plain : (es : List Named) → AllByRecursion (λ (e : Named). IsPlainReduction e.1) es → (x : Split)
    → fold with_aggregate x es ≡ record { names = x.names; reductions = x.reductions ++ es; above = x.above ++ own_columns (expr_names es) }
split_plain [] all x = λ j. record { names = x.names; reductions = sym (append-nil x.reductions) j; above = sym (append-nil x.above) j }
split_plain ((n, e) ∷ es) all x = one e all.0 ∙ split_plain es all.1 (record { names = x.names; reductions = x.reductions ++ (n, e) ∷ []; above = x.above ++ (n, Tree.column n) ∷ [] })
    ∙ (λ j. record { names = x.names; reductions = append_assoc x.reductions ((n, e) ∷ []) es j; above = append_assoc x.above ((n, Tree.column n) ∷ []) (own_columns (expr_names es)) j })
  where
    one : (e : Tree) → IsPlainReduction e → fold with_aggregate (with_aggregate x (n, e)) es ≡ fold with_aggregate (record { names = x.names; reductions = x.reductions ++ (n, e) ∷ []; above = x.above ++ (n, Tree.column n) ∷ [] }) es
    one (Tree.aggregate a e) plain = refl
    one Tree.len plain = refl
    one (Tree.column name) plain = absurd plain
    one (Tree.literal l) plain = absurd plain
    one (Tree.binary o l r) plain = absurd plain
    one (Tree.cast k strict e) plain = absurd plain
    one (Tree.sort d n e) plain = absurd plain
    one (Tree.sort_by d n e by) plain = absurd plain
    one (Tree.gather s e i) plain = absurd plain
    one (Tree.filter e by) plain = absurd plain
    one (Tree.ternary p a b) plain = absurd plain
    one (Tree.function g e) plain = absurd plain
    one (Tree.slice e o l) plain = absurd plain
    one (Tree.left_out w) plain = absurd plain
    one Tree.missing plain = absurd plain

both_own : (ms ns : List Name) → own_columns ms ++ own_columns ns ≡ own_columns (ms ++ ns)
both_own [] ns = refl
both_own (m ∷ ms) ns = ap (λ (es : List Named). (m, Tree.column m) ∷ es) (both_own ms ns)

module _ (F : Functions) (at : ℕ) (schema : Fields) (input : Stream) (s : State) (o : GroupStep) where
  abbrev uncut : GroupStep
  uncut = record { keys = o.keys; aggregates = o.aggregates; maintain_order = false; cut = None }

  -- the group-by, the select above it and the slice
  abbrev made_of : List Named → Split → Stream → State → Made
  made_of keys split i t =
      let g = over_selected at (group_by_node keys split.reductions) (keys ++ split.reductions) i (record t { names = split.names }) in
      let above = select_stream at g.stream (own_columns (expr_names o.keys) ++ split.above) g.state in
      cut_stream at o.cut above.stream above.state

  free_order : can_stream o ≡ true → o.maintain_order ≡ false
  free_order e =
      let last = both (not o.maintain_order && not (all_independent (exprs_of o.keys ++ exprs_of o.aggregates))) (list_all is_made_of_reductions (exprs_of o.aggregates)) e in
      let first = both (not o.maintain_order) (not (all_independent (exprs_of o.keys ++ exprs_of o.aggregates))) last.0 in
      not-true o.maintain_order first.0

  gives_as : o.maintain_order ≡ false → (ts : List Table) (U : Table) → GivesBeforeCut F at (group_by uncut) ts U → GivesBeforeCut F at (group_by o) ts U
  gives_as free ts U g = subst (λ (m : Bool). GivesBeforeCut F at (group_by (record { keys = o.keys; aggregates = o.aggregates; maintain_order = m; cut = o.cut })) ts U) (sym free) g

  abbrev node : PhysicalNode
  node = record { kind = group_by_node o.keys o.aggregates; schema = selected_schema (o.keys ++ o.aggregates) (schema_at s.nodes input); origin = at; inputs = input ∷ [] }

  pub groups_made : can_stream o ≡ true → list_all is_elementwise (exprs_of o.keys) ≡ true → AllByRecursion (λ (e : Named). IsPlainReduction e.1) o.aggregates → o.keys ≢ [] → schema_at s.nodes input ≢ []
      → fields_of (o.keys ++ o.aggregates) (schema_at s.nodes input) ≡ Some schema → let g = insert_node s node in group_stream at o input s ≡ cut_stream at o.cut g.stream g.state
  groups_made streams cells plain some_key some fields =
      let columns = columns_over input s in
      let es = exprs_of o.keys ++ columns in
      let alone = stays_alone at input es (by_cell_both (exprs_of o.keys) columns cells (columns_cells (names_of (schema_at s.nodes input)))) (some_later (exprs_of o.keys) columns (columns_read (schema_at s.nodes input) some)) s in
      let knames = expr_names o.keys in
      let anames = expr_names o.aggregates in
      let lowered = ap (λ (a : Answer). made_of (under knames a.exprs) (split_aggregates o.aggregates a.state.names) a.stream a.state) alone in
      let keys = own_keys o.keys columns in
      let apart = split_plain o.aggregates plain (record { names = s.names; reductions = []; above = [] }) in
      let taken = ap (λ (ks : List Named). made_of ks (split_aggregates o.aggregates s.names) input s) keys ∙ ap (λ (x : Split). made_of o.keys x input s) apart in
      let g = insert_node s node in
      let names : knames ++ anames ≡ names_of node.schema = sym (map-append (λ (e : Named). e.0) o.keys o.aggregates) ∙ sym (fields_names (o.keys ++ o.aggregates) (schema_at s.nodes input) schema fields) ∙ ap (λ (r : Option Fields). names_of (unwrap_or r [])) (sym fields) in
      let above = ap (λ (es : List Named). select_stream at g.stream es g.state) (both_own knames anames) ∙ own_select at g.stream (knames ++ anames) (not_none o.keys anames some_key) g.state ∙ own_columns_are F at input s node (knames ++ anames) names in
      ap (λ (b : Bool). cond {A = Stream → State → Made} b (streamed_groups at o) (mapped_groups at o) input s) streams ∙ lowered ∙ taken ∙ ap (λ (m : Made). cut_stream at o.cut m.stream m.state) above
    where
      not_none : (keys : List Named) (more : List Name) → keys ≢ [] → expr_names keys ++ more ≢ []
      not_none [] more some e = absurd (some refl)
      not_none (k ∷ keys) more some e = cc

  pub plain_groups_keep : can_stream o ≡ true → list_all is_elementwise (exprs_of o.keys) ≡ true → AllByRecursion (λ (e : Named). IsPlainReduction e.1) o.aggregates → o.keys ≢ [] → schema_at s.nodes input ≢ []
      → fields_of (o.keys ++ o.aggregates) (schema_at s.nodes input) ≡ Some schema → IsKeptStep F at (group_by o) schema (input ∷ []) s
  plain_groups_keep streams cells plain some_key some fields =
      let g = insert_node s node in
      let kept = cut_keeps F at (group_by uncut) (group_by o) (gives_as (free_order streams)) (λ ts large. large) refl s g.state (input ∷ []) g.stream
      (plain_keeps F at (group_by uncut) (group_by_node o.keys o.aggregates) node.schema (input ∷ []) refl (λ ts. refl) refl s) o.cut refl in
      subst (λ (m : Made). KeepsStep F at (group_by o) s m.state (input ∷ []) m.stream) (sym (groups_made streams cells plain some_key some fields)) kept
