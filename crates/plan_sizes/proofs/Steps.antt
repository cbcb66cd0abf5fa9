-- What a step inserts.
use Rattle.std.proofs.Common.{◌≡◌, ℕ, suc, ◌+◌, ◌*◌, ◌≤◌, Bool, true, false, not, cond, ◌&&◌, List, [], ◌∷◌, ◌++◌, length, take, None, refl, arith}
use Rattle.std.specs.Prelude.{drop, map, unwrap_or}
use Rattle.std.specs.List.{list_all}
use Rattle.ps_frame.proofs.Lists.{both}
use Rattle.ps_frame.specs.Tables.{Fields, Frame}
use Rattle.ps_frame.specs.Trees.{Tree}
use Rattle.ps_frame.specs.Typing.{is_elementwise}
use Rattle.ps_meaning.specs.Joins.{goes_by_left}
use Rattle.ps_meaning.specs.Schemas.{expr_names, names_of}
use Rattle.ps_meaning.specs.Shape.{PhysicalKind, equi_join, filter_node, group_by_node, in_memory_join, in_memory_map, in_memory_source, ordered_union, select_node}
use Rattle.ps_meaning.specs.Steps.{Cut, DistinctStep, GroupStep, JoinStep, Named, cache, distinct, exprs_of, filter, group_by, hconcat, hstack, join, left_out, project, row_index, scan, select, sink, slice, sort, step_exprs, union, user}
use Rattle.ps_rules.specs.Calls.{all_independent}
use Rattle.ps_rules.specs.Counted.{inserts_for, occurrences_in}
use Rattle.ps_rules.specs.Lowered.{lower_exprs, select_stream}
use Rattle.ps_rules.specs.Rules.{first_tree}
use Rattle.ps_rules.specs.Slots.{Made, State, Stream, after_name, new_name, over, over_same, over_selected, schema_at, selected_schema, under, with_columns}
use Rattle.plan_rules.specs.Distinct.{distinct_stream, grouped_distinct, groups_with, is_one, keeps_last, keeps_none, kept_groups, kept_values, mapped_distinct, other_than, single_rows}
use Rattle.plan_rules.specs.Groups.{can_stream, columns_over, group_stream, mapped_groups, own_columns, streamed_groups}
use Rattle.plan_rules.specs.Joins.{equi_join_stream, join_stream, keyed_join, over_both}
use Rattle.plan_rules.specs.Nodes.{expr_or_column, extended_apart, filter_stream, first_stream, hstack_stream, over_all, scan_stream, second_stream, union_stream}
use Rattle.plan_rules.specs.Reductions.{is_made_of_reductions, split_aggregates}
use Rattle.plan_rules.specs.Slices.{cut_stream}
use Rattle.plan_sizes.specs.Counted.{GroupsInsertFew, InsertsAtMost, SlicesInsertOne, StepsInsertFew}
use Rattle.plan_sizes.proofs.Apart.{front_by_cell, split_by_cell}
use Rattle.plan_sizes.proofs.Calls.{and_then, behind_insert, beside_insert, cells_insert, columns_insert, cut_inserts, few, node_inserts, occurrences_both, occurrences_own, over_inserts, select_inserts, slice_inserts}

module _ (at : ℕ) where
  streamed_insert : (o : GroupStep) → can_stream o ≡ true → (i : Stream) (s : State) → InsertsAtMost (7 * occurrences_in (exprs_of o.keys) + 7) s (streamed_groups at o i s).state
  streamed_insert o streams i s =
      let made = (both (not o.maintain_order && not (all_independent (exprs_of o.keys ++ exprs_of o.aggregates))) (list_all is_made_of_reductions (exprs_of o.aggregates)) streams).1 in
      let a = lower_exprs at i (exprs_of o.keys ++ columns_over i s) s in
      let keys = under (expr_names o.keys) a.exprs in
      let split = split_aggregates o.aggregates a.state.names in
      let named : State = record { nodes = a.state.nodes; names = split.names } in
      let g = over_selected at (group_by_node keys split.reductions) (keys ++ split.reductions) a.stream named in
      let shown = own_columns (expr_names o.keys) ++ split.above in
      let above = select_stream at g.stream shown g.state in
      let cells = front_by_cell (expr_names o.keys) split.above (split_by_cell o.aggregates (record { names = a.state.names; reductions = []; above = [] }) made refl) in
      let k = 7 * occurrences_in (exprs_of o.keys) + 4 in
      let cut = cut_stream at o.cut above.stream above.state in
      few (k + 1 + 1 + 1) (7 * occurrences_in (exprs_of o.keys) + 7) s cut.state (omega arith)
      (and_then (k + 1 + 1) 1 s above.state cut.state
      (and_then (k + 1) 1 s g.state above.state
      (and_then k 1 s a.state g.state (beside_insert at i (exprs_of o.keys) (names_of (schema_at s.nodes i)) s) (over_inserts at a.stream (group_by_node keys split.reductions) (selected_schema (keys ++ split.reductions) (schema_at a.state.nodes a.stream)) named))
      (cells_insert at g.stream shown cells g.state))
      (cut_inserts at above.stream o.cut above.state))

  groups_insert : (o : GroupStep) (i : Stream) (s : State) → InsertsAtMost (7 * occurrences_in (exprs_of o.keys) + 7) s (group_stream at o i s).state
  groups_insert o i s = by (can_stream o) refl
    where
      by : (b : Bool) → can_stream o ≡ b → InsertsAtMost (7 * occurrences_in (exprs_of o.keys) + 7) s (cond {A = Stream → State → Made} b (streamed_groups at o) (mapped_groups at o) i s).state
      by true q = streamed_insert o q i s
      by false q =
          few 1 (7 * occurrences_in (exprs_of o.keys) + 7) s (mapped_groups at o i s).state (omega arith)
          (over_inserts at i (in_memory_map (group_by o)) (selected_schema (o.keys ++ o.aggregates) (schema_at s.nodes i)) s)

  -- by key columns
  columns_grouped : (more : List Named) (o : DistinctStep) (i : Stream) (s : State) → InsertsAtMost 7 s (groups_with at more o i s).state
  columns_grouped more o i s =
      let all = names_of (schema_at s.nodes i) in
      let keys = unwrap_or o.subset all in
      let none = occurrences_own keys in
      few (7 * occurrences_in (exprs_of (own_columns keys)) + 7) 7 s (groups_with at more o i s).state (omega arith)
      (groups_insert (record { keys = own_columns keys; aggregates = kept_values o.keep (other_than keys all) ++ more; maintain_order = o.maintain_order; cut = None }) i s)

  singles_insert : (o : DistinctStep) (i : Stream) (s : State) → InsertsAtMost 8 s (single_rows at o i s).state
  singles_insert o i s =
      let height = new_name s in
      let g = groups_with at ((height, Tree.len) ∷ []) o i (after_name s) in
      and_then 7 1 s g.state (single_rows at o i s).state (columns_grouped ((height, Tree.len) ∷ []) o i (after_name s)) (over_inserts at g.stream (filter_node (is_one height)) (schema_at g.state.nodes g.stream) g.state)

  kept_insert : (o : DistinctStep) (i : Stream) (s : State) → InsertsAtMost 8 s (kept_groups at o i s).state
  kept_insert o i s = by (keeps_none o.keep)
    where
      by : (b : Bool) → InsertsAtMost 8 s (cond {A = Stream → State → Made} b (single_rows at o) (groups_with at [] o) i s).state
      by true = singles_insert o i s
      by false = few 7 8 s (groups_with at [] o i s).state (omega arith) (columns_grouped [] o i s)

  distincts_insert : (o : DistinctStep) (i : Stream) (s : State) → InsertsAtMost 10 s (distinct_stream at o i s).state
  distincts_insert o i s = by (o.maintain_order && keeps_last o.keep)
    where
      grouped : InsertsAtMost 10 s (grouped_distinct at o i s).state
      grouped =
          let g = kept_groups at o i s in
          let ordered = with_columns at (names_of (schema_at s.nodes i)) g.stream g.state in
          and_then 9 1 s ordered.state (grouped_distinct at o i s).state
          (and_then 8 1 s g.state ordered.state (kept_insert o i s) (columns_insert at g.stream (names_of (schema_at s.nodes i)) g.state))
          (cut_inserts at ordered.stream o.cut ordered.state)

      by : (b : Bool) → InsertsAtMost 10 s (cond {A = Stream → State → Made} b (mapped_distinct at o) (grouped_distinct at o) i s).state
      by true = few 1 10 s (mapped_distinct at o i s).state (omega arith) (over_inserts at i (in_memory_map (distinct o)) (schema_at s.nodes i) s)
      by false = grouped

  all_insert : (kind : PhysicalKind) (schema : Fields) (inputs : List Stream) (s : State) → InsertsAtMost 1 s (over_all at kind schema inputs s).state
  all_insert kind schema inputs s = node_inserts s (record { kind = kind; schema = schema; origin = at; inputs = inputs })

  keyed_insert : (o : JoinStep) (schema : Fields) (l r : Stream) (s : State) → InsertsAtMost (7 * occurrences_in (o.left_on ++ o.right_on) + 10) s (equi_join_stream at o schema l r s).state
  keyed_insert o schema l r s =
      let a = lower_exprs at l (o.left_on ++ columns_over l s) s in
      let b = lower_exprs at r (o.right_on ++ columns_over r a.state) a.state in
      let kind = equi_join (keyed_join o (take (length o.left_on) a.exprs) (take (length o.right_on) b.exprs)) in
      let m = over_both at kind schema a.stream b.stream b.state in
      let j = 7 * occurrences_in o.left_on + 4 in
      let k = 7 * occurrences_in o.right_on + 4 in
      let both = occurrences_both o.left_on o.right_on in
      few (j + k + 1 + 1) (7 * occurrences_in (o.left_on ++ o.right_on) + 10) s (equi_join_stream at o schema l r s).state (omega arith)
      (and_then (j + k + 1) 1 s m.state (equi_join_stream at o schema l r s).state
      (and_then (j + k) 1 s b.state m.state
      (and_then j k s a.state b.state (beside_insert at l o.left_on (names_of (schema_at s.nodes l)) s) (beside_insert at r o.right_on (names_of (schema_at a.state.nodes r)) a.state))
      (all_insert kind schema (a.stream ∷ b.stream ∷ []) b.state))
      (cut_inserts at m.stream o.args.slice m.state))

  joins_insert : (o : JoinStep) (schema : Fields) (l r : Stream) (s : State) → InsertsAtMost (7 * occurrences_in (o.left_on ++ o.right_on) + 10) s (join_stream at o schema l r s).state
  joins_insert o schema l r s = by (goes_by_left o.args.how)
    where
      by : (b : Bool) → InsertsAtMost (7 * occurrences_in (o.left_on ++ o.right_on) + 10) s (cond {A = Stream → Stream → State → Made} b (equi_join_stream at o schema) (over_both at (in_memory_join o) schema) l r s).state
      by true = keyed_insert o schema l r s
      by false = few 1 (7 * occurrences_in (o.left_on ++ o.right_on) + 10) s (over_both at (in_memory_join o) schema l r s).state (omega arith) (all_insert (in_memory_join o) schema (l ∷ r ∷ []) s)

  extended_insert : (es : List Named) (schema : Fields) (i : Stream) (s : State) → InsertsAtMost (7 * occurrences_in (exprs_of es) + 5) s (extended_apart at es schema i s).state
  extended_insert es schema i s =
      let columns = columns_over i s in
      let a = lower_exprs at i (columns ++ exprs_of es) s in
      let answers = under (expr_names es) (drop (length columns) a.exprs) in
      let kind = select_node (under (names_of schema) (map (expr_or_column answers) (names_of schema))) false in
      let k = 7 * occurrences_in (exprs_of es) + 4 in
      few (k + 1) (7 * occurrences_in (exprs_of es) + 5) s (extended_apart at es schema i s).state (omega arith)
      (and_then k 1 s a.state (extended_apart at es schema i s).state (behind_insert at i (names_of (schema_at s.nodes i)) (exprs_of es) s) (over_inserts at a.stream kind schema a.state))

  further_insert : (es : List Named) (schema : Fields) (i : Stream) (s : State) → InsertsAtMost (7 * occurrences_in (exprs_of es) + 5) s (hstack_stream at es schema i s).state
  further_insert es schema i s = by (list_all is_elementwise (exprs_of es))
    where
      by : (b : Bool) → InsertsAtMost (7 * occurrences_in (exprs_of es) + 5) s (cond {A = Stream → State → Made} b (over at (select_node es true) schema) (extended_apart at es schema) i s).state
      by true = few 1 (7 * occurrences_in (exprs_of es) + 5) s (over at (select_node es true) schema i s).state (omega arith) (over_inserts at i (select_node es true) schema s)
      by false = extended_insert es schema i s

  filters_insert : (e : Tree) (i : Stream) (s : State) → InsertsAtMost (7 * occurrences_in (e ∷ []) + 6) s (filter_stream at e i s).state
  filters_insert e i s =
      let columns = columns_over i s in
      let a = lower_exprs at i (columns ++ e ∷ []) s in
      let kind = filter_node (first_tree (drop (length columns) a.exprs)) in
      let m = over_same at kind a.stream a.state in
      let k = 7 * occurrences_in (e ∷ []) + 4 in
      few (k + 1 + 1) (7 * occurrences_in (e ∷ []) + 6) s (filter_stream at e i s).state (omega arith)
      (and_then (k + 1) 1 s m.state (filter_stream at e i s).state
      (and_then k 1 s a.state m.state (behind_insert at i (names_of (schema_at s.nodes i)) (e ∷ []) s) (over_inserts at a.stream kind (schema_at a.state.nodes a.stream) a.state))
      (columns_insert at m.stream (names_of (schema_at s.nodes i)) m.state))

  scans_insert : (t : Frame) (schema : Fields) (s : State) → InsertsAtMost 2 s (scan_stream at t schema s).state
  scans_insert t schema s =
      let m = over_all at (in_memory_source t) t.schema [] s in
      and_then 1 1 s m.state (scan_stream at t schema s).state (all_insert (in_memory_source t) t.schema [] s) (columns_insert at m.stream (names_of schema) m.state)

  unions_insert : (cut : Cut) (schema : Fields) (inputs : List Stream) (s : State) → InsertsAtMost 2 s (union_stream at cut schema inputs s).state
  unions_insert cut schema inputs s =
      let m = over_all at ordered_union schema inputs s in
      and_then 1 1 s m.state (union_stream at cut schema inputs s).state (all_insert ordered_union schema inputs s) (cut_inserts at m.stream cut m.state)

pub groups_insert_few : GroupsInsertFew
groups_insert_few at o i s = few (7 * occurrences_in (exprs_of o.keys) + 7) (inserts_for (exprs_of o.keys)) s (group_stream at o i s).state (omega arith) (groups_insert at o i s)

pub slices_insert_one : SlicesInsertOne
slices_insert_one at offset n i s = slice_inserts at i offset n s

-- so many at most, where more are allowed
within_few : (occurrences k : ℕ) (a b : ℕ) → k ≤ 10 → b ≤ a + (7 * occurrences + k) → b ≤ a + 64 * suc occurrences
within_few occurrences k a b le inserts = omega arith

one_fits : (occurrences : ℕ) (a b : ℕ) → b ≤ a + 1 → b ≤ a + 64 * suc occurrences
one_fits occurrences a b inserts = omega arith

pub steps_insert_few : StepsInsertFew
steps_insert_few F at (scan t columns) schema inputs s = within_few 0 2 _ _ (omega arith) (scans_insert at t schema s)
steps_insert_few F at (project names) schema inputs s = one_fits 0 _ _ (node_inserts s _)
steps_insert_few F at (select es) schema inputs s = within_few (occurrences_in (exprs_of es)) 5 _ _ (omega arith) (select_inserts at (first_stream inputs) es s)
steps_insert_few F at (hstack es) schema inputs s = within_few (occurrences_in (exprs_of es)) 5 _ _ (omega arith) (further_insert at es schema (first_stream inputs) s)
steps_insert_few F at (filter e) schema inputs s = within_few (occurrences_in (e ∷ [])) 6 _ _ (omega arith) (filters_insert at e (first_stream inputs) s)
steps_insert_few F at (slice offset n) schema inputs s = one_fits 0 _ _ (slice_inserts at (first_stream inputs) offset n s)
steps_insert_few F at (sink target) schema inputs s = one_fits 0 _ _ (node_inserts s _)
steps_insert_few F at (row_index name offset) schema inputs s = one_fits 0 _ _ (node_inserts s _)
steps_insert_few F at (user n) schema inputs s = one_fits 0 _ _ (node_inserts s _)
steps_insert_few F at (sort o) schema inputs s = one_fits (occurrences_in o.keys) _ _ (node_inserts s _)
steps_insert_few F at (union cut) schema inputs s = within_few 0 2 _ _ (omega arith) (unions_insert at cut schema inputs s)
steps_insert_few F at hconcat schema inputs s = one_fits 0 _ _ (node_inserts s _)
steps_insert_few F at (cache id) schema inputs s = omega arith
steps_insert_few F at (group_by o) schema inputs s =
    let b = occurrences_both (exprs_of o.keys) (exprs_of o.aggregates) in
    few (inserts_for (exprs_of o.keys)) (inserts_for (step_exprs (group_by o))) s (group_stream at o (first_stream inputs) s).state (omega arith) (groups_insert_few at o (first_stream inputs) s)
steps_insert_few F at (join o) schema inputs s = within_few (occurrences_in (o.left_on ++ o.right_on)) 10 _ _ (omega arith) (joins_insert at o schema (first_stream inputs) (second_stream inputs) s)
steps_insert_few F at (distinct o) schema inputs s = within_few 0 10 _ _ (omega arith) (distincts_insert at o (first_stream inputs) s)
steps_insert_few F at (left_out what) schema inputs s = one_fits 0 _ _ (node_inserts s _)
