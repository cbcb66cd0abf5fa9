-- The rules of steps keep nodes plain.
use Rattle.std.proofs.Common.{◌≡◌, ℕ, zero, suc, ℤ, pos, negsuc, Bool, true, false, cond, List, [], ◌∷◌, ◌++◌, length, Some, None, arith}
use Rattle.std.specs.Prelude.{◌&&◌, drop, map, take, unwrap_or}
use Rattle.std.specs.List.{list_all}
use Rattle.ps_frame.specs.Functions.{Functions}
use Rattle.ps_frame.specs.Tables.{Fields}
use Rattle.ps_frame.specs.Trees.{Tree}
use Rattle.ps_frame.specs.Typing.{is_elementwise}
use Rattle.ps_meaning.specs.Joins.{goes_by_left}
use Rattle.ps_meaning.specs.PlanTrees.{PlanTrees, no_trees, tree}
use Rattle.ps_meaning.specs.Schemas.{expr_names, names_of}
use Rattle.ps_meaning.specs.Shape.{PhysicalKind, equi_join, filter_node, group_by_node, in_memory_join, in_memory_map, in_memory_sink, in_memory_source, ordered_union, select_node, stream_map, with_row_index, zip_node}
use Rattle.ps_meaning.specs.StepRefusals.{IsSinkStep}
use Rattle.ps_meaning.specs.Steps.{Cut, DistinctStep, GroupStep, JoinStep, Name, Named, Step, cache, distinct, exprs_of, filter, group_by, hconcat, hstack, join, left_out, project, row_index, scan, select, sink, slice, sort, union, user}
use Rattle.ps_rules.specs.Lowered.{lower_exprs, select_stream}
use Rattle.ps_rules.specs.Rules.{first_tree}
use Rattle.ps_rules.specs.Slots.{Made, State, Stream, after_name, new_name, over, over_same, over_selected, schema_at, under, with_columns}
use Rattle.plan_rules.specs.Distinct.{distinct_stream, grouped_distinct, groups_with, is_one, kept_groups, kept_values, keeps_last, keeps_none, mapped_distinct, other_than, single_rows}
use Rattle.plan_rules.specs.Groups.{can_stream, columns_over, group_stream, mapped_groups, own_columns, streamed_groups}
use Rattle.plan_rules.specs.Joins.{equi_join_stream, join_stream, keyed_join, over_both}
use Rattle.plan_rules.specs.Nodes.{expr_or_column, extended_apart, filter_stream, first_stream, hstack_stream, over_all, second_stream, step_stream}
use Rattle.plan_rules.specs.Reductions.{split_aggregates}
use Rattle.plan_rules.specs.Slices.{cut_stream, slice_kind, slice_stream}
use Rattle.rule_ports.specs.Fed.{HasFirst, HasSecond, IsFed}
use Rattle.rule_ports.proofs.Calls.{exprs_good, select_stream_makes}
use Rattle.rule_ports.proofs.Plain.{AllFirst, ArePlain, IsFirst, Makes, first_stays, inserted, made_from, over_makes, projection_makes, same_makes, selected_makes, stands_as, with_columns_makes, without_makes}

no_slice : (offset : ℤ) (n : ℕ) → slice_kind offset n ≡ in_memory_sink → ⊥
no_slice (pos offset) n e = cc
no_slice (negsuc k) zero e = cc
no_slice (negsuc k) (suc n) e = cc

no_filter : (e : Tree) → filter_node e ≡ in_memory_sink → ⊥
no_filter e h = cc

module _ (at : ℕ) where
  slice_makes : (offset : ℤ) (n : ℕ) (input : Stream) (s : State) → ArePlain s.nodes → IsFirst s.nodes input → Makes s (slice_stream at offset n input s)
  slice_makes offset n input s plain first = same_makes at (slice_kind offset n) input s (no_slice offset n) plain first

  cut_makes : (cut : Cut) (input : Stream) (s : State) → ArePlain s.nodes → IsFirst s.nodes input → Makes s (cut_stream at cut input s)
  cut_makes None input s plain first = stands_as at s input plain first
  cut_makes (Some cut) input s plain first = slice_makes cut.0 cut.1 input s plain first

  -- a cut above what was made
  cut_above : (cut : Cut) (s : State) (m : Made) → Makes s m → Makes s (cut_stream at cut m.stream m.state)
  cut_above cut s m k = made_from s m.state (cut_stream at cut m.stream m.state) k.more (cut_makes cut m.stream m.state k.plain k.stream)

  columns_above : (ns : List Name) (s : State) (m : Made) → Makes s m → Makes s (with_columns at ns m.stream m.state)
  columns_above ns s m k = made_from s m.state (with_columns at ns m.stream m.state) k.more (with_columns_makes at ns m.stream m.state k.plain k.stream)

  same_above : (kind : PhysicalKind) → (kind ≡ in_memory_sink → ⊥) → (s : State) (m : Made) → Makes s m → Makes s (over_same at kind m.stream m.state)
  same_above kind h s m k = made_from s m.state (over_same at kind m.stream m.state) k.more (same_makes at kind m.stream m.state h k.plain k.stream)

  all_makes : (kind : PhysicalKind) (schema : Fields) (inputs : List Stream) (s : State) → (kind ≡ in_memory_sink → ⊥) → ArePlain s.nodes → AllFirst s.nodes inputs → Makes s (over_all at kind schema inputs s)
  all_makes kind schema inputs s h plain all = inserted s (record { kind = kind; schema = schema; origin = at; inputs = inputs }) plain all h

  both_makes : (kind : PhysicalKind) (schema : Fields) (left right : Stream) (s : State) → (kind ≡ in_memory_sink → ⊥) → ArePlain s.nodes → IsFirst s.nodes left → IsFirst s.nodes right → Makes s (over_both at kind schema left right s)
  both_makes kind schema left right s h plain l r = inserted s (record { kind = kind; schema = schema; origin = at; inputs = left ∷ right ∷ [] }) plain (l, (r, tt)) h

  extended_makes : (es : List Named) (schema : Fields) (input : Stream) (s : State) → ArePlain s.nodes → IsFirst s.nodes input → Makes s (extended_apart at es schema input s)
  extended_makes es schema input s plain first =
      let columns = columns_over input s in
      let a = lower_exprs at input (columns ++ exprs_of es) s in
      let g = exprs_good at input (columns ++ exprs_of es) s plain first in
      let answers = under (expr_names es) (drop (length columns) a.exprs) in
      let kind = select_node (under (names_of schema) (map (expr_or_column answers) (names_of schema))) false in
      made_from s a.state (over at kind schema a.stream a.state) g.more (over_makes at kind schema a.stream a.state (λ e. cc) g.plain g.stream)

  hstack_makes : (es : List Named) (schema : Fields) (input : Stream) (s : State) → ArePlain s.nodes → IsFirst s.nodes input → Makes s (hstack_stream at es schema input s)
  hstack_makes es schema input s plain first = by (list_all is_elementwise (exprs_of es))
    where
      by : (b : Bool) → Makes s (cond {A = Stream → State → Made} b (over at (select_node es true) schema) (extended_apart at es schema) input s)
      by true = over_makes at (select_node es true) schema input s (λ e. cc) plain first
      by false = extended_makes es schema input s plain first

  filter_makes : (predicate : Tree) (input : Stream) (s : State) → ArePlain s.nodes → IsFirst s.nodes input → Makes s (filter_stream at predicate input s)
  filter_makes predicate input s plain first =
      let columns = columns_over input s in
      let a = lower_exprs at input (columns ++ predicate ∷ []) s in
      let g = exprs_good at input (columns ++ predicate ∷ []) s plain first in
      let kind = filter_node (first_tree (drop (length columns) a.exprs)) in
      let m = over_same at kind a.stream a.state in
      columns_above (names_of (schema_at s.nodes input)) s m (made_from s a.state m g.more (same_makes at kind a.stream a.state (λ e. cc) g.plain g.stream))

  streamed_makes : (o : GroupStep) (input : Stream) (s : State) → ArePlain s.nodes → IsFirst s.nodes input → Makes s (streamed_groups at o input s)
  streamed_makes o input s plain first =
      let es = exprs_of o.keys ++ columns_over input s in
      let a = lower_exprs at input es s in
      let g = exprs_good at input es s plain first in
      let keys = under (expr_names o.keys) a.exprs in
      let split = split_aggregates o.aggregates a.state.names in
      let state : State = record { nodes = a.state.nodes; names = split.names } in
      let kind = group_by_node keys split.reductions in
      let m = over_selected at kind (keys ++ split.reductions) a.stream state in
      let k = made_from s state m g.more (selected_makes at kind (keys ++ split.reductions) a.stream state (λ e. cc) g.plain g.stream) in
      let shown = own_columns (expr_names o.keys) ++ split.above in
      let above = select_stream at m.stream shown m.state in
      cut_above o.cut s above (made_from s m.state above k.more (select_stream_makes at m.stream shown m.state k.plain k.stream))

  group_makes : (o : GroupStep) (input : Stream) (s : State) → ArePlain s.nodes → IsFirst s.nodes input → Makes s (group_stream at o input s)
  group_makes o input s plain first = by (can_stream o)
    where
      by : (b : Bool) → Makes s (cond {A = Stream → State → Made} b (streamed_groups at o) (mapped_groups at o) input s)
      by true = streamed_makes o input s plain first
      by false = selected_makes at (in_memory_map (group_by o)) (o.keys ++ o.aggregates) input s (λ e. cc) plain first

  equi_makes : (o : JoinStep) (schema : Fields) (left right : Stream) (s : State) → ArePlain s.nodes → IsFirst s.nodes left → IsFirst s.nodes right → Makes s (equi_join_stream at o schema left right s)
  equi_makes o schema left right s plain lf rf =
      let les = o.left_on ++ columns_over left s in
      let l = lower_exprs at left les s in
      let gl = exprs_good at left les s plain lf in
      let res = o.right_on ++ columns_over right l.state in
      let r = lower_exprs at right res l.state in
      let gr = exprs_good at right res l.state gl.plain (first_stays s.nodes l.state.nodes right gl.more rf) in
      let kind = equi_join (keyed_join o (take (length o.left_on) l.exprs) (take (length o.right_on) r.exprs)) in
      let m = over_both at kind schema l.stream r.stream r.state in
      let a = gl.more in
      let b = gr.more in
      cut_above o.args.slice s m (made_from s r.state m (omega (arith, a, b)) (both_makes kind schema l.stream r.stream r.state (λ e. cc) gr.plain (first_stays l.state.nodes r.state.nodes l.stream gr.more gl.stream) gr.stream))

  join_makes : (o : JoinStep) (schema : Fields) (left right : Stream) (s : State) → ArePlain s.nodes → IsFirst s.nodes left → IsFirst s.nodes right → Makes s (join_stream at o schema left right s)
  join_makes o schema left right s plain lf rf = by (goes_by_left o.args.how)
    where
      by : (b : Bool) → Makes s (cond {A = Stream → Stream → State → Made} b (equi_join_stream at o schema) (over_both at (in_memory_join o) schema) left right s)
      by true = equi_makes o schema left right s plain lf rf
      by false = both_makes (in_memory_join o) schema left right s (λ e. cc) plain lf rf

  with_makes : (more : List Named) (o : DistinctStep) (input : Stream) (s : State) → ArePlain s.nodes → IsFirst s.nodes input → Makes s (groups_with at more o input s)
  with_makes more o input s plain first =
      let all = names_of (schema_at s.nodes input) in
      let keys = unwrap_or o.subset all in
      group_makes (record { keys = own_columns keys; aggregates = kept_values o.keep (other_than keys all) ++ more; maintain_order = o.maintain_order; cut = None }) input s plain first

  kept_makes : (o : DistinctStep) (input : Stream) (s : State) → ArePlain s.nodes → IsFirst s.nodes input → Makes s (kept_groups at o input s)
  kept_makes o input s plain first = by (keeps_none o.keep)
    where
      by : (b : Bool) → Makes s (cond {A = Stream → State → Made} b (single_rows at o) (groups_with at [] o) input s)
      by true =
          let height : Name = new_name s in
          let more : List Named = (height, Tree.len) ∷ [] in
          let g : Made = groups_with at more o input (after_name s) in
          let kind : PhysicalKind = filter_node (is_one height) in
          made_from s (after_name s) (over_same at kind g.stream g.state) (stands_as at s input plain first).more (same_above kind (no_filter (is_one height)) (after_name s) g (with_makes more o input (after_name s) plain first))
      by false = with_makes [] o input s plain first

  distinct_makes : (o : DistinctStep) (input : Stream) (s : State) → ArePlain s.nodes → IsFirst s.nodes input → Makes s (distinct_stream at o input s)
  distinct_makes o input s plain first = by (o.maintain_order && keeps_last o.keep)
    where
      by : (b : Bool) → Makes s (cond {A = Stream → State → Made} b (mapped_distinct at o) (grouped_distinct at o) input s)
      by true = same_makes at (in_memory_map (distinct o)) input s (λ e. cc) plain first
      by false =
          let g = kept_groups at o input s in
          let ns = names_of (schema_at s.nodes input) in
          let ordered = with_columns at ns g.stream g.state in
          cut_above o.cut s ordered (columns_above ns s g (kept_makes o input s plain first))

  user_makes : (F : Functions) (n : ℕ) (schema : Fields) (input : Stream) (s : State) → ArePlain s.nodes → IsFirst s.nodes input → Makes s (over at (cond (F.streams n) (stream_map (user n)) (in_memory_map (user n))) schema input s)
  user_makes F n schema input s plain first = over_makes at (cond (F.streams n) (stream_map (user n)) (in_memory_map (user n))) schema input s (by (F.streams n)) plain first
    where
      by : (b : Bool) → cond {A = PhysicalKind} b (stream_map (user n)) (in_memory_map (user n)) ≡ in_memory_sink → ⊥
      by true e = cc
      by false e = cc

  -- each step but a sink
  module _ (F : Functions) (schema : Fields) (inputs : List Stream) (s : State) (plain : ArePlain s.nodes) (all : AllFirst s.nodes inputs) (below : PlanTrees) (one : HasFirst below → IsFirst s.nodes (first_stream inputs)) (two : HasSecond below → IsFirst s.nodes (second_stream inputs)) where
    earlier : HasSecond below → HasFirst below
    earlier h = by below h
      where
        by : (ts : PlanTrees) → HasSecond ts → HasFirst ts
        by no_trees h = h
        by (tree t ts) h = tt

    pub step_makes : (step : Step) → IsFed step below → (IsSinkStep step → ⊥) → Makes s (step_stream at F step schema inputs s)
    step_makes (scan table columns) fed h = columns_above (names_of schema) s (over_all at (in_memory_source table) table.schema [] s) (all_makes (in_memory_source table) table.schema [] s (λ e. cc) plain tt)
    step_makes (project names) fed h = projection_makes at names (first_stream inputs) s plain (one fed)
    step_makes (select es) fed h = select_stream_makes at (first_stream inputs) es s plain (one fed)
    step_makes (hstack es) fed h = hstack_makes es schema (first_stream inputs) s plain (one fed)
    step_makes (filter predicate) fed h = filter_makes predicate (first_stream inputs) s plain (one fed)
    step_makes (slice offset n) fed h = slice_makes offset n (first_stream inputs) s plain (one fed)
    step_makes (sink target) fed h = absurd (h tt)
    step_makes (row_index name offset) fed h = over_makes at (with_row_index name offset) schema (first_stream inputs) s (λ e. cc) plain (one fed)
    step_makes (user n) fed h = user_makes F n schema (first_stream inputs) s plain (one fed)
    step_makes (sort o) fed h = same_makes at (in_memory_map (sort o)) (first_stream inputs) s (λ e. cc) plain (one fed)
    step_makes (union cut) fed h = cut_above cut s (over_all at ordered_union schema inputs s) (all_makes ordered_union schema inputs s (λ e. cc) plain all)
    step_makes hconcat fed h = all_makes (zip_node true) schema inputs s (λ e. cc) plain all
    step_makes (cache id) fed h = stands_as at s (first_stream inputs) plain (one fed)
    step_makes (group_by o) fed h = group_makes o (first_stream inputs) s plain (one fed)
    step_makes (join o) fed h = join_makes o schema (first_stream inputs) (second_stream inputs) s plain (one (earlier fed)) (two fed)
    step_makes (distinct o) fed h = distinct_makes o (first_stream inputs) s plain (one fed)
    step_makes (left_out what) fed h = without_makes at [] s plain
