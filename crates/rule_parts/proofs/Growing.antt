-- Names only grow while steps are lowered.
use Rattle.std.proofs.Common.{ℕ, Bool, true, false, cond, List, [], ◌∷◌, ◌++◌, length, drop, take, None, sym, subst, ◌+◌}
use Rattle.std.specs.Prelude.{◌&&◌, unwrap_or, map}
use Rattle.std.specs.List.{list_all, AllByRecursion}
use Rattle.ps_frame.specs.Functions.{Functions}
use Rattle.ps_frame.specs.Tables.{Fields}
use Rattle.ps_frame.specs.Trees.{Tree}
use Rattle.ps_frame.specs.Typing.{is_elementwise}
use Rattle.ps_meaning.specs.Joins.{goes_by_left}
use Rattle.ps_meaning.specs.Schemas.{expr_names, names_of}
use Rattle.ps_meaning.specs.Shape.{equi_join, filter_node, group_by_node, in_memory_join, in_memory_source, ordered_union, select_node}
use Rattle.ps_meaning.specs.Steps.{DistinctStep, GroupStep, JoinStep, Name, Named, Step, cache, distinct, exprs_of, filter, group_by, hconcat, hstack, join, left_out, project, row_index, scan, select, sink, slice, sort, union, user}
use Rattle.ps_rules.specs.Lowered.{as_operand, lower_exprs, select_stream}
use Rattle.ps_rules.specs.Names.{Names}
use Rattle.ps_rules.specs.Rules.{NamedOperand, first_tree, together}
use Rattle.ps_rules.specs.Slots.{Made, State, Stream, after_name, new_name, over, over_same, over_selected, schema_at, under, with_columns}
use Rattle.ps_rules.specs.Calls.{Call}
use Rattle.ps_shares.proofs.Fresh.{Grown, grown_fresh, grown_same, grown_then}
use Rattle.ps_shares.proofs.Growing.{columns_names, grows, grows_finished, grows_selected, grows_together}
use Rattle.ps_shares.proofs.Adding.{all_grow}
use Rattle.plan_rules.specs.Distinct.{distinct_stream, grouped_distinct, groups_with, keeps_last, keeps_none, kept_groups, kept_values, mapped_distinct, other_than, single_rows}
use Rattle.plan_rules.specs.Groups.{can_stream, columns_over, group_stream, mapped_groups, own_columns, streamed_groups}
use Rattle.plan_rules.specs.Joins.{equi_join_stream, join_stream, keyed_join, over_both}
use Rattle.plan_rules.specs.Nodes.{extended_apart, filter_stream, first_stream, hstack_stream, over_all, second_stream, step_stream}
use Rattle.plan_rules.specs.Reductions.{split_aggregates}
use Rattle.rule_parts.specs.Good.{KnownNamesStay}
use Rattle.rule_parts.proofs.Passing.{cut_names}
use Rattle.rule_parts.proofs.Reduced.{split_grows}

-- by calls
module _ (at : ℕ) (input : Stream) where
  pub exprs_grow : (es : List Tree) (s : State) → Grown s.names (lower_exprs at input es s).state.names
  exprs_grow es s = let os = map (as_operand at input) es in grows_finished at input s.names (together at input os s) (grows_together at input os (all_grow at input es) s)

  items_grow : (es : List Named) → AllByRecursion (λ (i : NamedOperand). (c : Call) → Grown c.state.names (i.1.rule c).state.names) (map (λ (e : Named). (e.0, as_operand at input e.1)) es)
  items_grow [] = tt
  items_grow (e ∷ es) = (grows at input e.1, items_grow es)

  pub select_grows : (es : List Named) (s : State) → Grown s.names (select_stream at input es s).state.names
  select_grows es s = grows_selected at input (map (λ (e : Named). (e.0, as_operand at input e.1)) es) (items_grow es) s

-- by a group-by
pub group_grows : (at : ℕ) (o : GroupStep) (input : Stream) (s : State) → Grown s.names (group_stream at o input s).state.names
group_grows at o input s = by (can_stream o)
  where
    by : (b : Bool) → Grown s.names (cond {A = Stream → State → Made} b (streamed_groups at o) (mapped_groups at o) input s).state.names
    by false = grown_same s.names
    by true =
        let a = lower_exprs at input (exprs_of o.keys ++ columns_over input s) s in
        let split = split_aggregates o.aggregates a.state.names in
        let keys = under (expr_names o.keys) a.exprs in
        let g = over_selected at (group_by_node keys split.reductions) (keys ++ split.reductions) a.stream (record { nodes = a.state.nodes; names = split.names }) in
        let m = select_stream at g.stream (own_columns (expr_names o.keys) ++ split.above) g.state in
        subst (λ (c : Names). Grown s.names c) (sym (cut_names at o.cut m.stream m.state))
        (grown_then s.names a.state.names m.state.names (exprs_grow at input (exprs_of o.keys ++ columns_over input s) s)
        (grown_then a.state.names split.names m.state.names (split_grows o.aggregates (record { names = a.state.names; reductions = []; above = [] })) (select_grows at g.stream (own_columns (expr_names o.keys) ++ split.above) g.state)))

-- by each step
module _ (at : ℕ) where
  columns_grow : (ns : List Name) (i : Stream) (a : Names) (s : State) → Grown a s.names → Grown a (with_columns at ns i s).state.names
  columns_grow ns i a s g = subst (λ (b : Names). Grown a b) (sym (columns_names at i ns i s)) g

  hstack_grows : (es : List Named) (schema : Fields) (i : Stream) (s : State) → Grown s.names (hstack_stream at es schema i s).state.names
  hstack_grows es schema i s = by (list_all is_elementwise (exprs_of es))
    where
      by : (b : Bool) → Grown s.names (cond {A = Stream → State → Made} b (over at (select_node es true) schema) (extended_apart at es schema) i s).state.names
      by true = grown_same s.names
      by false = exprs_grow at i (columns_over i s ++ exprs_of es) s

  filter_grows : (e : Tree) (i : Stream) (s : State) → Grown s.names (filter_stream at e i s).state.names
  filter_grows e i s =
      let columns = columns_over i s in
      let a = lower_exprs at i (columns ++ e ∷ []) s in
      let m = over_same at (filter_node (first_tree (drop (length columns) a.exprs))) a.stream a.state in
      columns_grow (names_of (schema_at s.nodes i)) m.stream s.names m.state (exprs_grow at i (columns ++ e ∷ []) s)

  join_grows : (o : JoinStep) (schema : Fields) (left right : Stream) (s : State) → Grown s.names (join_stream at o schema left right s).state.names
  join_grows o schema left right s = by (goes_by_left o.args.how)
    where
      by : (b : Bool) → Grown s.names (cond {A = Stream → Stream → State → Made} b (equi_join_stream at o schema) (over_both at (in_memory_join o) schema) left right s).state.names
      by false = grown_same s.names
      by true =
          let les = o.left_on ++ columns_over left s in
          let l = lower_exprs at left les s in
          let res = o.right_on ++ columns_over right l.state in
          let r = lower_exprs at right res l.state in
          let m = over_both at (equi_join (keyed_join o (take (length o.left_on) l.exprs) (take (length o.right_on) r.exprs))) schema l.stream r.stream r.state in
          subst (λ (b : Names). Grown s.names b) (sym (cut_names at o.args.slice m.stream m.state)) (grown_then s.names l.state.names r.state.names (exprs_grow at left les s) (exprs_grow at right res l.state))

  with_grows : (more : List Named) (o : DistinctStep) (i : Stream) (s : State) → Grown s.names (groups_with at more o i s).state.names
  with_grows more o i s =
      let all = names_of (schema_at s.nodes i) in
      let keys = unwrap_or o.subset all in
      group_grows at (record { keys = own_columns keys; aggregates = kept_values o.keep (other_than keys all) ++ more; maintain_order = o.maintain_order; cut = None }) i s

  kept_grows : (o : DistinctStep) (i : Stream) (s : State) → Grown s.names (kept_groups at o i s).state.names
  kept_grows o i s = by (keeps_none o.keep)
    where
      by : (b : Bool) → Grown s.names (cond {A = Stream → State → Made} b (single_rows at o) (groups_with at [] o) i s).state.names
      by true = let t = after_name s in let more : List Named = (new_name s, Tree.len) ∷ [] in grown_then s.names t.names (groups_with at more o i t).state.names (grown_fresh s.names) (with_grows more o i t)
      by false = with_grows [] o i s

  distinct_grows : (o : DistinctStep) (i : Stream) (s : State) → Grown s.names (distinct_stream at o i s).state.names
  distinct_grows o i s = by (o.maintain_order && keeps_last o.keep)
    where
      by : (b : Bool) → Grown s.names (cond {A = Stream → State → Made} b (mapped_distinct at o) (grouped_distinct at o) i s).state.names
      by true = grown_same s.names
      by false =
          let g = kept_groups at o i s in
          let ns = names_of (schema_at s.nodes i) in
          let m = with_columns at ns g.stream g.state in
          subst (λ (b : Names). Grown s.names b) (sym (cut_names at o.cut m.stream m.state)) (columns_grow ns g.stream s.names g.state (kept_grows o i s))

  pub step_grows : (F : Functions) (step : Step) (schema : Fields) (inputs : List Stream) (s : State) → Grown s.names (step_stream at F step schema inputs s).state.names
  step_grows F (scan t columns) schema inputs s = let m = over_all at (in_memory_source t) t.schema [] s in columns_grow (names_of schema) m.stream s.names m.state (grown_same s.names)
  step_grows F (project ns) schema inputs s = grown_same s.names
  step_grows F (select es) schema inputs s = select_grows at (first_stream inputs) es s
  step_grows F (hstack es) schema inputs s = hstack_grows es schema (first_stream inputs) s
  step_grows F (filter e) schema inputs s = filter_grows e (first_stream inputs) s
  step_grows F (slice offset n) schema inputs s = grown_same s.names
  step_grows F (sink target) schema inputs s = grown_same s.names
  step_grows F (row_index name offset) schema inputs s = grown_same s.names
  step_grows F (user n) schema inputs s = grown_same s.names
  step_grows F (sort o) schema inputs s = grown_same s.names
  step_grows F (union cut) schema inputs s = let m = over_all at ordered_union schema inputs s in subst (λ (b : Names). Grown s.names b) (sym (cut_names at cut m.stream m.state)) (grown_same s.names)
  step_grows F hconcat schema inputs s = grown_same s.names
  step_grows F (cache id) schema inputs s = grown_same s.names
  step_grows F (group_by o) schema inputs s = group_grows at o (first_stream inputs) s
  step_grows F (join o) schema inputs s = join_grows o schema (first_stream inputs) (second_stream inputs) s
  step_grows F (distinct o) schema inputs s = distinct_grows o (first_stream inputs) s
  step_grows F (left_out what) schema inputs s = grown_same s.names

pub known_names_stay : KnownNamesStay
known_names_stay F at step schema inputs s n known = (step_grows at F step schema inputs s).0 n known
