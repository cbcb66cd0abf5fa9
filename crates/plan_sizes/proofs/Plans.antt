-- What a plan inserts, node by node.
use Rattle.std.proofs.Common.{ℕ, suc, ◌+◌, ◌*◌, Option, Some, None, arith}
use Rattle.ps_frame.specs.Functions.{Functions}
use Rattle.ps_frame.specs.Tables.{Fields}
use Rattle.ps_meaning.specs.PlanTrees.{PlanTree, PlanTrees, missing, no_trees, node, tree}
use Rattle.ps_meaning.specs.Schemas.{tree_schema}
use Rattle.ps_meaning.specs.Steps.{Step, cache, distinct, filter, group_by, hconcat, hstack, join, left_out, project, row_index, scan, select, sink, slice, sort, step_exprs, union, user}
use Rattle.ps_rules.specs.Counted.{inserts_for}
use Rattle.ps_rules.specs.Slots.{Stream}
use Rattle.plan_rules.specs.Plans.{LoweredPlans, Progress, cache_stream, first_plan, lower_plan, lower_plans, node_stream, stream_of_cache, stream_over}
use Rattle.plan_sizes.specs.Counted.{InsertsAtMost, PlansInsertFew, occurrences_below, plan_occurrences}
use Rattle.plan_sizes.proofs.Calls.{and_then, few}
use Rattle.plan_sizes.proofs.Steps.{steps_insert_few}

module _ (F : Functions) (at : ℕ) (schema : Fields) (input : PlanTree) (lower : Progress → LoweredPlans) (k : ℕ) (p : Progress) (below : InsertsAtMost k p.state (lower p).progress.state) where
  over_inserts : (step : Step) → InsertsAtMost (k + inserts_for (step_exprs step)) p.state (stream_over F at step schema (lower p)).progress.state
  over_inserts step =
      let l = lower p in
      and_then k (inserts_for (step_exprs step)) p.state l.progress.state (stream_over F at step schema l).progress.state below (steps_insert_few F at step schema l.streams l.progress.state)

  -- a cache id that has a stream adds none
  cached_inserts : (id : ℕ) → InsertsAtMost (k + inserts_for (step_exprs (cache id))) p.state (cache_stream (stream_of_cache id p.cached) id input lower p).progress.state
  cached_inserts id = by (stream_of_cache id p.cached)
    where
      by : (known : Option Stream) → InsertsAtMost (k + inserts_for (step_exprs (cache id))) p.state (cache_stream known id input lower p).progress.state
      by (Some stream) = omega arith
      by None = few k (k + inserts_for (step_exprs (cache id))) p.state (lower p).progress.state (omega arith) below

  node_inserts : (step : Step) → InsertsAtMost (k + inserts_for (step_exprs step)) p.state (node_stream F at step schema input lower p).progress.state
  node_inserts (cache id) = cached_inserts id
  node_inserts (scan t columns) = over_inserts (scan t columns)
  node_inserts (project names) = over_inserts (project names)
  node_inserts (select es) = over_inserts (select es)
  node_inserts (hstack es) = over_inserts (hstack es)
  node_inserts (filter e) = over_inserts (filter e)
  node_inserts (slice offset n) = over_inserts (slice offset n)
  node_inserts (sink target) = over_inserts (sink target)
  node_inserts (row_index name offset) = over_inserts (row_index name offset)
  node_inserts (user n) = over_inserts (user n)
  node_inserts (sort o) = over_inserts (sort o)
  node_inserts (union cut) = over_inserts (union cut)
  node_inserts hconcat = over_inserts hconcat
  node_inserts (group_by o) = over_inserts (group_by o)
  node_inserts (join o) = over_inserts (join o)
  node_inserts (distinct o) = over_inserts (distinct o)
  node_inserts (left_out what) = over_inserts (left_out what)

mutual
  pub plan_inserts : (F : Functions) (t : PlanTree) (p : Progress) → InsertsAtMost (64 * plan_occurrences t) p.state (lower_plan F t p).progress.state
  plan_inserts F (node at step below) p =
      let l = lower_plans F below in
      let k = 64 * occurrences_below below in
      let n = node_inserts F at (tree_schema F (node at step below)) (first_plan below) l k p (below_inserts F below p) step in
      few (k + inserts_for (step_exprs step)) (64 * plan_occurrences (node at step below)) p.state (lower_plan F (node at step below) p).progress.state (omega arith) n
  plan_inserts F missing p = omega arith

  pub below_inserts : (F : Functions) (ts : PlanTrees) (p : Progress) → InsertsAtMost (64 * occurrences_below ts) p.state (lower_plans F ts p).progress.state
  below_inserts F no_trees p = omega arith
  below_inserts F (tree t ts) p =
      let first = lower_plan F t p in
      let j = 64 * plan_occurrences t in
      let k = 64 * occurrences_below ts in
      let n = and_then j k p.state first.progress.state (lower_plans F ts first.progress).progress.state (plan_inserts F t p) (below_inserts F ts first.progress) in
      few (j + k) (64 * occurrences_below (tree t ts)) p.state (lower_plans F (tree t ts) p).progress.state (omega arith) n

pub plans_insert : PlansInsertFew
plans_insert F t p = few (64 * plan_occurrences t) (64 * suc (plan_occurrences t)) p.state (lower_plan F t p).progress.state (omega arith) (plan_inserts F t p)
