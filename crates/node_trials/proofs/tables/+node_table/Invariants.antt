use Rattle.std.proofs.Common.{◌≡◌, take}
use Rattle.valid_plans.specs.Valid.{plan_with}
use Rattle.ps_walks.specs.Accepted.{schemas_at}
use Rattle.ps_walks.specs.Fit.{plan_schemas}
use Rattle.ready_steps.specs.Ready.{frame_schemas}
use Rattle.node_trials.proofs.tables.+node_table.Given as goal

abbrev pub decreases-node_table : goal.decreases-node_table
decreases-node_table g l = l.depth

abbrev pub invariant-loop-input : goal.invariant-loop-input
invariant-loop-input g l =
    frame_schemas l.tables.items ≡ schemas_at (plan_schemas (g.F.Functions.told l.functions) (plan_with l.valid l.exprs.items)) (take l.input-index l.input-items)
