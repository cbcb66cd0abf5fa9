use Rattle.std.proofs.Common.{◌≡◌, ◌+◌, ◌≤◌, ℕ, length, take}
use Rattle.std.specs.Prelude.{Contains}
use Rattle.ps_survey.specs.Counts.{looks_at}
use Rattle.ps_survey.specs.Extents.{HasExtent, node_depth, node_size}
use Rattle.valid_plans.specs.Surveys.{IsWithinLimits}
use Rattle.ps_survey.specs.Orders.{all_in}
use Rattle.ps_survey.proofs.limits.check_limits.Given as goal

abbrev pub invariant-loop-node : goal.invariant-loop-node
invariant-loop-node g l = record {
  size : length l.table.items ≡ length l.nodes.items;
  extents : (n : ℕ) → Contains (take l.node-index l.order) n → HasExtent l.table.items n (node_depth l.nodes.items l.exprs.items n) (node_size l.nodes.items l.exprs.items n);
  within : (n : ℕ) → Contains (take l.node-index l.order) n → IsWithinLimits (node_depth l.nodes.items l.exprs.items n) (node_size l.nodes.items l.exprs.items n);
  looks : l.steps ≤ l.fn.steps + looks_at (all_in l.nodes.items) (take l.node-index l.order);
}
