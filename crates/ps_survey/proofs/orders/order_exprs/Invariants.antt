use Rattle.std.proofs.Common.{◌≡◌, ◌+◌, ◌*◌, ◌≤◌, [], length, take, ℕ}
use Rattle.std.specs.Prelude.{Contains}
use Rattle.pu_base.specs.declared.arena.Node.{Node}
use Rattle.ps_plan.specs.Graph.{Names, operands}
use Rattle.ps_survey.specs.Counts.{looks_at, names_in}
use Rattle.ps_survey.specs.Flaws.{plan_of}
use Rattle.ps_survey.specs.Orders.{exprs_in, operands_in}
use Rattle.ps_survey.specs.Search.{AtRest, looks_left}
use Rattle.ps_survey.proofs.orders.order_exprs.Given as goal

abbrev pub invariant-loop-node : goal.invariant-loop-node
invariant-loop-node g l = record {
  size : length l.search.marks.items ≡ length l.exprs.items;
  trail : l.search.trail.items ≡ [];
  rest : AtRest (operands_in l.exprs.items) l.search.order.items l.search.marks.items;
  named : (root : Node) (e : ℕ) → Contains l.search.order.items e → (n : ℕ) × Contains (take l.node-index l.order) n × Names (plan_of root l.nodes.items l.exprs.items) n e;
  own : (n e : ℕ) → Contains (take l.node-index l.order) n → Contains (exprs_in l.nodes.items n) e → Contains l.search.order.items e;
  looks : l.steps + looks_left (operands_in l.exprs.items) 0 l.search.marks.items ≤ l.fn.steps + (2 * length l.exprs.items + names_in operands l.exprs.items) + looks_at (exprs_in l.nodes.items) (take l.node-index l.order);
}
