use Rattle.std.proofs.Common.{◌≡◌, ◌+◌, ◌-◌, ◌≤◌, [], length, take}
use Rattle.ps_survey.specs.Orders.{HasVisited, exprs_in, operands_in}
use Rattle.ps_survey.specs.Search.{looks_left}
use Rattle.ps_survey.proofs.orders.visit_exprs.Given as goal

abbrev pub invariant-loop-expr : goal.invariant-loop-expr
invariant-loop-expr g l = record {
  size : length l.search.marks.items ≡ length l.exprs.items;
  trail : l.search.trail.items ≡ [];
  within : l.place ≤ length (exprs_in l.nodes.items l.node);
  visited : HasVisited (operands_in l.exprs.items) (take l.place (exprs_in l.nodes.items l.node)) l.fn.search.order.items l.search.order.items l.search.marks.items;
  looks : l.steps + looks_left (operands_in l.exprs.items) 0 l.search.marks.items ≤ l.fn.steps + looks_left (operands_in l.exprs.items) 0 l.fn.search.marks.items + l.place;
}

abbrev pub decreases-loop-expr : goal.decreases-loop-expr
decreases-loop-expr g l = length (exprs_in l.nodes.items l.node) - l.place
