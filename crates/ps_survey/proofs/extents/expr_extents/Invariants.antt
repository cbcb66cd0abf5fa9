use Rattle.std.proofs.Common.{◌≡◌, ◌+◌, ◌≤◌, ℕ, length, take}
use Rattle.std.specs.Prelude.{Contains}
use Rattle.ps_survey.specs.Counts.{looks_at}
use Rattle.ps_survey.specs.Extents.{HasExtent, expr_depth, expr_size}
use Rattle.ps_survey.specs.Orders.{operands_in}
use Rattle.ps_survey.proofs.extents.expr_extents.Given as goal

abbrev pub invariant-loop-expr : goal.invariant-loop-expr
invariant-loop-expr g l = record {
  size : length l.table.items ≡ length l.exprs.items;
  extents : (e : ℕ) → Contains (take l.expr-index l.order) e → HasExtent l.table.items e (expr_depth l.exprs.items e) (expr_size l.exprs.items e);
  looks : l.steps ≤ l.fn.steps + looks_at (operands_in l.exprs.items) (take l.expr-index l.order);
}
