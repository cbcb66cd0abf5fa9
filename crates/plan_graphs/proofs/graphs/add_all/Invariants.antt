use Rattle.ps_frame.specs.Trees.{tree_at}
use Rattle.ps_phys.specs.Underway.{numbers_in}
use Rattle.plan_graphs.specs.Underway.{IsUnderway}
use Rattle.graph_parts.specs.Orders.{ordered}
use Rattle.plan_graphs.proofs.graphs.add_all.Given as goal

abbrev pub invariant-loop-place : goal.invariant-loop-place
invariant-loop-place l = IsUnderway (ordered (tree_at l.expr_arena.items) l.phys.slots l.order) (numbers_in l.order) l.place l.graph l.keys.slots
