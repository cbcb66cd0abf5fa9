use Rattle.std.proofs.Common.{take}
use Rattle.ps_frame.specs.Trees.{tree_at}
use Rattle.ps_expr_eval.proofs.Taking.{Noting}
use Rattle.ps_expr_eval.proofs.shared.note_all.Given as goal

abbrev pub invariant-loop-node : goal.invariant-loop-node
invariant-loop-node l = Noting (tree_at l.arena.items) l.initial.left.items l.left.items (take l.node-index l.nodes)
