use Rattle.std.proofs.Common.{◌≡◌, ◌++◌, vec_len}
use Rattle.std.specs.Prelude.{map, reverse}
use Rattle.ps_expr_eval.specs.declared.evaluate.Work.TheVariants.{Visit}
use Rattle.ps_expr_eval.proofs.evaluate.push_visits.Given as goal

abbrev pub invariant-loop-node : goal.invariant-loop-node
invariant-loop-node l = map Visit l.nodes.items ++ reverse l.left.items ≡ map Visit l.initial.nodes.items ++ reverse l.initial.left.items

abbrev pub decreases-loop-node : goal.decreases-loop-node
decreases-loop-node l = vec_len l.nodes
