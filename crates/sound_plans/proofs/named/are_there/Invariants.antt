use Rattle.sound_plans.proofs.Naming.{AreLeft}
use Rattle.sound_plans.proofs.named.are_there.Given as goal

abbrev pub invariant-loop-expr : goal.invariant-loop-expr
invariant-loop-expr l = AreLeft l.number l.exprs l.expr-index
