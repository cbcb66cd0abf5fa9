use Rattle.ps_frame.specs.Trees.{tree_at}
use Rattle.valid_plans.proofs.Adding.{Left}
use Rattle.valid_plans.proofs.fields.push_typed.Given as goal

abbrev pub invariant-loop-expr : goal.invariant-loop-expr
invariant-loop-expr g l = Left (tree_at l.arena.items) l.input l.initial.schema l.exprs l.expr-index l.schema l.all_scalar l.initial.steps l.steps
