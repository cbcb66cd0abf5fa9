use Rattle.ps_expr_eval.proofs.Standing.{stands}
use Rattle.ps_expr_eval.proofs.evaluate.evaluated.Goals as goal

pub returns-in-Ok-clause-stands : goal.returns-in-Ok-clause-stands
returns-in-Ok-clause-stands c = λ d k. stands c.in-Ok.evaluated c.args.part d c.in-Ok.ensures.cells c.in-Ok.ensures.broken k
