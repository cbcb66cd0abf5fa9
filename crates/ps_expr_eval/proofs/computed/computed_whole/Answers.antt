use Rattle.std.proofs.Common.{refl}
use Rattle.ps_expr_eval.proofs.WholeOperands.{whole-kept}
use Rattle.ps_expr_eval.proofs.computed.computed_whole.Goals as goal

pub returns-clause-kept : goal.returns-clause-kept
returns-clause-kept c = whole-kept _ c.args.values.items refl refl
