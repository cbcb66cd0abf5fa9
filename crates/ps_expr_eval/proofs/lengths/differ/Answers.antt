use Rattle.std.proofs.Common.{◌∙◌, sym}
use Rattle.ps_expr_eval.proofs.Agreement.{agree-none, agree-some}
use Rattle.ps_expr_eval.proofs.lengths.differ.Goals as goal

pub returns-in-Some : goal.returns-in-Some
returns-in-Some c = c.any_unlike.ensures ∙ agree-some c.args.endings.now c.in-Some.len (sym c.first_open_length.ensures ∙ c.in-Some.is)

pub returns-in-None : goal.returns-in-None
returns-in-None c = agree-none c.args.endings.now (sym c.first_open_length.ensures ∙ c.in-None.is)
