use Rattle.ps_survey.proofs.Named.{number-none, number-some}
use Rattle.ps_survey.proofs.names.among_exprs.Goals as goal

pub returns-in-None-clause-name : goal.returns-in-None-clause-name
returns-in-None-clause-name c = number-none c.args.exprs.now c.args.place c.in-None.ensures.lookup.3

pub returns-in-Some-clause-name : goal.returns-in-Some-clause-name
returns-in-Some-clause-name c = let h = c.in-Some.ensures.lookup in number-some c.args.exprs.now c.args.place c.in-Some.expr.now h.3.0 h.1
