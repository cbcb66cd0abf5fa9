use Rattle.std.proofs.Common.{sym, ◌∙◌}
use Rattle.ps_survey.proofs.Named.{both-left, both-right}
use Rattle.ps_survey.proofs.names.among_both.Goals as goal

pub returns-then-place-first-clause-name : goal.returns-then-place-first-clause-name
returns-then-place-first-clause-name c = c.among_exprs.ensures.name ∙ sym (both-left c.args.first.now c.args.second.now c.args.place c.if-place-first.true)

pub returns-else-place-first-clause-name : goal.returns-else-place-first-clause-name
returns-else-place-first-clause-name c = c.among_exprs-else-place-first.ensures.name ∙ sym (both-right c.args.first.now c.args.second.now c.args.place c.if-place-first.false)
