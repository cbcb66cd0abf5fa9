use Rattle.ps_shares.proofs.Stepped.{filters_show, sorts_show}
use Rattle.ps_shares.proofs.laws.steps_show.Goals as goal

pub returns-clause-sorts : goal.returns-clause-sorts
returns-clause-sorts c = sorts_show

pub returns-clause-filters : goal.returns-clause-filters
returns-clause-filters c = filters_show
