use Rattle.ps_shares.proofs.Ends.{selects_keep, selects_keep_causes}
use Rattle.ps_shares.proofs.laws.selects_keep_answers.Goals as goal

pub returns-clause-rows : goal.returns-clause-rows
returns-clause-rows c = selects_keep

pub returns-clause-causes : goal.returns-clause-causes
returns-clause-causes c = selects_keep_causes
