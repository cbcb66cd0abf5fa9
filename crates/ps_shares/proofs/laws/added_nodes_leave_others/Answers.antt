use Rattle.ps_shares.proofs.Ends.{choices_restrict, new_causes_join}
use Rattle.ps_shares.proofs.laws.added_nodes_leave_others.Goals as goal

pub returns-clause-choices : goal.returns-clause-choices
returns-clause-choices c = choices_restrict

pub returns-clause-causes : goal.returns-clause-causes
returns-clause-causes c = new_causes_join
