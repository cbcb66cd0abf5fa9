use Rattle.ps_shares.proofs.Stands.{stand_for_asked}
use Rattle.ps_shares.proofs.laws.names_stand_for_asked.Goals as goal

pub returns : goal.returns
returns c = stand_for_asked
