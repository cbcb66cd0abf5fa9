use Rattle.ps_shares.proofs.StreamEnds.{streams_keep}
use Rattle.ps_shares.proofs.laws.streams_keep.Goals as goal

pub returns : goal.returns
returns c = streams_keep
