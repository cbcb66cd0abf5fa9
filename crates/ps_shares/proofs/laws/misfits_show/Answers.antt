use Rattle.ps_shares.proofs.Misfits.{shape_shows}
use Rattle.ps_shares.proofs.laws.misfits_show.Goals as goal

pub returns : goal.returns
returns c = shape_shows
