use Rattle.picked_zips.proofs.Picking.{zips_alike}
use Rattle.picked_zips.proofs.laws.picked_zips_stand_for_all.Goals as goal

pub returns : goal.returns
returns c = zips_alike
