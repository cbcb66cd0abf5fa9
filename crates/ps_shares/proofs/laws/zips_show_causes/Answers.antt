use Rattle.ps_shares.proofs.ZipCauses.{zips_show_causes}
use Rattle.ps_shares.proofs.laws.zips_show_causes.Goals as goal

pub returns : goal.returns
returns c = zips_show_causes
