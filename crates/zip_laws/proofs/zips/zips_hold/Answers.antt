use Rattle.zip_laws.proofs.ZipLaw.{zips_hold}
use Rattle.zip_laws.proofs.zips.zips_hold.Goals as goal

pub returns : goal.returns
returns c = λ F shape o w n p extend sound r e is. zips_hold F shape o w n p extend sound r e is
