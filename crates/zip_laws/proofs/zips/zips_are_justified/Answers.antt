use Rattle.zip_laws.proofs.ZipLaw.{zips_are_justified}
use Rattle.zip_laws.proofs.zips.zips_are_justified.Goals as goal

pub returns : goal.returns
returns c = λ F shape o w n p extend sound r e is. zips_are_justified F shape o w n p extend sound r e is
