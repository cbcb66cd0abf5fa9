use Rattle.zip_laws.proofs.OfShape.{zips_lead}
use Rattle.zip_laws.proofs.ports.zips_lead_on.Goals as goal

pub returns : goal.returns
returns c = λ F s n p extend known e is rest. zips_lead F s n p extend known e is rest
