use Rattle.zip_laws.proofs.OfShape.{multiplexers_lead}
use Rattle.zip_laws.proofs.ports.multiplexers_lead_on.Goals as goal

pub returns : goal.returns
returns c = λ F s n p known e is rest. multiplexers_lead F s n p known e is rest
