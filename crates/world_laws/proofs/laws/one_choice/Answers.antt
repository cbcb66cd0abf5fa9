use Rattle.world_laws.proofs.OneChoice.{one_choice as served}
use Rattle.world_laws.proofs.laws.one_choice.Goals as goal

pub returns : goal.returns
returns c = λ F shape sent forward law. served F shape sent forward law
