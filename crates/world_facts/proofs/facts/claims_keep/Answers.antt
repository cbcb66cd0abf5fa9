use Rattle.world_facts.proofs.Claimed.{claimed_keeps}
use Rattle.world_facts.proofs.facts.claims_keep.Goals as goal

pub returns : goal.returns
returns c = λ F w v n i number worker fits f s. claimed_keeps F w v n i number worker fits f s
