use Rattle.world_facts.proofs.ClosedKeeps.{closed_keeps}
use Rattle.world_facts.proofs.facts.closes_keep.Goals as goal

pub returns : goal.returns
returns c = λ F w v n f s. closed_keeps F w v n f s
