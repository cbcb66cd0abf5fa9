use Rattle.world_facts.proofs.EndedKeeps.{ended_keeps}
use Rattle.world_facts.proofs.facts.ends_keep.Goals as goal

pub returns : goal.returns
returns c = λ F w v phase f s. ended_keeps F w v phase f s
