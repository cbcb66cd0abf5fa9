use Rattle.world_facts.proofs.PulledKeeps.{pulled_keeps}
use Rattle.world_facts.proofs.facts.pulls_keep.Goals as goal

pub returns : goal.returns
returns c = λ F w v n i number f s. pulled_keeps F w v n i number f s
