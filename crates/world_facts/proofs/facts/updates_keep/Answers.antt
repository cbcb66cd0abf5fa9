use Rattle.world_facts.proofs.UpdatedKeeps.{updates_keep_facts}
use Rattle.world_facts.proofs.facts.updates_keep.Goals as goal

pub returns : goal.returns
returns c = λ F w s u f shut. (updates_keep_facts F w s u f shut).0
