use Rattle.world_facts.proofs.DropsDone.{opened_keeps}
use Rattle.world_facts.proofs.facts.opens_keep.Goals as goal

pub returns : goal.returns
returns c = λ F w s v phase u f shut opens. opened_keeps F w s v phase u f shut opens
