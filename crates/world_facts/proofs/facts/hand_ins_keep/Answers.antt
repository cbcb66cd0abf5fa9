use Rattle.world_facts.proofs.HandedIn.{handed_in_keeps}
use Rattle.world_facts.proofs.facts.hand_ins_keep.Goals as goal

pub returns : goal.returns
returns c = λ F w v n i number worker handed f s. handed_in_keeps F w v n i number worker handed f s
