use Rattle.world_facts.proofs.HandedOnce.{is_claimed_once}
use Rattle.world_facts.proofs.promises.numbers_come_once.Goals as goal

pub returns : goal.returns
returns c = λ F shape sound o w r. is_claimed_once F shape sound o w r
