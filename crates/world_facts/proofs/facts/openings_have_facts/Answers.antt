use Rattle.world_facts.proofs.OpeningFacts.{at_opening}
use Rattle.world_facts.proofs.facts.openings_have_facts.Goals as goal

pub returns : goal.returns
returns c = λ F shape o sound. at_opening F shape o sound
