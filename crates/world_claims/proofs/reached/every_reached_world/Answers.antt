use Rattle.world_claims.proofs.ReachedFacts.{known_reached}
use Rattle.world_claims.proofs.reached.every_reached_world.Goals as goal

pub returns-clause-facts : goal.returns-clause-facts
returns-clause-facts c = λ F shape o w sound r. (known_reached F shape o w sound r).facts

pub returns-clause-numbers : goal.returns-clause-numbers
returns-clause-numbers c = λ F shape o w sound r. (known_reached F shape o w sound r).numbers

pub returns-clause-outs : goal.returns-clause-outs
returns-clause-outs c = λ F shape o w sound r. (known_reached F shape o w sound r).outs
