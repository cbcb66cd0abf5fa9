use Rattle.world_facts.proofs.DropsDone.{drops_are_done}
use Rattle.world_facts.proofs.Placing.{ends_agree}
use Rattle.world_facts.proofs.facts.settled_ends.Goals as goal

pub returns-clause-agree : goal.returns-clause-agree
returns-clause-agree c = λ F w f rest. ends_agree F w f rest

pub returns-clause-dropped : goal.returns-clause-dropped
returns-clause-dropped c = λ F w f rest. drops_are_done F w f rest
