use Rattle.world_facts.proofs.Dropping.{drops_at_last}
use Rattle.world_facts.proofs.Halting.{halts as stop}
use Rattle.world_facts.proofs.promises.slices_halt_sources.Goals as goal

pub returns-clause-drops : goal.returns-clause-drops
returns-clause-drops c = λ F w. drops_at_last F w

pub returns-clause-halts : goal.returns-clause-halts
returns-clause-halts c = λ F w f. stop F w f
