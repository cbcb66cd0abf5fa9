use Rattle.world_claims.proofs.ReachedFacts.{known_reached}
use Rattle.fault_origins.proofs.Results.{of_step}
use Rattle.fault_origins.proofs.Tasks.{reached_own}
use Rattle.fault_origins.proofs.faults.faults_of_steps.Goals as goal

pub returns : goal.returns
returns k = λ F shape o w r n p c sound reached e m. of_step F w r n p c (known_reached F shape o w sound reached) (reached_own F shape o w sound reached) e m
