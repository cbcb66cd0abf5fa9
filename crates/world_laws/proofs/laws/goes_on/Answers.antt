use Rattle.world_laws.proofs.OnePhase.{goes_on as on}
use Rattle.world_laws.proofs.laws.goes_on.Goals as goal

pub returns : goal.returns
returns c = λ F w facts law n u. on F w facts law n u
