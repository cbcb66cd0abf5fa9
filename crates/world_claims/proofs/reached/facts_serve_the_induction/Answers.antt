use Rattle.world_claims.proofs.WholeLaw.{facts_law}
use Rattle.world_claims.proofs.reached.facts_serve_the_induction.Goals as goal

pub returns : goal.returns
returns c = λ F. facts_law F
