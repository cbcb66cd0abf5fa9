use Rattle.world_claims.proofs.WholeLaw.{facts_law}
use Rattle.world_claims.proofs.families.every_reached.Goals as goal
use Rattle.world_claims.specs.Numbering.{Known}
use Rattle.world_laws.proofs.Reached.{every_reached as reached}

pub returns : goal.returns
returns g c = λ F shape o w lawful sound r. reached F (Known F) (g.L.Families.holds F) (facts_law F) (g.L.Families.law F lawful) (g.L.Families.rests F lawful) shape o w sound r
