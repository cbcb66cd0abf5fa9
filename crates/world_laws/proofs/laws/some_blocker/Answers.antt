use Rattle.world_laws.proofs.BetweenPhases.{some_blocker as some}
use Rattle.world_laws.proofs.laws.some_blocker.Goals as goal

pub returns : goal.returns
returns c = λ w forward inside law p h l. some w forward inside law p h l
