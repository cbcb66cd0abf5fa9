-- An empty place of what is left.
use Rattle.ps_pipes.proofs.Showing.{awaited}
use Rattle.ps_pipes.proofs.laws.awaited.Goals as goal

pub returns : goal.returns
returns c = λ s p h number shown behind at d. awaited s p h shown number behind at d
