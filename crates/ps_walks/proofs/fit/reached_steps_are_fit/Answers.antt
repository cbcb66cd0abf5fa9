use Rattle.ps_walks.proofs.Fits.{step-fits}
use Rattle.ps_walks.proofs.fit.reached_steps_are_fit.Goals as goal

pub returns : goal.returns
returns c = λ F plan n e valid given reached is. step-fits F plan valid given n reached e is
