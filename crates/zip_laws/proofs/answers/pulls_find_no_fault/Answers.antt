use Rattle.zip_laws.proofs.Pulls.{pulls_no_fault}
use Rattle.zip_laws.proofs.answers.pulls_find_no_fault.Goals as goal

pub returns : goal.returns
returns c = λ F w m i number n node c at none f. pulls_no_fault F w m i number n node c at none f
