use Rattle.passing_laws.proofs.ClaimGives.{claim-breaks, claim-gives}
use Rattle.passing_laws.proofs.piecewise.answers_to_claims.Goals as goal

pub returns-clause-good : goal.returns-clause-good
returns-clause-good c = λ F o p s kind law progress before booked i k rs b r. claim-gives F o p s kind law progress before booked i k rs b r

pub returns-clause-bad : goal.returns-clause-bad
returns-clause-bad c = λ F o shape n p s sound there short reads from progress i k front a cause stands booked r. claim-breaks F o shape n p s sound there short reads from progress i k front a cause stands booked r
