use Rattle.passing_pieces.proofs.ClaimAnswers.{claim-answers}
use Rattle.passing_pieces.proofs.pieces.claims_have_answers.Goals as goal

pub returns : goal.returns
returns c = λ F o shape n p s sound there kind reads progress i k rs. claim-answers F o shape n p s sound there kind reads progress i k rs
