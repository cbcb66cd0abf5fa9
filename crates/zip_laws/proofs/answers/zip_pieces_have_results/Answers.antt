use Rattle.zip_laws.proofs.Results.{zip_result}
use Rattle.zip_laws.proofs.answers.zip_pieces_have_results.Goals as goal

pub returns : goal.returns
returns c = λ F shape o w n node extend q sound r at is c e. zip_result F shape o w sound r n node extend at is q c e
