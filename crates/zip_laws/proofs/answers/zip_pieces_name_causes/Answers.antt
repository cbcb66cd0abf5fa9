use Rattle.zip_laws.proofs.Causes.{zip_names}
use Rattle.zip_laws.proofs.answers.zip_pieces_name_causes.Goals as goal

pub returns : goal.returns
returns c = λ F shape o w n node extend q cause sound r at is c e result. zip_names F shape o w sound r n node extend at is q c e cause result
