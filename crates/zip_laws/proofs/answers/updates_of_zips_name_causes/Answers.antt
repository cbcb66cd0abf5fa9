use Rattle.zip_laws.proofs.Shapes.{opened_break, opens_break}
use Rattle.zip_laws.proofs.answers.updates_of_zips_name_causes.Goals as goal

pub returns-clause-at_the_fault : goal.returns-clause-at_the_fault
returns-clause-at_the_fault c = λ F shape o w s n node extend c sound r shut run u at is found. opens_break F shape o w s n node extend c sound r shut run u at is found

pub returns-clause-of_the_open : goal.returns-clause-of_the_open
returns-clause-of_the_open c = λ F shape o w s phase n node extend c sound r shut run u at is found. opened_break F shape o w s phase n node extend c sound r shut run u at is found
