use Rattle.ps_meaning.proofs.OneInput.{one-input}
use Rattle.plan_laws.proofs.laws.one_input_is_its_own_zip.Goals as goal

pub returns-clause-rows : goal.returns-clause-rows
returns-clause-rows c = λ at t some fits. (one-input at t some fits).0

pub returns-clause-causes : goal.returns-clause-causes
returns-clause-causes c = λ at t some fits. (one-input at t some fits).1

pub returns-clause-lost : goal.returns-clause-lost
returns-clause-lost c = λ at t some fits. (one-input at t some fits).2
