use Rattle.ps_document.proofs.OnePlan.{one_plan}
use Rattle.ps_document.proofs.laws.documents_have_one_plan.Goals as goal

pub returns : goal.returns
returns c = one_plan
