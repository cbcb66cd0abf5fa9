use Rattle.within_plans.proofs.ToldPlans.{root_made}
use Rattle.within_plans.proofs.laws.plans_tell_of_their_nodes.Goals as goal

pub returns : goal.returns
returns c = λ F stored names t lawful stands apart within sound. root_made F lawful stored names t stands apart within sound
