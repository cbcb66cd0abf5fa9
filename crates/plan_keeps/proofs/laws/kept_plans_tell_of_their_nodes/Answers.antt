use Rattle.plan_keeps.proofs.ToldPlans.{root_made}
use Rattle.plan_keeps.proofs.laws.kept_plans_tell_of_their_nodes.Goals as goal

pub returns : goal.returns
returns c = λ F stored names t lawful stands apart kept sound. root_made F stored names t lawful stands apart kept sound
