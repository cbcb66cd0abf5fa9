use Rattle.plan_calls.proofs.Keeps.{node_kept}
use Rattle.plan_calls.proofs.laws.calls_keep_nodes.Goals as goal

pub returns : goal.returns
returns c = λ F plan n p lawful valid holds steps reached come small. node_kept F lawful plan valid holds steps n reached p come small
