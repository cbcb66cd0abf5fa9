use Rattle.std.specs.Prelude.{refl}
use Rattle.std.specs.Fmt.{digits}
use Rattle.plan_rules.proofs.selects.names_through_a_plan.Goals as goal

pub returns-clause-in_use : goal.returns-clause-in_use
unfolding digits
returns-clause-in_use c F = refl

pub returns-clause-from_node_to_node : goal.returns-clause-from_node_to_node
unfolding digits
returns-clause-from_node_to_node c F = refl
