use Rattle.std.specs.Prelude.{refl}
use Rattle.std.specs.Fmt.{digits}
use Rattle.plan_rules.proofs.slices.places_of_slices.Goals as goal

pub returns-clause-node : goal.returns-clause-node
unfolding digits
returns-clause-node c F = refl

pub returns-clause-node_from_the_end : goal.returns-clause-node_from_the_end
unfolding digits
returns-clause-node_from_the_end c F = refl

pub returns-clause-node_without_rows : goal.returns-clause-node_without_rows
unfolding digits
returns-clause-node_without_rows c F = refl

pub returns-clause-inside_a_sort : goal.returns-clause-inside_a_sort
unfolding digits
returns-clause-inside_a_sort c F = refl

pub returns-clause-above_a_union : goal.returns-clause-above_a_union
unfolding digits
returns-clause-above_a_union c F = refl
