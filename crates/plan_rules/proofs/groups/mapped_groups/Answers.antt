use Rattle.std.specs.Prelude.{refl}
use Rattle.std.specs.Fmt.{digits}
use Rattle.plan_rules.proofs.groups.mapped_groups.Goals as goal

pub returns-clause-in_order : goal.returns-clause-in_order
unfolding digits
returns-clause-in_order c F = refl

pub returns-clause-independent_of_the_input : goal.returns-clause-independent_of_the_input
unfolding digits
returns-clause-independent_of_the_input c F = refl

pub returns-clause-distinct_counts : goal.returns-clause-distinct_counts
unfolding digits
returns-clause-distinct_counts c F = refl

pub returns-clause-with_its_slice : goal.returns-clause-with_its_slice
unfolding digits
returns-clause-with_its_slice c F = refl
