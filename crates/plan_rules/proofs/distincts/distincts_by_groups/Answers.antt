use Rattle.std.specs.Prelude.{refl}
use Rattle.std.specs.Fmt.{digits}
use Rattle.plan_rules.proofs.distincts.distincts_by_groups.Goals as goal

pub returns-clause-any : goal.returns-clause-any
unfolding digits
returns-clause-any c F = refl

pub returns-clause-any_by_all_columns : goal.returns-clause-any_by_all_columns
unfolding digits
returns-clause-any_by_all_columns c F = refl

pub returns-clause-keys_in_the_order_of_the_subset : goal.returns-clause-keys_in_the_order_of_the_subset
unfolding digits
returns-clause-keys_in_the_order_of_the_subset c F = refl

pub returns-clause-first : goal.returns-clause-first
unfolding digits
returns-clause-first c F = refl

pub returns-clause-last : goal.returns-clause-last
unfolding digits
returns-clause-last c F = refl
