use Rattle.std.specs.Prelude.{refl}
use Rattle.std.specs.Fmt.{digits}
use Rattle.ps_rules.proofs.examples.worked_calls.Goals as goal

pub returns-clause-sum_beside_a_column : goal.returns-clause-sum_beside_a_column
unfolding digits
returns-clause-sum_beside_a_column c = refl

pub returns-clause-one_reduce_for_two : goal.returns-clause-one_reduce_for_two
unfolding digits
returns-clause-one_reduce_for_two c = refl

pub returns-clause-name_in_use : goal.returns-clause-name_in_use
unfolding digits
returns-clause-name_in_use c = refl

pub returns-clause-literals_without_the_source : goal.returns-clause-literals_without_the_source
unfolding digits
returns-clause-literals_without_the_source c = refl

pub returns-clause-operands_share_streams : goal.returns-clause-operands_share_streams
unfolding digits
returns-clause-operands_share_streams c = refl

pub returns-clause-map_over_what_is_read : goal.returns-clause-map_over_what_is_read
unfolding digits
returns-clause-map_over_what_is_read c = refl

pub returns-clause-filter_of_a_select : goal.returns-clause-filter_of_a_select
unfolding digits
returns-clause-filter_of_a_select c = refl

pub returns-clause-keys_with_the_values : goal.returns-clause-keys_with_the_values
unfolding digits
returns-clause-keys_with_the_values c = refl

pub returns-clause-reduce_over_a_reduce : goal.returns-clause-reduce_over_a_reduce
unfolding digits
returns-clause-reduce_over_a_reduce c = refl
