use Rattle.plan_laws.proofs.Doubling.{doubling_refused}
use Rattle.plan_laws.proofs.RefusedPlans.{circle_refused, column_refused, empty_group_refused, function_refused, keyless_refused, predicate_refused, projection_refused, root_refused, select_refused, sinks_refused, sort_refused, window_refused}
use Rattle.plan_laws.proofs.examples.small_refusals.Goals as goal

pub returns-clause-unknown_column : goal.returns-clause-unknown_column
returns-clause-unknown_column c = column_refused

pub returns-clause-number_as_predicate : goal.returns-clause-number_as_predicate
returns-clause-number_as_predicate c = predicate_refused

pub returns-clause-root_below_sink : goal.returns-clause-root_below_sink
returns-clause-root_below_sink c = root_refused

pub returns-clause-sink_below_root : goal.returns-clause-sink_below_root
returns-clause-sink_below_root c = sinks_refused

pub returns-clause-left_out : goal.returns-clause-left_out
returns-clause-left_out c = window_refused

pub returns-clause-own_input : goal.returns-clause-own_input
returns-clause-own_input c = circle_refused

pub returns-clause-no_sort_key : goal.returns-clause-no_sort_key
returns-clause-no_sort_key c = sort_refused

pub returns-clause-no_group_key : goal.returns-clause-no_group_key
returns-clause-no_group_key c = keyless_refused

pub returns-clause-no_group_column : goal.returns-clause-no_group_column
returns-clause-no_group_column c = empty_group_refused

pub returns-clause-name_twice : goal.returns-clause-name_twice
returns-clause-name_twice c = select_refused

pub returns-clause-no_column : goal.returns-clause-no_column
returns-clause-no_column c = projection_refused

pub returns-clause-no_such_function : goal.returns-clause-no_such_function
returns-clause-no_such_function c = function_refused

pub returns-clause-doubled_too_often : goal.returns-clause-doubled_too_often
returns-clause-doubled_too_often c = λ F f k low high. doubling_refused f F k low high
