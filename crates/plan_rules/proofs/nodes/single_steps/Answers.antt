use Rattle.std.specs.Prelude.{refl}
use Rattle.std.specs.Fmt.{digits}
use Rattle.plan_rules.proofs.nodes.single_steps.Goals as goal

pub returns-clause-filtered : goal.returns-clause-filtered
unfolding digits
returns-clause-filtered c F = refl

pub returns-clause-filter_by_an_aggregate : goal.returns-clause-filter_by_an_aggregate
unfolding digits
returns-clause-filter_by_an_aggregate c F = refl

pub returns-clause-row_numbers : goal.returns-clause-row_numbers
unfolding digits
returns-clause-row_numbers c F = refl

pub returns-clause-row_numbers_first : goal.returns-clause-row_numbers_first
unfolding digits
returns-clause-row_numbers_first c F = refl

pub returns-clause-sorted : goal.returns-clause-sorted
unfolding digits
returns-clause-sorted c F = refl

pub returns-clause-streaming_function : goal.returns-clause-streaming_function
unfolding digits
returns-clause-streaming_function c = refl

pub returns-clause-other_function : goal.returns-clause-other_function
unfolding digits
returns-clause-other_function c = refl
