use Rattle.plan_laws.proofs.OrderedRows.{before-first, last-but-one, last-cast, least, none-before, of-no-rows}
use Rattle.plan_laws.proofs.ordered.slices_from_the_end.Goals as goal

pub returns-clause-last_but_one : goal.returns-clause-last_but_one
returns-clause-last_but_one c = last-but-one

pub returns-clause-begins_before_the_first : goal.returns-clause-begins_before_the_first
returns-clause-begins_before_the_first c = before-first

pub returns-clause-ends_before_the_first : goal.returns-clause-ends_before_the_first
returns-clause-ends_before_the_first c = none-before

pub returns-clause-of_no_rows : goal.returns-clause-of_no_rows
returns-clause-of_no_rows c = of-no-rows

pub returns-clause-of_a_sort : goal.returns-clause-of_a_sort
returns-clause-of_a_sort c = least

pub returns-clause-keeps_the_fault : goal.returns-clause-keeps_the_fault
returns-clause-keeps_the_fault c = last-cast
