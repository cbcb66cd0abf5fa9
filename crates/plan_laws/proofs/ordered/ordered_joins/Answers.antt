use Rattle.plan_laws.proofs.OrderedRows.{first-of-faulty, full-meaning, left-meaning, the-fault}
use Rattle.plan_laws.proofs.ordered.ordered_joins.Goals as goal

pub returns-clause-left : goal.returns-clause-left
returns-clause-left c = left-meaning

pub returns-clause-full : goal.returns-clause-full
returns-clause-full c = full-meaning

pub returns-clause-before_a_fault : goal.returns-clause-before_a_fault
returns-clause-before_a_fault c = first-of-faulty

pub returns-clause-the_fault : goal.returns-clause-the_fault
returns-clause-the_fault c = the-fault
