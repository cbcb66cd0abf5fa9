use Rattle.plan_laws.proofs.NoOthers.{distinct_either, distinct_only, filter_only, group_only}
use Rattle.plan_laws.proofs.examples.no_other_meanings.Goals as goal

pub returns-clause-filtered : goal.returns-clause-filtered
returns-clause-filtered c = λ F choice T m. filter_only F choice m

pub returns-clause-literal_key : goal.returns-clause-literal_key
returns-clause-literal_key c = λ F choice T m. group_only F choice m

pub returns-clause-order_kept : goal.returns-clause-order_kept
returns-clause-order_kept c = λ F choice T m. distinct_only F choice m

pub returns-clause-any_order : goal.returns-clause-any_order
returns-clause-any_order c = λ F choice T m. distinct_either F choice m
