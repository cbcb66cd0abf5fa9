use Rattle.plan_calls.proofs.Begun.{empty_lowered, nothing_lowered}
use Rattle.plan_calls.proofs.laws.no_call_was_made.Goals as goal

pub returns-clause-nothing : goal.returns-clause-nothing
returns-clause-nothing c = λ F plan f low caches valid knows no_nodes none. empty_lowered F plan f low caches valid knows no_nodes none

pub returns-clause-nodes : goal.returns-clause-nodes
returns-clause-nodes c = λ F plan f low caches valid knows sound none. nothing_lowered F plan f low caches valid knows sound none
