use Rattle.plan_laws.proofs.BrokenRows.{both-broken, full-only, inner-only, left-only, right-broken, right-only, semi-only}
use Rattle.plan_laws.proofs.broken.joins_of_broken_sides.Goals as goal

pub returns-clause-inner : goal.returns-clause-inner
returns-clause-inner c = inner-only

pub returns-clause-left : goal.returns-clause-left
returns-clause-left c = left-only

pub returns-clause-right : goal.returns-clause-right
returns-clause-right c = right-only

pub returns-clause-full : goal.returns-clause-full
returns-clause-full c = full-only

pub returns-clause-semi : goal.returns-clause-semi
returns-clause-semi c = semi-only

pub returns-clause-broken_right : goal.returns-clause-broken_right
returns-clause-broken_right c = right-broken

pub returns-clause-both_broken : goal.returns-clause-both_broken
returns-clause-both_broken c = both-broken
