use Rattle.plan_laws.proofs.ShapeRows.{broken-within, whole-not-within}
use Rattle.plan_laws.proofs.shapes.tables_within_others.Goals as goal

pub returns-clause-broken_in_whole : goal.returns-clause-broken_in_whole
returns-clause-broken_in_whole c = broken-within

pub returns-clause-not_whole_in_broken : goal.returns-clause-not_whole_in_broken
returns-clause-not_whole_in_broken c = whole-not-within
