use Rattle.std.specs.Prelude.{refl}
use Rattle.std.specs.Fmt.{digits}
use Rattle.plan_rules.proofs.nodes.further_columns.Goals as goal

pub returns-clause-elementwise : goal.returns-clause-elementwise
unfolding digits
returns-clause-elementwise c F = refl

pub returns-clause-an_aggregate : goal.returns-clause-an_aggregate
unfolding digits
returns-clause-an_aggregate c F = refl

pub returns-clause-in_their_places : goal.returns-clause-in_their_places
unfolding digits
returns-clause-in_their_places c F = refl
