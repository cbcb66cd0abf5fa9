use Rattle.std.specs.Prelude.{refl}
use Rattle.std.specs.Fmt.{digits}
use Rattle.plan_rules.proofs.nodes.scans.Goals as goal

pub returns-clause-all_columns : goal.returns-clause-all_columns
unfolding digits
returns-clause-all_columns c F = refl

pub returns-clause-some_columns : goal.returns-clause-some_columns
unfolding digits
returns-clause-some_columns c F = refl

pub returns-clause-projection : goal.returns-clause-projection
unfolding digits
returns-clause-projection c F = refl
