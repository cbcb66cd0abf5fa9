use Rattle.std.specs.Prelude.{refl}
use Rattle.std.specs.Fmt.{digits}
use Rattle.plan_rules.proofs.distincts.distincts_of_single_rows.Goals as goal

pub returns-clause-text : goal.returns-clause-text
unfolding digits
returns-clause-text c F = refl

pub returns-clause-from_the_end : goal.returns-clause-from_the_end
unfolding digits
returns-clause-from_the_end c F = refl

pub returns-clause-kinds : goal.returns-clause-kinds
unfolding digits
returns-clause-kinds c F = refl
