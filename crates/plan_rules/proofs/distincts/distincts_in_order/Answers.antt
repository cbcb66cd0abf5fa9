use Rattle.std.specs.Prelude.{refl}
use Rattle.std.specs.Fmt.{digits}
use Rattle.plan_rules.proofs.distincts.distincts_in_order.Goals as goal

pub returns-clause-first : goal.returns-clause-first
unfolding digits
returns-clause-first c F = refl

pub returns-clause-none : goal.returns-clause-none
unfolding digits
returns-clause-none c F = refl

pub returns-clause-last : goal.returns-clause-last
unfolding digits
returns-clause-last c F = refl

pub returns-clause-last_with_its_slice : goal.returns-clause-last_with_its_slice
unfolding digits
returns-clause-last_with_its_slice c F = refl
