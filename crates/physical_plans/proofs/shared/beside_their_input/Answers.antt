use Rattle.std.specs.Prelude.{refl}
use Rattle.std.specs.Fmt.{digits}
use Rattle.physical_plans.proofs.shared.beside_their_input.Goals as goal

pub returns-clause-columns_put_in_place : goal.returns-clause-columns_put_in_place
unfolding digits
returns-clause-columns_put_in_place c F = refl

pub returns-clause-filtered : goal.returns-clause-filtered
unfolding digits
returns-clause-filtered c F = refl

pub returns-clause-joined_by_a_key : goal.returns-clause-joined_by_a_key
unfolding digits
returns-clause-joined_by_a_key c F = refl
