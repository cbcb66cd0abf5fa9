use Rattle.std.proofs.Common.{refl}
use Rattle.world_runs.proofs.keepers.reduces_take.Goals as goal

pub returns-clause-claims_a_morsel : goal.returns-clause-claims_a_morsel
returns-clause-claims_a_morsel c = refl

pub returns-clause-keeps_a_place : goal.returns-clause-keeps_a_place
returns-clause-keeps_a_place c = refl

pub returns-clause-to_be_kept : goal.returns-clause-to_be_kept
returns-clause-to_be_kept c = refl

pub returns-clause-place_filled : goal.returns-clause-place_filled
returns-clause-place_filled c = refl
