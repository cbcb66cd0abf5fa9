use Rattle.valid_within.proofs.Valid.{is_lowering}
use Rattle.valid_within.proofs.laws.valid_plans_stay_within.Goals as goal

pub returns : goal.returns
returns c = is_lowering
