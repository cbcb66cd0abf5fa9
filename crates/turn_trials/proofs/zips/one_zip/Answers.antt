use Rattle.std.proofs.Common.{lit≤}
use Rattle.turn_trials.proofs.Stores.{new_stores}
use Rattle.turn_trials.proofs.zips.one_zip.Goals as goal

pub returns : goal.returns
returns c = new_stores _ _ 1 _ c.in_ok-zip.ensures.new c.in_ok-schemas.ensures (lit≤ tt)
