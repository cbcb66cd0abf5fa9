use Rattle.std.proofs.Common.{lit≤}
use Rattle.turn_trials.proofs.Stores.{new_came, new_stores}
use Rattle.turn_trials.proofs.zips.new_zip.Goals as goal

pub returns : goal.returns
returns c =
    let new = c.in_ok-zip.ensures.new in
    record { came = new_came _ _ _ new c.in_ok-schemas.ensures; booked = new.booked; heads = (new_stores _ _ 2 _ new c.in_ok-schemas.ensures (lit≤ tt)).heads }
