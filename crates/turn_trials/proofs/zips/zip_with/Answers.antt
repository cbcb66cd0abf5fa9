use Rattle.turn_trials.proofs.Stores.{fed_stores}
use Rattle.turn_trials.proofs.zips.zip_with.Goals as goal

pub returns : goal.returns
returns c =
    fed_stores c.in_ok-new.new c.fed_first-one.result c.fed_second-both.result c.booked.result _ _ c.in_ok-new.ensures.heads c.fed_first-one.ensures.others c.fed_second-both.ensures.others c.fed_second-both.ensures.came c.booked.ensures
