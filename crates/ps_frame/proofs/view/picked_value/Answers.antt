use Rattle.std.proofs.Common.{get_or}
use Rattle.std.proofs.lemmas.Option.{slice_get-get_or}
use Rattle.ps_frame.proofs.Gathers.{picked-at}
use Rattle.ps_frame.proofs.view.picked_value.Goals as goal

pub returns : goal.returns
returns c =
    let places = c.args.places.now in
    picked-at c.args.values.now places c.args.i (get_or places c.args.i 0) c.value_at.result.now (slice_get-get_or places c.args.i 0 c.requires.within) c.value_at.ensures
