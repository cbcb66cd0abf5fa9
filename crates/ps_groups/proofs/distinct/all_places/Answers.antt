use Rattle.std.proofs.Common.{◌≡◌, rules, ap, ◌∙◌}
use Rattle.ps_frame.specs.Zip.{below}
use Rattle.ps_keys.proofs.KeptRows.{all-below}
use Rattle.ps_groups.proofs.distinct.all_places.Goals as goal

pub returns-clause-there : goal.returns-clause-there
returns-clause-there c =
    let done : c.loop-place.place ≡ c.args.count = search rules in
    all-below c.args.count c.loop-place.places.items (c.loop-place.invariant ∙ ap below done)
