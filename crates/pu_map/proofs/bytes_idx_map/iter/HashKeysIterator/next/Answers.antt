use Rattle.std.proofs.Common.{ap, ◌∙◌, ◌∷◌, ◌+◌, drop}
use Rattle.std.proofs.lemmas.List.{drop_more}
use Rattle.std.proofs.lemmas.Option.{slice_get_within, get_or_from_slice_get}
use Rattle.pu_map.specs.Keys.{Key}
use Rattle.pu_map.proofs.bytes_idx_map.iter.HashKeysIterator.next.Goals as goal

pub returns-clause-steps : goal.returns-clause-steps
returns-clause-steps c =
    let keys = c.self.inside.table.now.keys in
    let i = c.self.inside.index in
    let item : Key = (c.key.result.0, c.key.result.1.now) in
    rw (← c.self.view_is)
    (drop_more keys i item (slice_get_within keys i item c.key.ensures)
    ∙ ap (λ k. k ∷ drop (i + 1) keys) (get_or_from_slice_get keys i item item c.key.ensures))
