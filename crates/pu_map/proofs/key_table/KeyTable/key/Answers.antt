use Rattle.std.proofs.Common.{◌<◌, Some, length, take, drop, sym, ap, ◌∙◌, arith}
use Rattle.std.proofs.lemmas.List.{length-map}
use Rattle.pu_map.specs.Links.{stored, key_of}
use Rattle.pu_map.proofs.LinkLemmas.{stored_at, key_at}
use Rattle.pu_map.proofs.key_table.KeyTable.key.Goals as goal

pub bytes_of-requires : goal.bytes_of-requires
bytes_of-requires c =
    let links = c.self.inside.links.items in
    let link = c.index-link.result.now in
    let asked = rw (← c.self.view_is) at c.requires in
    let within : c.args.index < length links = omega (arith, length-map links (key_of c.self.inside.bytes.items)) in
    let at = stored_at links c.args.index link within ∙ ap (λ l. Some (stored l)) (sym c.index-link.ensures) in
    rw c.deref.ensures.value (c.self.invariant.within c.args.index (stored link) at)

pub returns : goal.returns
returns c =
    let links = c.self.inside.links.items in
    let bytes = c.self.inside.bytes.items in
    let link = c.index-link.result.now in
    let asked = rw (← c.self.view_is) at c.requires in
    let within : c.args.index < length links = omega (arith, length-map links (key_of bytes)) in
    let read = c.bytes_of.ensures ∙ ap (λ bs. take link.size (drop link.start bs)) c.deref.ensures.value in
    rw (← c.self.view_is)
    (key_at bytes links c.args.index link within ∙ ap (λ l. Some (key_of bytes l)) (sym c.index-link.ensures)
    ∙ ap (λ bs. Some (link.hash, bs)) (sym read))
