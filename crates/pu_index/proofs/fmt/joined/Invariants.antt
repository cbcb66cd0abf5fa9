use Rattle.std.proofs.Common.{◌≡◌, ◌++◌, encode_utf8, string_bytes}
use denote.Text.{Utf8}
use denote.Shadow.{shadow}
use Rattle.pu_index.specs.Listed.{ShownBy, listed}
use Rattle.pu_index.proofs.Listings.{lead}
use Rattle.pu_index.proofs.fmt.joined.Given as goal

abbrev pub invariant-loop-item : goal.invariant-loop-item
invariant-loop-item g l =
    (goal.iterator-loop-item g).can_next l.item-iterator
    × (goal.iterator-loop-item g).is_finite l.item-iterator
    × shadow (Utf8 l.separator)
    × (l.separator ≡ lead l.yielded)
    × ShownBy g.I.Item.Display.output (λ show. string_bytes l.text ≡ encode_utf8 l.fn.start ++ listed show l.yielded)
