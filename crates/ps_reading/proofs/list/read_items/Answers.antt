use Rattle.std.proofs.Common.{◌≡◌, ◌++◌, ◌∷◌, [], Some, None, subst, append_assoc, append-nil, arith}
use Rattle.json.specs.Json.{after_end_array}
use Rattle.ps_reading.specs.Reading.{Reads, ReadsItems}
use Rattle.ps_reading.proofs.Rules.{reads_items-end, reads_items-more, reads-shorter}
use Rattle.ps_reading.proofs.Grown.{zip-push}
use Rattle.ps_reading.proofs.list.read_items.Goals as goal

pub items-smaller : goal.items-smaller
items-smaller g c =
    let going : (after_end_array c.items.reader ≡ None) × (c.take_end_array.new.self ≡ c.items.reader) = grind arith in
    let read = rw c.in-Some.is at c.in_ok-part.ensures in
    let less = reads-shorter read.2 in
    rw (← going.1) less

pub items-preserved : goal.items-preserved
items-preserved g c =
    let i = c.items.invariant in
    let nests = g.T.ReadJson.nests in
    let going : (after_end_array c.items.reader ≡ None) × (c.take_end_array.new.self ≡ c.items.reader) = grind arith in
    let read = rw c.in-Some.is at c.in_ok-part.ensures in
    let first = subst (λ ts. Reads nests ts read.0 c.read_json.new.reader) going.1 read.2 in (
      i.0 ++ read.0 ∷ [],
      rw c.in_ok-push-in-Some.ensures.items (zip-push (g.T.ReadJson.is_json c.args.context.now) c.items.parts.items i.0 c.in-Some.part read.0 i.1 read.1),
      λ more rest later. rw append_assoc (i.2 (read.0 ∷ more) rest (reads_items-more first later)),
    )

pub returns : goal.returns
returns g c =
    let i = c.items.invariant in
    let nests = g.T.ReadJson.nests in
    let over : after_end_array c.items.reader ≡ Some c.take_end_array.new.self = grind arith in (
      i.0,
      rw c.shrink_to_fit.ensures.items i.1,
      subst (λ ds. ReadsItems nests c.args.reader.now ds c.take_end_array.new.self) (append-nil i.0) (i.2 [] c.take_end_array.new.self (reads_items-end nests over)),
    )
