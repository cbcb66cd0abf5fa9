use Rattle.std.proofs.Common.{◌≡◌, ◌++◌, ◌∷◌, [], None, Some, ap, subst, sym, append-nil, arith, ◌∙◌}
use Rattle.std.specs.Prelude.{map}
use Rattle.json.specs.Json.{after_end_array}
use Rattle.json.specs.Reads.{token_of}
use Rattle.json.specs.Token.{Token}
use Rattle.serde_json.proofs.Views.{view-Array}
use Rattle.serde_json.specs.View.{view}
use Rattle.ps_reading.specs.Reading.{Reads, ReadsItems}
use Rattle.ps_reading.proofs.Grown.{map-push}
use Rattle.ps_reading.proofs.Rules.{reads_items-end, reads_items-more, reads-array, reads-same, reads-shorter, reads-within}
use Rattle.ps_reading.proofs.value.+read_value.Goals as goal

pub read_value-returns-in-Some-2 : goal.read_value-returns-in-Some-2
read_value-returns-in-Some-2 t c =
    let read = rw c.in-Some-2.is at c.in_ok-items-in-BeginArray.ensures in
    let first : c.args.reader.now ≡ token_of c.in-Some.token ∷ c.next.new.self = grind arith in
    let opened : c.args.reader.now ≡ Token.begin_array ∷ c.next.new.self = first ∙ ap (λ k. token_of k ∷ c.next.new.self) c.in-BeginArray.is in
    reads-within (omega arith) (reads-same opened (view-Array c.in-Some-2.items) (reads-array read))

pub read_values-items-smaller : goal.read_values-items-smaller
read_values-items-smaller t c =
    let going : (after_end_array c.items.reader ≡ None) × (c.take_end_array.new.self ≡ c.items.reader) = grind arith in
    let read = rw c.in-Some.is at c.in_ok-item.ensures in
    let less = reads-shorter read in
    rw (← going.1) less

pub read_values-items-preserved : goal.read_values-items-preserved
read_values-items-preserved t c = λ more rest later.
    let going : (after_end_array c.items.reader ≡ None) × (c.take_end_array.new.self ≡ c.items.reader) = grind arith in
    let v = c.in-Some.item in
    let read = rw c.in-Some.is at c.in_ok-item.ensures in
    let first = subst (λ ts. Reads c.args.depth ts (view v) c.read_value.new.reader) going.1 read in
    let found = c.items.found.items in
    let grown = ap (λ vs. map view vs ++ more) c.in_ok-push-in-Some.ensures.items ∙ map-push view found v more in
    subst (λ ds. ReadsItems c.args.depth c.args.reader.now ds rest) (sym grown) (c.items.invariant (view v ∷ more) rest (reads_items-more first later))

pub read_values-returns : goal.read_values-returns
read_values-returns t c =
    let over : after_end_array c.items.reader ≡ Some c.take_end_array.new.self = grind arith in
    let all = map view c.items.found.items in
    subst (λ ds. ReadsItems c.args.depth c.args.reader.now ds c.take_end_array.new.self) (append-nil all) (c.items.invariant [] c.take_end_array.new.self (reads_items-end c.args.depth over))
