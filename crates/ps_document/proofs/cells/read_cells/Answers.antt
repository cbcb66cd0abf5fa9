use Rattle.std.proofs.Common.{◌≡◌, ◌++◌, ◌∷◌, [], None, Some, subst, append_assoc, append-nil, arith}
use Rattle.json.specs.Json.{after_end_array}
use Rattle.ps_reading.specs.Reading.{Reads, ReadsItems}
use Rattle.ps_reading.proofs.Rules.{reads_items-end, reads_items-more, reads-shorter}
use Rattle.ps_document.proofs.ReadTable.{cells-more}
use Rattle.ps_document.proofs.cells.read_cells.Goals as goal

pub cells-smaller : goal.cells-smaller
cells-smaller c =
    let going : (after_end_array c.cells.reader ≡ None) × (c.take_end_array.new.self ≡ c.cells.reader) = grind arith in
    let found = rw c.if-not-told.false at c.in_ok-told.ensures in
    let less = reads-shorter found.2 in
    rw (← going.1) less

pub cells-preserved : goal.cells-preserved
cells-preserved c =
    let i = c.cells.invariant in
    let going : (after_end_array c.cells.reader ≡ None) × (c.take_end_array.new.self ≡ c.cells.reader) = grind arith in
    let found = rw c.if-not-told.false at c.in_ok-told.ensures in
    let first = subst (λ ts. Reads 0 ts found.0 c.push_cell.new.reader) going.1 found.2 in
    let grown = cells-more c.args.dtype c.cells.builder c.push_cell.new.builder i.0 found.0 i.1 i.2 found.1 in (
      i.0 ++ found.0 ∷ [],
      grown.0,
      grown.1,
      λ more rest later. rw append_assoc (i.3 (found.0 ∷ more) rest (reads_items-more first later)),
    )

pub returns-in-Ok-clause-cells : goal.returns-in-Ok-clause-cells
returns-in-Ok-clause-cells c =
    let i = c.cells.invariant in
    let over : after_end_array c.cells.reader ≡ Some c.take_end_array.new.self = grind arith in (
      i.0,
      rw c.in-Ok.ensures.made i.1,
      subst (λ ds. ReadsItems 0 c.args.reader.now ds c.take_end_array.new.self) (append-nil i.0) (i.3 [] c.take_end_array.new.self (reads_items-end 0 over)),
    )
