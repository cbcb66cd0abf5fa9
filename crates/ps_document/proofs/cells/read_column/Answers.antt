use Rattle.std.proofs.Common.{◌≡◌, ◌∷◌, arith, refl}
use Rattle.json.specs.Token.{Token}
use Rattle.ps_reading.proofs.Rules.{reads-array, reads-same}
use Rattle.ps_document.proofs.cells.read_column.Goals as goal

pub returns-clause-cells : goal.returns-clause-cells
returns-clause-cells c =
    let read = rw c.in-Some.is at c.in_ok-column.ensures.cells in
    let opened : c.args.reader.now ≡ Token.begin_array ∷ c.next.new.self = grind arith in
    (read.0, read.1, reads-same opened refl (reads-array read.2))
