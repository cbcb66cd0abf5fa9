use Rattle.std.proofs.Common.{◌≡◌, ◌∷◌, [], Some, arith, refl}
use Rattle.json.specs.Json.{after_end_array}
use Rattle.ps_document.proofs.CellColumns.{made_column}
use Rattle.ps_document.proofs.ReadTable.{column-read}
use Rattle.ps_document.specs.Json.{list, text}
use Rattle.ps_document.specs.Words.{kind_word}
use Rattle.ps_document.proofs.cells.NamedColumnReadJsonByToken.read_json.Goals as goal

pub returns : goal.returns
returns c =
    let name = c.in-Some.name in
    let dtype = c.in-Some.dtype in
    let heading = rw c.in-Some.is at c.in_ok-name.ensures in
    let told = c.in_ok-column.ensures in
    let cells = rw c.in-Some-2.is at told.cells in
    let closed : after_end_array c.read_column.new.reader ≡ Some c.take_end_array.new.self = grind arith in
    let json = list (text name ∷ text (kind_word dtype) ∷ list cells.0 ∷ []) in (
      json,
      made_column json (list cells.0) dtype cells.0 (record { name = name; column = c.in-Some-2.column }) refl refl cells.1 (rw c.in-Some-2.is at told.kind),
      column-read name dtype c.args.reader.now c.heading_of.new.reader c.read_column.new.reader c.take_end_array.new.self (list cells.0) heading cells.2 closed,
    )
