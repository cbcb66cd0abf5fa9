use Rattle.std.proofs.Common.{◌≡◌, List, ◌++◌, length}
use Rattle.std.specs.List.{AllZip}
use Rattle.json.specs.Token.{Token}
use Rattle.serde_json.specs.Data.{Data}
use Rattle.ps_reading.specs.Reading.{ReadsItems}
use Rattle.ps_document.specs.Tables.{IsCell}
use Rattle.ps_document.proofs.cells.read_cells.Given as goal

abbrev pub invariant-cells : goal.invariant-cells
invariant-cells l =
    (ds : List Data) × AllZip (IsCell l.dtype) l.builder.values ds × (l.builder.kind ≡ l.dtype)
    × ((more : List Data) (rest : List Token) → ReadsItems 0 l.reader more rest → ReadsItems 0 l.initial.reader (ds ++ more) rest)

abbrev pub decreases-cells : goal.decreases-cells
decreases-cells l = length l.reader
