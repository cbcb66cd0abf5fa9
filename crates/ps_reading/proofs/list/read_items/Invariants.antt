use Rattle.std.proofs.Common.{List, ◌++◌, length}
use Rattle.std.specs.List.{AllZip}
use Rattle.json.specs.Token.{Token}
use Rattle.serde_json.specs.Data.{Data}
use Rattle.ps_reading.specs.Reading.{ReadsItems}
use Rattle.ps_reading.proofs.list.read_items.Given as goal

abbrev pub invariant-items : goal.invariant-items
invariant-items g l =
    (ds : List Data) × AllZip (g.T.ReadJson.is_json l.context) l.parts.items ds
    × ((more : List Data) (rest : List Token) → ReadsItems g.T.ReadJson.nests l.reader more rest → ReadsItems g.T.ReadJson.nests l.initial.reader (ds ++ more) rest)

abbrev pub decreases-items : goal.decreases-items
decreases-items g l = length l.reader
