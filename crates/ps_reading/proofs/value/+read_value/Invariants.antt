use Rattle.std.proofs.Common.{List, ◌+◌, ◌*◌, ◌++◌, length}
use Rattle.std.specs.Prelude.{map}
use Rattle.json.specs.Token.{Token}
use Rattle.serde_json.specs.Data.{Data}
use Rattle.serde_json.specs.View.{view}
use Rattle.ps_reading.specs.Reading.{ReadsItems}
use Rattle.ps_reading.proofs.value.+read_value.Given as goal

abbrev pub decreases-read_value : goal.decreases-read_value
decreases-read_value l = 2 * l.depth

abbrev pub decreases-read_values : goal.decreases-read_values
decreases-read_values l = 2 * l.depth + 1

abbrev pub invariant-read_values-items : goal.invariant-read_values-items
invariant-read_values-items l =
    (more : List Data) (rest : List Token) → ReadsItems l.depth l.reader more rest → ReadsItems l.depth l.initial.reader (map view l.found.items ++ more) rest

abbrev pub decreases-read_values-items : goal.decreases-read_values-items
decreases-read_values-items l = length l.reader
