use Rattle.std.proofs.Common.{List, length}
use Rattle.json.specs.Token.{Token}
use Rattle.serde_json.specs.Data.{Members}
use Rattle.ps_reading.specs.Reading.{ReadsMembers}
use Rattle.ps_document.specs.Found.{IsFound}
use Rattle.ps_document.proofs.found.read_members.Given as goal

abbrev pub invariant-members : goal.invariant-members
invariant-members l =
    (before : Members) → IsFound l.initial.found before
    → (ms : Members) × IsFound l.found ms × ((all : Members) (rest : List Token) → ReadsMembers 126 l.reader ms all rest → ReadsMembers 126 l.initial.reader before all rest)

abbrev pub decreases-members : goal.decreases-members
decreases-members l = length l.reader
