use Rattle.std.proofs.Common.{List, length}
use Rattle.json.specs.Token.{Token}
use Rattle.serde_json.specs.Data.{Members, no_members}
use Rattle.ps_reading.specs.Reading.{ReadsMembers}
use Rattle.query_document.specs.Found.{IsFound}
use Rattle.query_document.proofs.found.read_members.Given as goal

abbrev pub invariant-members : goal.invariant-members
invariant-members l =
    (ms : Members) × IsFound l.found ms × ((all : Members) (rest : List Token) → ReadsMembers 126 l.reader ms all rest → ReadsMembers 126 l.initial.reader no_members all rest)

abbrev pub decreases-members : goal.decreases-members
decreases-members l = length l.reader
