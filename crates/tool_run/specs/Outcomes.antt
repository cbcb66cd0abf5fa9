-- The status and the line of each outcome.
use Rattle.std.specs.Prelude.{ℕ, List, [], codes, string_bytes}
use Rattle.tool_run.specs.declared.outcome.Outcome.{Outcome}
use Rattle.tool_run.specs.declared.outcome.Outcome.TheVariants as outcome

-- the status of an outcome
abbrev pub status_of : Outcome → ℕ
status_of outcome.Written = 0
status_of outcome.Usage = 2
status_of outcome.BadJson = 3
status_of outcome.BadDocument = 3
status_of outcome.BadQuery = 3
status_of outcome.UnknownTable = 3
status_of (outcome.Refused line) = 4
status_of (outcome.Faulted line) = 5
status_of outcome.ReadFault = 6
status_of outcome.WriteFault = 7
status_of outcome.TooLong = 8
status_of outcome.OutOfMemory = 9

-- the line that an outcome writes, if any
abbrev pub line_of : Outcome → List ℕ
line_of outcome.Written = []
line_of outcome.Usage = codes "Usage\n"
line_of outcome.BadJson = codes "BadJson\n"
line_of outcome.BadDocument = codes "BadDocument\n"
line_of outcome.BadQuery = codes "BadQuery\n"
line_of outcome.UnknownTable = codes "UnknownTable\n"
line_of (outcome.Refused line) = string_bytes line
line_of (outcome.Faulted line) = string_bytes line
line_of outcome.ReadFault = codes "ReadFault\n"
line_of outcome.WriteFault = codes "WriteFault\n"
line_of outcome.TooLong = codes "TooLong\n"
line_of outcome.OutOfMemory = codes "OutOfMemory\n"
