use Rattle.std.proofs.Common.{map}
use Rattle.ps_frame.specs.Zip.{below}
use Rattle.ps_keys.specs.Codes.{Knows}
use Rattle.ps_keys.specs.Hashes.{row_at}
use Rattle.ps_keys.specs.Numbering.{Numbers}
use Rattle.ps_keys.specs.Tables.{IsReady, first_rows, firsts_of}
use Rattle.ps_keys.proofs.numbering.number_rows.Given as goal

abbrev pub invariant-loop-row : goal.invariant-loop-row
invariant-loop-row l = record {
  numbers : Numbers (map (row_at l.columns) (below l.row)) (record { keys = l.keys; firsts = first_rows l.table });
  ready : IsReady l.columns l.table;
  known : Knows l.columns (firsts_of l.table) l.known;
}
