-- The rows so far are those of the tables so far.
use Rattle.std.proofs.Common.{◌≡◌, take}
use Rattle.kept_tables.specs.Kept.{rows_of_each}
use Rattle.ps_turns.specs.Heads.{stored_rows}
use Rattle.kept_tables.proofs.last_tables.put_together.Given as goal

abbrev pub invariant-loop-i : goal.invariant-loop-i
invariant-loop-i l = l.builder.rows ≡ stored_rows (rows_of_each (take l.i l.tables.items))
