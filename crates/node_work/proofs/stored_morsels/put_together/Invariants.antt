-- The rows so far are those of the tables so far.
use Rattle.std.proofs.Common.{◌≡◌, take}
use Rattle.node_work.specs.Stored.{rows_in}
use Rattle.node_work.proofs.stored_morsels.put_together.Given as goal

abbrev pub invariant-loop-table : goal.invariant-loop-table
invariant-loop-table l = l.builder ≡ record { schema = l.schema; rows = rows_in (take l.table-index l.tables) }
