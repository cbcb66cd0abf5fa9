-- The tables that are left are the last ones, of which the same are kept.
use Rattle.std.proofs.Common.{◌≡◌, List, ◌++◌, length}
use Rattle.ps_frame.specs.Tables.{Frame}
use Rattle.kept_tables.specs.Kept.{rows_of_each}
use Rattle.ps_turns.specs.Ends.{last_kept}
use Rattle.ps_turns.specs.Heads.{stored_rows}
use Rattle.kept_tables.proofs.last_tables.let_go.Given as goal

abbrev pub invariant-loop-first : goal.invariant-loop-first
invariant-loop-first l =
    record {
      counted : l.left ≡ length (stored_rows (rows_of_each l.tables.items));
      kept : last_kept l.back (rows_of_each l.fn.tables.items) ≡ last_kept l.back (rows_of_each l.tables.items);
      last : (gone : List Frame) × (gone ++ l.tables.items ≡ l.fn.tables.items);
    }

abbrev pub decreases-loop-first : goal.decreases-loop-first
decreases-loop-first l = l.tables.len
