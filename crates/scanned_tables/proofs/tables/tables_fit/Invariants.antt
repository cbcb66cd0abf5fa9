use Rattle.scanned_tables.proofs.Scans.{FitBelow}
use Rattle.scanned_tables.proofs.tables.tables_fit.Given as goal

abbrev pub invariant-loop-number : goal.invariant-loop-number
invariant-loop-number l = FitBelow l.ir.items l.number
