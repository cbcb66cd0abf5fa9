use Rattle.std.proofs.Common.{take}
use Rattle.ps_tables.specs.Columns.{AllFit}
use Rattle.ps_tables.proofs.fits.columns_fit.Given as goal

abbrev pub invariant-loop-column : goal.invariant-loop-column
invariant-loop-column l = AllFit (take l.column-index l.columns)
