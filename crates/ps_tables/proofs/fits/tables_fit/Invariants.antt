use Rattle.std.proofs.Common.{take}
use Rattle.std.specs.List.{AllByRecursion}
use Rattle.ps_frame.specs.Lawful.{FitsFrame}
use Rattle.ps_tables.proofs.fits.tables_fit.Given as goal

abbrev pub invariant-loop-df : goal.invariant-loop-df
invariant-loop-df l = AllByRecursion FitsFrame (take l.df-index l.inputs)
