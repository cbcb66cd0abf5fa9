use Rattle.std.proofs.Common.{take}
use Rattle.ps_keys.specs.Codes.{ArePickedColumns}
use Rattle.ps_keys.proofs.known.picks_of.Given as goal

abbrev pub invariant-loop-column : goal.invariant-loop-column
invariant-loop-column l = ArePickedColumns l.picks.items (take l.column-index l.columns)
