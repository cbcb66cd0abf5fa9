use Rattle.std.proofs.Common.{◌≡◌, take}
use Rattle.std.specs.Prelude.{map}
use Rattle.ps_expr_eval.specs.Held.{cell_at, cells_grown, cells_of}
use Rattle.ps_expr_eval.proofs.picked_cells.copied_at.Given as goal

abbrev pub invariant-loop-place : goal.invariant-loop-place
invariant-loop-place l = cells_grown l.copies ≡ map (cell_at (cells_of l.cells)) (take l.place-index l.places)
