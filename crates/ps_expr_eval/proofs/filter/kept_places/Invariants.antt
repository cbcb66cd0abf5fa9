use Rattle.std.proofs.Common.{◌≡◌, List, [], ◌∷◌, ◌++◌}
use Rattle.ps_expr_eval.specs.Held.{cells_of}
use Rattle.ps_expr_eval.specs.Rows.{StandAt, faulty_row, kept_of, rows_of_parts}
use Rattle.ps_expr_eval.proofs.KeptRows.{rows_from}
use Rattle.ps_expr_eval.proofs.filter.kept_places.Given as goal
use Rattle.ps_frame.specs.declared.value.Value.{Value}

abbrev pub invariant-loop-i : goal.invariant-loop-i
invariant-loop-i l = record {
  kept : List Value;
  stand : StandAt (cells_of l.input.cells) l.places.items kept;
  values : kept ++ kept_of (rows_from (l.input ∷ l.by ∷ []) l.rows l.i) ≡ kept_of (rows_of_parts (l.input ∷ l.by ∷ []) l.rows);
  fault : faulty_row (rows_from (l.input ∷ l.by ∷ []) l.rows l.i) ≡ faulty_row (rows_of_parts (l.input ∷ l.by ∷ []) l.rows);
}
