use Rattle.std.proofs.Common.{◌≡◌, drop}
use Rattle.std.specs.Prelude.{map}
use Rattle.ps_frame.specs.Sorting.{keys_cmp}
use Rattle.ps_compute.specs.Rows.{key_row}
use Rattle.ps_expr_eval.specs.Lanes.{key_columns, seen_values}
use Rattle.ps_expr_eval.proofs.sort_by.compare_rows.Given as goal

abbrev pub invariant-loop-i : goal.invariant-loop-i
invariant-loop-i l =
    let keys = key_columns (map (λ key. seen_values key.items) l.keys) in
    keys_cmp l.directions (key_row keys l.a) (key_row keys l.b) ≡ keys_cmp (drop l.i l.directions) (drop l.i (key_row keys l.a)) (drop l.i (key_row keys l.b))
