use Rattle.std.proofs.Common.{◌≡◌, drop}
use Rattle.std.specs.Prelude.{map}
use Rattle.ps_expr_eval.specs.Held.{first_bad}
use Rattle.ps_expr_eval.specs.Lanes.{lane, seen_values}
use Rattle.ps_expr_eval.proofs.LaneRows.{cell_of}
use Rattle.ps_frame.specs.Zip.{below}
use Rattle.ps_frame.specs.declared.value.Cell.TheVariants as held
use Rattle.ps_expr_eval.proofs.sort_by.lane_of.Given as goal

abbrev pub invariant-loop-i : goal.invariant-loop-i
invariant-loop-i l = record {
  values : map (cell_of l.part) (below l.i) ≡ map held.Val (seen_values l.values.items);
  rest : first_bad (map (cell_of l.part) (drop l.i (below l.rows))) ≡ first_bad (lane l.part l.rows);
}
