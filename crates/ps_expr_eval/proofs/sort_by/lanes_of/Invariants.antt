use Rattle.std.proofs.Common.{◌≡◌, drop, take}
use Rattle.std.specs.Prelude.{map}
use Rattle.ps_expr_eval.specs.Lanes.{AreLanes, lanes_fault, seen_values}
use Rattle.ps_expr_eval.proofs.sort_by.lanes_of.Given as goal

abbrev pub invariant-loop-part : goal.invariant-loop-part
invariant-loop-part l = record {
  lanes : AreLanes (take l.part-index l.parts) l.rows (map (λ lane. seen_values lane.items) l.lanes.items);
  rest : lanes_fault (drop l.part-index l.parts) l.rows ≡ lanes_fault l.parts l.rows;
}
