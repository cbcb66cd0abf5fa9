use Rattle.std.proofs.Common.{◌≡◌, ◌<◌, ℕ, [], get_or, map, take}
use Rattle.ps_frame.specs.Causes.{column_causes}
use Rattle.ps_frame.specs.Eval.{eval}
use Rattle.ps_frame.specs.Tables.{Frame, whole}
use Rattle.ps_frame.specs.Trees.{tree_at}
use Rattle.ps_meaning.specs.Groups.{only_value}
use Rattle.ps_groups.specs.GroupTables.{parts_in}
use Rattle.ps_groups.proofs.aggregates.evaluated_column.Given as goal

abbrev pub invariant-loop-group : goal.invariant-loop-group
invariant-loop-group l = record {
  values : l.values.items ≡ map (λ f. only_value (eval l.at.0 (whole f) (tree_at l.arena.items l.expr))) (take l.group (parts_in l.table l.groups));
  clean : (k : ℕ) (d : Frame) → k < l.group → column_causes (eval l.at.0 (whole (get_or (parts_in l.table l.groups) k d)) (tree_at l.arena.items l.expr)) ≡ [];
}
