-- What the rules do at expressions over a stream, by the trees of an arena.
use Rattle.std.specs.Prelude.{Bool, true, false, List, map}
use Rattle.pu_base.specs.declared.arena.Node.{Node}
use Rattle.ps_frame.specs.Trees.{Aggregation, tree_at}
use Rattle.ps_frame.specs.declared.expr.AExpr.{AExpr}
use Rattle.ps_fresh.specs.declared.lowering.Lowering.{Lowering}
use Rattle.ps_phys.specs.Shown.{stream_of}
use Rattle.ps_phys.specs.declared.phys.PhysStream.{PhysStream}
use Rattle.ps_rules.specs.Calls.{Operand}
use Rattle.ps_rules.specs.Lowered.{as_operand}
use Rattle.lowering_parts.specs.Gathered.{trees_at}

abbrev pub operand_at : Lowering → PhysStream → List AExpr → Node → Operand
operand_at low input arena n = as_operand low.origin.0 (stream_of input) (tree_at arena n)

abbrev pub operands_at : Lowering → PhysStream → List AExpr → List Node → List Operand
operands_at low input arena ns = map (as_operand low.origin.0 (stream_of input)) (trees_at (tree_at arena) ns)

-- whether a reduce computes an aggregate; the others are left to a map
abbrev pub is_reduced : Aggregation → Bool
is_reduced Aggregation.n_unique = false
is_reduced (Aggregation.count all) = false
is_reduced _ = true
