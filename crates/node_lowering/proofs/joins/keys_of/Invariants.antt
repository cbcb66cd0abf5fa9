use Rattle.std.proofs.Common.{◌≡◌, take}
use Rattle.pu_base.specs.declared.arena.Node.{Node}
use Rattle.ps_frame.specs.Trees.{Tree}
use Rattle.ps_meaning.specs.Steps.{key_trees}
use Rattle.lowering_parts.specs.Gathered.{trees_at}
use Rattle.node_lowering.proofs.joins.keys_of.Given as goal

abbrev pub invariant-loop-i : goal.invariant-loop-i
invariant-loop-i l = (f : Node → Tree) → key_trees f l.keys.items ≡ trees_at f (take l.i l.answers)
