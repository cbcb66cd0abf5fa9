use Rattle.std.proofs.Common.{◌≡◌, take}
use Rattle.pu_base.specs.declared.arena.Node.{Node}
use Rattle.ps_frame.specs.Trees.{Tree}
use Rattle.ps_meaning.specs.Steps.{key_trees}
use Rattle.lowering_parts.specs.Gathered.{trees_at}
use Rattle.node_lowering.proofs.together.nodes_of.Given as goal

abbrev pub invariant-loop-expr : goal.invariant-loop-expr
invariant-loop-expr l = (f : Node → Tree) → trees_at f l.nodes.items ≡ key_trees f (take l.expr-index l.exprs)
