use Rattle.std.proofs.Common.{◌≡◌, take}
use Rattle.pu_base.specs.declared.arena.Node.{Node}
use Rattle.ps_frame.specs.Trees.{Tree}
use Rattle.ps_meaning.specs.Steps.{named_trees}
use Rattle.ps_rules.specs.Slots.{under}
use Rattle.lowering_parts.specs.Gathered.{trees_at}
use Rattle.lowering_parts.proofs.names.under_names.Given as goal

abbrev pub invariant-loop-i : goal.invariant-loop-i
invariant-loop-i l = (f : Node → Tree) → named_trees f l.named.items ≡ under (take l.i l.names) (trees_at f (take l.i l.exprs))
