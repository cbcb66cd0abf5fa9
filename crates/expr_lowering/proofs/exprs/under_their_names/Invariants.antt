use Rattle.std.proofs.Common.{◌≡◌, take}
use Rattle.pu_base.specs.declared.arena.Node.{Node}
use Rattle.ps_frame.specs.Trees.{Tree}
use Rattle.ps_meaning.specs.Steps.{named_trees}
use Rattle.ps_rules.specs.Slots.{under}
use Rattle.lowering_parts.specs.Gathered.{names_asked, trees_at}
use Rattle.expr_lowering.proofs.exprs.under_their_names.Given as goal

abbrev pub invariant-loop-i : goal.invariant-loop-i
invariant-loop-i l = (f : Node → Tree) → named_trees f l.named.items ≡ under (take l.i (names_asked l.asked)) (trees_at f (take l.i l.answered))
