use Rattle.std.proofs.Common.{◌≡◌, ◌++◌, string_bytes}
use Rattle.pu_base.specs.declared.arena.Node.{Node}
use Rattle.ps_frame.specs.Trees.{Tree}
use Rattle.ps_phys.proofs.Lines.{rest_lines}
use Rattle.ps_phys.proofs.text.push_lines.Given as goal

abbrev pub invariant-loop-number : goal.invariant-loop-number
invariant-loop-number l = (f : Node → Tree) → string_bytes l.text ++ rest_lines f l.phys.slots l.order l.number ≡ string_bytes l.fn.text ++ rest_lines f l.phys.slots l.order 0
