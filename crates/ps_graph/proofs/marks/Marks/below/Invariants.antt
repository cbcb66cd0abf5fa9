-- The numbers so far are marked, and no others.
use Rattle.std.proofs.Common.{ℕ, ◌<◌}
use Rattle.std.specs.Prelude.{IsTrue}
use Rattle.ps_graph.specs.Marking.{is_marked}
use Rattle.ps_graph.proofs.marks.Marks.below.Given as goal

abbrev pub invariant-loop-number : goal.invariant-loop-number
invariant-loop-number l = ((n : ℕ) → n < l.number → IsTrue (is_marked l.marks n)) × ((n : ℕ) → IsTrue (is_marked l.marks n) → n < l.number)
