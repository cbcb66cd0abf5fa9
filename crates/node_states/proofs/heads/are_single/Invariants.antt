-- The inputs so far are single.
use Rattle.std.proofs.Common.{◌≡◌, drop}
use Rattle.node_states.specs.Heads.{all_single}
use Rattle.node_states.proofs.heads.are_single.Given as goal

abbrev pub invariant-loop-i : goal.invariant-loop-i
invariant-loop-i l = all_single l.null_extend (drop l.i l.recv) (drop l.i l.came) ≡ all_single l.null_extend l.recv l.came
