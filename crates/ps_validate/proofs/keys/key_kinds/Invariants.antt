use Rattle.ps_frame.specs.Trees.{tree_at}
use Rattle.ps_validate.proofs.Keying.{Keying}
use Rattle.ps_validate.proofs.keys.key_kinds.Given as goal

abbrev pub invariant-loop-key : goal.invariant-loop-key
invariant-loop-key g l = Keying (tree_at l.arena.items) l.input l.keys l.key-index l.kinds.items l.initial.steps l.steps
