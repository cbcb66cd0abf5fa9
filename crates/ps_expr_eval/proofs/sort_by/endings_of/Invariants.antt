use Rattle.std.proofs.Common.{◌≡◌, ◌∷◌, take}
use Rattle.std.specs.Prelude.{map}
use Rattle.ps_expr_eval.specs.Held.{ending_of}
use Rattle.ps_expr_eval.proofs.sort_by.endings_of.Given as goal

abbrev pub invariant-loop-key : goal.invariant-loop-key
invariant-loop-key l = l.endings.items ≡ ending_of l.input ∷ map ending_of (take l.key-index l.keys)
