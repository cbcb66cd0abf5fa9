use Rattle.std.proofs.Common.{◌≡◌, ◌∷◌, take}
use Rattle.ps_expr_eval.proofs.operands.one_and_keys.Given as goal

abbrev pub invariant-loop-key : goal.invariant-loop-key
invariant-loop-key l = l.nodes.items ≡ l.fn.expr ∷ take l.key-index l.keys
