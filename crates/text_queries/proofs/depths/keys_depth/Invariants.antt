use Rattle.std.proofs.Common.{◌≡◌, ◌-◌, ◌^◌, min, take}
use Rattle.text_queries.specs.Queries.{greatest, expr_depth}
use Rattle.text_queries.specs.Views.{expr_of}
use Rattle.text_queries.proofs.depths.keys_depth.Given as goal

abbrev pub invariant-loop-key : goal.invariant-loop-key
invariant-loop-key l = l.deepest ≡ min (greatest (λ key. expr_depth (expr_of key.expr)) (take l.key-index l.keys)) (2 ^ 64 - 1)
