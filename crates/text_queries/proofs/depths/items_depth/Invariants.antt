use Rattle.std.proofs.Common.{◌≡◌, ◌-◌, ◌^◌, min, take}
use Rattle.text_queries.specs.Queries.{greatest, expr_depth}
use Rattle.text_queries.specs.Views.{expr_of}
use Rattle.text_queries.proofs.depths.items_depth.Given as goal

abbrev pub invariant-loop-item : goal.invariant-loop-item
invariant-loop-item l = l.deepest ≡ min (greatest (λ item. expr_depth (expr_of item.expr)) (take l.item-index l.items)) (2 ^ 64 - 1)
