use Rattle.std.proofs.Common.{arith}
use Rattle.text_queries.specs.Queries.{Item, expr_depth}
use Rattle.text_queries.specs.Views.{item_of}
use Rattle.text_queries.proofs.Greatest.{greatest-all}
use Rattle.text_queries.proofs.depths.items_depth.Goals as goal

pub returns : goal.returns
returns c =
    let h = c.loop-item-test.false in
    let k = c.loop-item.auto.item-index-end in
    greatest-all (λ (item : Item). expr_depth item.expr) item_of c.args.items.now c.loop-item.item-index c.loop-item.deepest (omega (arith, h, k)) c.loop-item.invariant
