use Rattle.std.proofs.Common.{◌∙◌, sym, arith}
use Rattle.ps_keys.proofs.RowOrder.{row-decides, row-ends, row-passes}
use Rattle.ps_keys.proofs.row_order.compare_rows.Goals as goal

pub returns-then-is_ne : goal.returns-then-is_ne
returns-then-is_ne c =
    row-decides c.index-a_columns-i.result c.index-b_columns-i.result c.args.a_columns.now c.args.b_columns.now c.loop-i.i c.args.a c.args.b c.value.result.now c.value-in-loop-i.result.now
    (omega arith) (omega arith) c.index-a_columns-i.is c.index-b_columns-i.is c.value.ensures c.value-in-loop-i.ensures
    c.compare-order.result c.compare-order.ensures (sym c.is_ne.ensures ∙ c.if-is_ne.true) c.loop-i.invariant

pub loop-i-preserved : goal.loop-i-preserved
loop-i-preserved c =
    row-passes c.index-a_columns-i.result c.index-b_columns-i.result c.args.a_columns.now c.args.b_columns.now c.loop-i.i c.args.a c.args.b c.value.result.now c.value-in-loop-i.result.now
    (omega arith) (omega arith) c.index-a_columns-i.is c.index-b_columns-i.is c.value.ensures c.value-in-loop-i.ensures
    c.compare-order.result c.compare-order.ensures (sym c.is_ne.ensures ∙ c.if-is_ne.false) c.loop-i.invariant

pub returns : goal.returns
returns c = c.cmp.ensures ∙ row-ends c.args.a_columns.now c.args.b_columns.now c.loop-i.i c.args.a c.args.b (omega arith) c.loop-i.invariant
