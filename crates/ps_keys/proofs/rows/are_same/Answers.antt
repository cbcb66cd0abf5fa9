use Rattle.ps_keys.proofs.RowValues.{same-at, same-more}
use Rattle.ps_keys.proofs.rows.are_same.Goals as goal

pub returns-then-not-is_same : goal.returns-then-not-is_same
returns-then-not-is_same c = (
  λ never. absurd (cc),
  λ same. let e = same-at c.column-item.result c.args.columns.now c.loop-column.column-index c.args.a c.args.b c.value.result.now c.value-in-loop-column.result.now
      c.loop-column-test.true c.column-item.is c.value.ensures c.value-in-loop-column.ensures same in
      let yes = c.is_same.ensures.1 e in let no = c.if-not-is_same.true in cc,
)

pub loop-column-preserved : goal.loop-column-preserved
loop-column-preserved c =
    same-more c.column-item.result c.args.columns.now c.loop-column.column-index c.args.a c.args.b c.value.result.now c.value-in-loop-column.result.now
    c.loop-column-test.true c.column-item.is c.value.ensures c.value-in-loop-column.ensures (let yes = c.if-not-is_same.false in c.is_same.ensures.0 (cc)) c.loop-column.invariant
