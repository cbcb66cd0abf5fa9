use Rattle.std.proofs.Common.{◌<◌, ◌∙◌, sym, ap, length, arith}
use Rattle.ps_expr_eval.proofs.LaneRows.{rows-decided, rows-equal, rows-passed}
use Rattle.ps_expr_eval.specs.Lanes.{seen_values}
use Rattle.ps_expr_eval.proofs.sort_by.compare_rows.Goals as goal

pub returns-then-is_ne : goal.returns-then-is_ne
returns-then-is_ne c =
    let g : c.loop-i.i < length c.args.directions.now = omega arith in
    let h : c.loop-i.i < length c.args.keys.now = omega arith in
    rows-decided c.args.keys.now (λ key. seen_values key.items) c.args.directions.now c.args.a c.args.b c.loop-i.i c.index-directions-i.result c.index-keys-i.result (seen_values c.as_slice.result.now) c.compare_at-order.result _ g h
    c.index-directions-i.is c.index-keys-i.is (ap seen_values c.as_slice.ensures.value) c.loop-i.invariant c.compare_at-order.ensures (sym c.is_ne.ensures ∙ c.if-is_ne.true)

pub loop-i-preserved : goal.loop-i-preserved
loop-i-preserved c =
    let g : c.loop-i.i < length c.args.directions.now = omega arith in
    let h : c.loop-i.i < length c.args.keys.now = omega arith in
    rows-passed c.args.keys.now (λ key. seen_values key.items) c.args.directions.now c.args.a c.args.b c.loop-i.i c.index-directions-i.result c.index-keys-i.result (seen_values c.as_slice.result.now) c.compare_at-order.result _ g h
    c.index-directions-i.is c.index-keys-i.is (ap seen_values c.as_slice.ensures.value) c.loop-i.invariant c.compare_at-order.ensures (sym c.is_ne.ensures ∙ c.if-is_ne.false)

pub returns : goal.returns
returns c = rows-equal c.args.keys.now (λ key. seen_values key.items) c.args.directions.now c.args.a c.args.b c.loop-i.i _ (omega arith) c.loop-i.invariant
