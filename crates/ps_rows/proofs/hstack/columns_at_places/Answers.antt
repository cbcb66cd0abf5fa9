use Rattle.std.proofs.Common.{◌<◌, length, arith}
use Rattle.ps_rows.proofs.Placing.{places-more}
use Rattle.ps_rows.proofs.hstack.columns_at_places.Goals as goal

pub loop-i-preserved : goal.loop-i-preserved
loop-i-preserved c =
    let low : c.loop-i.i < length c.args.schema.now = (let l = c.loop-i-test.true in let e = c.len-i-end.ensures in omega arith) in
    places-more c.args.old.now c.args.new.now c.args.columns.now c.args.schema.now c.requires c.loop-i.i c.name.result.now c.place_of-place.result c.index-columns-place.result c.in_ok-shared.field-0 c.loop-i.out.items c.push.new.self.items low c.name.ensures
    c.place_of-place.ensures c.index-columns-place.is c.in_ok-shared.ensures.same c.loop-i.invariant c.in_ok-push.ensures.items
