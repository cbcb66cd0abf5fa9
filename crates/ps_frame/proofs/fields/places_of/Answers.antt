use Rattle.std.proofs.Common.{arith}
use Rattle.ps_frame.proofs.NamePlaces.{finds-step}
use Rattle.ps_frame.proofs.fields.places_of.Goals as goal

pub loop-i-preserved : goal.loop-i-preserved
loop-i-preserved c =
    finds-step c.args.list.now c.loop-i.i c.index-list-i.result c.as_str.result.now c.loop-i.places c.insert_place.new.places c.requires (omega arith) c.index-list-i.is c.as_str.ensures c.loop-i.invariant
    c.in_ok-insert_place.ensures.put
