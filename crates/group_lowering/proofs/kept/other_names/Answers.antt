use Rattle.group_lowering.proofs.DistinctLemmas.{others_next}
use Rattle.group_lowering.proofs.kept.other_names.Goals as goal

pub loop-name-preserved : goal.loop-name-preserved
loop-name-preserved c =
    others_next c.args.keys.now c.args.all.now c.loop-name.others.items c.push_other.new.others.items c.loop-name.name-index c.name-item.result c.loop-name-test.true c.name-item.is c.loop-name.invariant (c.in_ok-push_other.ensures.others c.args.keys.now c.in_ok-among.ensures.names)
