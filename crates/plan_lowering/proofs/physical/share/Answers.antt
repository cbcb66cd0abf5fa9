use Rattle.std.proofs.Common.{Ok}
use Rattle.plan_lowering.proofs.Readers.{all_there, read_once}
use Rattle.plan_lowering.proofs.physical.share.Goals as goal

pub insert_multiplexers-requires-clause-whole : goal.insert_multiplexers-requires-clause-whole
insert_multiplexers-requires-clause-whole c = all_there c.args.phys_sm.now.slots (c.can_be_shared.ensures.reads c.if-not-can_be_shared.false)

pub returns-clause-once : goal.returns-clause-once
returns-clause-once c f =
    read_once c.args.phys_sm.now.slots f c.insert_multiplexers.new.phys_sm.slots c.args.root.0 (Ok tt) (c.can_be_shared.ensures.root c.if-not-can_be_shared.false) (c.can_be_shared.ensures.reads c.if-not-can_be_shared.false) c.no_stream_is_taken_twice.ensures
    (c.in_ok-insert_multiplexers.ensures.nodes f)
