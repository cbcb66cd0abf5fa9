use Rattle.ps_phys.specs.Shown.{streams_of}
use Rattle.lowering_parts.proofs.StreamLemmas.{added_end, added_next}
use Rattle.lowering_parts.proofs.streams.Streams.add_all.Goals as goal

pub loop-stream-preserved : goal.loop-stream-preserved
loop-stream-preserved c =
    added_next c.args.streams.now c.loop-stream.stream-index (record { node = record { 0 = 0 }; port = 0 }) (streams_of c.args.self.now) (streams_of c.loop-stream.self) (streams_of c.add.new.self) c.loop-stream-test.true c.in_ok-add.ensures.added
    c.loop-stream.invariant

pub returns-clause-added : goal.returns-clause-added
returns-clause-added c = added_end c.args.streams.now c.loop-stream.stream-index (streams_of c.args.self.now) (streams_of c.loop-stream.self) c.loop-stream-test.false c.loop-stream.invariant
