use Rattle.std.proofs.Common.{ap, ◌∙◌, take_all}
use Rattle.std.specs.Prelude.{flat_map}
use Rattle.ps_phys.specs.Shown.{nodes_of, streams_of}
use Rattle.ps_rules.specs.Slots.{schema_at}
use Rattle.lowering_parts.proofs.NodeLemmas.{joined_more}
use Rattle.lowering_parts.proofs.nodes.joined_schema.Goals as goal

pub loop-stream-preserved : goal.loop-stream-preserved
loop-stream-preserved c f =
    joined_more (schema_at (nodes_of f c.args.low.now.phys_sm.slots)) c.args.streams.now c.loop-stream.stream-index (record { node = record { 0 = 0 }; port = 0 }) c.loop-stream.schema c.push_stream.new.schema c.loop-stream-test.true
    (c.in_ok-push_stream.ensures.added f) (c.loop-stream.invariant f)

pub returns-clause-schema : goal.returns-clause-schema
returns-clause-schema c f =
    c.loop-stream.invariant f ∙ ap (λ ss. flat_map (schema_at (nodes_of f c.args.low.now.phys_sm.slots)) (streams_of ss)) (take_all c.loop-stream.stream-index c.args.streams.now c.loop-stream-test.false)
