use Rattle.lowering_parts.proofs.Going.{begins_then}
use Rattle.std.proofs.Common.{ap}
use Rattle.ps_frame.specs.Trees.{tree_at}
use Rattle.ps_fresh.specs.declared.lowering.Lowering.{Lowering}
use Rattle.ps_meaning.specs.Steps.{named_trees}
use Rattle.ps_phys.specs.Shown.{stream_of, streams_of}
use Rattle.lowering_parts.specs.Gathered.{made_of}
use Rattle.lowering_parts.proofs.BundleLemmas.{others_then, reduce_made}
use Rattle.lowering_parts.proofs.bundles.with_reduce.Goals as goal

pub returns-clause-made : goal.returns-clause-made
returns-clause-made c later keeps =
    let f = tree_at later in
    reduce_made c.args.low.now.origin.0 (stream_of c.args.input) f c.args.low.now c.over_selection.new.low c.args.streams.items c.push.new.self.items c.in_ok-one.one c.args.reduced.items
    (ap (λ (l : Lowering). l.origin.0) c.over_selection.ensures.others) (c.in_ok-one.ensures.made later keeps) c.in_ok-push.ensures.items (made_of f c.one_of_all.new.low c.in_ok-stream.stream)
    (c.in_ok-stream.ensures.made f (stream_of c.args.input))

pub returns-clause-others : goal.returns-clause-others
returns-clause-others c = others_then c.args.low.now c.over_selection.new.low c.one_of_all.new.low c.over_selection.ensures.others c.one_of_all.ensures.others

pub returns-in_err-stream-clause-others : goal.returns-in_err-stream-clause-others
returns-in_err-stream-clause-others c = others_then c.args.low.now c.over_selection.new.low c.one_of_all.new.low c.over_selection.ensures.others c.one_of_all.ensures.others

pub returns-clause-nodes : goal.returns-clause-nodes
returns-clause-nodes c = begins_then c.args.low.now.phys_sm.slots c.over_selection.new.low.phys_sm.slots c.one_of_all.new.low.phys_sm.slots c.over_selection.ensures.nodes c.one_of_all.ensures.nodes

pub returns-in_err-stream-clause-nodes : goal.returns-in_err-stream-clause-nodes
returns-in_err-stream-clause-nodes c = begins_then c.args.low.now.phys_sm.slots c.over_selection.new.low.phys_sm.slots c.one_of_all.new.low.phys_sm.slots c.over_selection.ensures.nodes c.one_of_all.ensures.nodes
