use Rattle.std.proofs.Common.{ap, ◌∙◌}
use Rattle.ps_phys.specs.Shown.{streams_of}
use Rattle.ps_meaning.specs.Shape.{ordered_union}
use Rattle.plan_rules.specs.Nodes.{over_all}
use Rattle.lowering_parts.specs.Gathered.{state_of}
use Rattle.lowering_parts.proofs.Going.{begins_then}
use Rattle.node_lowering.proofs.StepLemmas.{only_then, union_made}
use Rattle.node_lowering.proofs.lists.union_stream.Goals as goal

pub returns-clause-made : goal.returns-clause-made
returns-clause-made c =
    λ f.
    union_made f c.args.low.now c.node_of.new.low c.cut.new.low c.in_ok-union.union c.in_ok-sliced.sliced c.node_of.ensures.others c.args.slice.now c.args.schema.now (streams_of c.args.inputs.items)
    (c.in_ok-union.ensures.made f ∙ ap (λ ss. over_all c.args.low.now.origin.0 ordered_union c.args.schema.now (streams_of ss) (state_of f c.args.low.now)) c.new-inputs.ensures) (c.in_ok-sliced.ensures.made f)

pub returns-clause-nodes : goal.returns-clause-nodes
returns-clause-nodes c = begins_then c.args.low.now.phys_sm.slots c.node_of.new.low.phys_sm.slots c.cut.new.low.phys_sm.slots c.node_of.ensures.nodes c.cut.ensures.nodes

pub returns-clause-others : goal.returns-clause-others
returns-clause-others c = only_then c.args.low.now c.node_of.new.low c.cut.new.low c.node_of.ensures.others c.cut.ensures.others

pub returns-in_err-sliced-clause-nodes : goal.returns-in_err-sliced-clause-nodes
returns-in_err-sliced-clause-nodes c = begins_then c.args.low.now.phys_sm.slots c.node_of.new.low.phys_sm.slots c.cut.new.low.phys_sm.slots c.node_of.ensures.nodes c.cut.ensures.nodes

pub returns-in_err-sliced-clause-others : goal.returns-in_err-sliced-clause-others
returns-in_err-sliced-clause-others c = only_then c.args.low.now c.node_of.new.low c.cut.new.low c.node_of.ensures.others c.cut.ensures.others
