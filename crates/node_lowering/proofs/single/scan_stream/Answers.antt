use Rattle.lowering_parts.proofs.Going.{begins_then}
use Rattle.node_lowering.proofs.StepLemmas.{only_then, scan_made}
use Rattle.node_lowering.proofs.single.scan_stream.Goals as goal

pub returns-clause-made : goal.returns-clause-made
returns-clause-made c =
    λ f. scan_made f c.args.low.now c.source_of.new.low c.columns_of.new.low c.in_ok-source.source c.in_ok-columns.columns c.source_of.ensures.others c.args.df.now c.args.schema.now c.in_ok-names.names.items c.in_ok-names.ensures.names (c.in_ok-source.ensures.made f) (c.in_ok-columns.ensures.made f)

pub returns-clause-nodes : goal.returns-clause-nodes
returns-clause-nodes c = begins_then c.args.low.now.phys_sm.slots c.source_of.new.low.phys_sm.slots c.columns_of.new.low.phys_sm.slots c.source_of.ensures.nodes c.columns_of.ensures.nodes

pub returns-clause-others : goal.returns-clause-others
returns-clause-others c = only_then c.args.low.now c.source_of.new.low c.columns_of.new.low c.source_of.ensures.others c.columns_of.ensures.others

pub returns-in_err-columns-clause-nodes : goal.returns-in_err-columns-clause-nodes
returns-in_err-columns-clause-nodes c = begins_then c.args.low.now.phys_sm.slots c.source_of.new.low.phys_sm.slots c.columns_of.new.low.phys_sm.slots c.source_of.ensures.nodes c.columns_of.ensures.nodes

pub returns-in_err-columns-clause-others : goal.returns-in_err-columns-clause-others
returns-in_err-columns-clause-others c = only_then c.args.low.now c.source_of.new.low c.columns_of.new.low c.source_of.ensures.others c.columns_of.ensures.others
