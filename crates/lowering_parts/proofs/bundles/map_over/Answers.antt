use Rattle.lowering_parts.proofs.Going.{begins_then}
use Rattle.std.proofs.Common.{ap, ◌∙◌}
use Rattle.ps_frame.specs.Trees.{tree_at}
use Rattle.ps_fresh.specs.declared.lowering.Lowering.{Lowering}
use Rattle.ps_meaning.specs.Steps.{named_trees}
use Rattle.ps_rules.specs.Bundles.{names_kept}
use Rattle.lowering_parts.specs.Gathered.{made_of}
use Rattle.lowering_parts.proofs.BundleLemmas.{map_made, others_then}
use Rattle.lowering_parts.proofs.bundles.map_over.Goals as goal

pub returns-clause-made : goal.returns-clause-made
returns-clause-made c later keeps =
    let arena = c.args.arena.now.items in
    let read = c.in_ok-names.ensures.names ∙ ap (λ es. names_kept (named_trees (tree_at arena) es) c.in_ok-schema.schema) c.as_slice.ensures.value in
    map_made arena c.args.low.now c.columns_of.new.low c.args.input c.in_ok-columns.columns c.args.mapped.items c.in_ok-names.names.items c.in_ok-schema.schema c.in_ok-schema.ensures.schema read c.requires.whole c.in_ok-columns.ensures.made
    later keeps (made_of (tree_at later) c.over_selection.new.low c.in_ok-map.map) (ap (λ (l : Lowering). l.origin.0) c.columns_of.ensures.others) (c.in_ok-map.ensures.made later keeps)

pub returns-clause-others : goal.returns-clause-others
returns-clause-others c = others_then c.args.low.now c.columns_of.new.low c.over_selection.new.low c.columns_of.ensures.others c.over_selection.ensures.others

pub returns-in_err-map-clause-others : goal.returns-in_err-map-clause-others
returns-in_err-map-clause-others c = others_then c.args.low.now c.columns_of.new.low c.over_selection.new.low c.columns_of.ensures.others c.over_selection.ensures.others

pub returns-clause-nodes : goal.returns-clause-nodes
returns-clause-nodes c = begins_then c.args.low.now.phys_sm.slots c.columns_of.new.low.phys_sm.slots c.over_selection.new.low.phys_sm.slots c.columns_of.ensures.nodes c.over_selection.ensures.nodes

pub returns-in_err-map-clause-nodes : goal.returns-in_err-map-clause-nodes
returns-in_err-map-clause-nodes c = begins_then c.args.low.now.phys_sm.slots c.columns_of.new.low.phys_sm.slots c.over_selection.new.low.phys_sm.slots c.columns_of.ensures.nodes c.over_selection.ensures.nodes
