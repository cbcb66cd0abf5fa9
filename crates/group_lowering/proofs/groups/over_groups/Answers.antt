use Rattle.std.proofs.Common.{[], ◌∷◌, ◌++◌, ap, ◌∙◌}
use Rattle.ps_frame.specs.Trees.{tree_at}
use Rattle.ps_meaning.specs.Steps.{named_trees}
use Rattle.ps_phys.specs.Shown.{inputs_of, kind_of, stream_of}
use Rattle.ps_rules.specs.Slots.{schema_at, selected_schema}
use Rattle.lowering_parts.specs.Gathered.{made_of, state_of}
use Rattle.lowering_parts.proofs.NodeLemmas.{node_later, schema_later}
use Rattle.group_lowering.specs.Groups.{grouping_kind}
use Rattle.group_lowering.proofs.GroupLemmas.{all_whole, both_named}
use Rattle.group_lowering.proofs.groups.over_groups.Goals as goal

pub selected_schema-requires : goal.selected_schema-requires
selected_schema-requires c =
    record { whole = all_whole (tree_at c.args.arena.now.items) c.args.keys.items c.args.aggs.items c.as_slice-3.result.now (c.as_slice-3.ensures.value ∙ c.in_ok-all.ensures.all ∙ (λ i. c.as_slice.ensures.value i ++ c.as_slice-2.ensures.value i)) c.requires.keys c.requires.aggs }

pub returns-clause-made : goal.returns-clause-made
returns-clause-made c later keeps =
    let f = tree_at later in
    let both = c.as_slice-3.ensures.value ∙ c.in_ok-all.ensures.all ∙ (λ i. c.as_slice.ensures.value i ++ c.as_slice-2.ensures.value i) in
    let whole = all_whole (tree_at c.args.arena.now.items) c.args.keys.items c.args.aggs.items c.as_slice-3.result.now both c.requires.keys c.requires.aggs in
    node_later (kind_of f c.of-kind.result) (grouping_kind c.args.grouping (named_trees f c.args.keys.items) (named_trees f c.args.aggs.items)) c.in_ok-schema.schema _ c.args.low.now.origin.0 (inputs_of c.of-kind.result) (stream_of c.args.input ∷ [])
    (made_of f c.insert.new.low c.in_ok-stream.stream) (state_of f c.args.low.now) (c.of-kind.ensures.kind f)
    (schema_later c.args.arena.now.items later keeps c.as_slice-3.result.now whole c.in_ok-below.below _ c.in_ok-schema.schema (c.in_ok-below.ensures.schema f) c.in_ok-schema.ensures.schema
    ∙ ap (λ es. selected_schema es (schema_at (state_of f c.args.low.now).nodes (stream_of c.args.input))) (both_named f c.args.keys.items c.args.aggs.items c.as_slice-3.result.now both))
    c.of-kind.ensures.inputs (c.in_ok-stream.ensures.made f)
