use Rattle.std.proofs.Common.{[], ◌∷◌, ap, sym, ◌∙◌}
use Rattle.ps_frame.specs.Trees.{tree_at}
use Rattle.ps_meaning.specs.Schemas.{fields_of}
use Rattle.ps_meaning.specs.Steps.{named_trees}
use Rattle.ps_phys.specs.Shown.{inputs_of, kind_of, stream_of}
use Rattle.lowering_parts.specs.Gathered.{made_of, state_of}
use Rattle.lowering_parts.specs.Operations.{selection_kind}
use Rattle.lowering_parts.proofs.NodeLemmas.{node_later, schema_later}
use Rattle.lowering_parts.proofs.nodes.over_selection.Goals as goal

pub returns-clause-made : goal.returns-clause-made
returns-clause-made c later keeps =
    let f = tree_at later in
    let typed = ap (λ es. fields_of (named_trees (tree_at c.args.arena.now.items) es) c.in_ok-below.below) (sym c.as_slice.ensures.value) ∙ c.in_ok-schema.ensures.schema in
    node_later (kind_of f c.of-kind.result) (selection_kind c.args.selection (named_trees f c.args.exprs.items)) c.in_ok-schema.schema _ c.args.low.now.origin.0 (inputs_of c.of-kind.result) (stream_of c.args.input ∷ []) (made_of f c.insert.new.low c.in_ok-stream.stream)
    (state_of f c.args.low.now) (c.of-kind.ensures.kind f)
    (schema_later c.args.arena.now.items later keeps c.args.exprs.items c.requires.whole c.in_ok-below.below _ c.in_ok-schema.schema (c.in_ok-below.ensures.schema f) typed) c.of-kind.ensures.inputs (c.in_ok-stream.ensures.made f)
