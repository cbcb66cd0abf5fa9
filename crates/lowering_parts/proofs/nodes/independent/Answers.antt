use Rattle.std.proofs.Common.{[], ap, refl, sym, ◌∙◌}
use Rattle.ps_frame.specs.Trees.{tree_at}
use Rattle.ps_meaning.specs.Schemas.{fields_of}
use Rattle.ps_meaning.specs.Shape.{independent_select}
use Rattle.ps_meaning.specs.Steps.{named_trees}
use Rattle.lowering_parts.specs.Gathered.{made_of, state_of}
use Rattle.lowering_parts.proofs.NodeLemmas.{node_later, schema_later}
use Rattle.lowering_parts.proofs.nodes.independent.Goals as goal

pub returns-clause-made : goal.returns-clause-made
returns-clause-made c later keeps =
    let f = tree_at later in
    let typed = ap (λ es. fields_of (named_trees (tree_at c.args.arena.now.items) es) c.new.result) (sym c.as_slice.ensures.value) ∙ c.in_ok-schema.ensures.schema in
    node_later _ (independent_select (named_trees f c.args.exprs.items)) c.in_ok-schema.schema _ c.args.low.now.origin.0 [] [] (made_of f c.insert.new.low c.in_ok-stream.stream) (state_of f c.args.low.now)
    (ap (λ es. independent_select (named_trees f es)) c.new-selectors.ensures) (schema_later c.args.arena.now.items later keeps c.args.exprs.items c.requires.whole c.new.result [] c.in_ok-schema.schema c.new.ensures typed) refl (c.in_ok-stream.ensures.made f)
