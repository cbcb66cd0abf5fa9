use Rattle.std.proofs.Common.{ap, ◌∙◌}
use Rattle.std.specs.Prelude.{map}
use Rattle.ps_frame.specs.Trees.{tree_at}
use Rattle.ps_meaning.specs.Schemas.{names_of}
use Rattle.ps_meaning.specs.Shape.{reduce}
use Rattle.ps_meaning.specs.Steps.{named_trees}
use Rattle.plain_nodes.specs.Exprs.{expr_shown}
use Rattle.plain_nodes.specs.Reductions.{reduced}
use Rattle.ps_nodes.specs.declared.flow.FlowNode.TheVariants as flow
use Rattle.plan_graphs.proofs.Making.{is_made}
use Rattle.plan_graphs.proofs.kinds.reduce.Goals as goal

pub returns-clause-made : goal.returns-clause-made
returns-clause-made c =
    λ ss.
    let f = tree_at c.args.arena.now.items in
    let own = reduced (names_of c.in_ok-schema.schema) (map expr_shown c.in_ok-parts.parts.selectors.items) c.in_ok-parts.parts.reductions.items in
    let names = ap names_of c.in_ok-schema.ensures.same ∙ c.requires.names in
    is_made (reduce (named_trees f c.args.exprs.now)) (reduce own) c.args.output_schema.now ss (flow.Reduce c.new-node.result)
    (ap reduce (ap (λ ns. reduced ns (map expr_shown c.in_ok-parts.parts.selectors.items) c.in_ok-parts.parts.reductions.items) names ∙ c.in_ok-parts.ensures.shown))
    c.new-node.ensures.new (λ x. x) (c.new-node.ensures.output_schema ∙ c.in_ok-schema.ensures.same) tt tt
