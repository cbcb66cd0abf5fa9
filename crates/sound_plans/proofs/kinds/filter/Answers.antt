use Rattle.std.proofs.Common.{[], ◌∷◌, sym, ◌∙◌}
use Rattle.ps_frame.specs.Functions.{Functions}
use Rattle.ps_frame.specs.Tables.{Fields}
use Rattle.ps_frame.specs.Trees.{tree_at}
use Rattle.ps_meaning.specs.Steps.{filter}
use Rattle.ps_validate.specs.Nodes.{GivesSchema}
use Rattle.sound_plans.proofs.Fits.{taken, filter-fit}
use Rattle.sound_plans.proofs.kinds.filter.Goals as goal

pub returns-clause-fit : goal.returns-clause-fit
returns-clause-fit g c =
    let f = tree_at c.args.arena.now.items in
    taken (λ (s : Fields). (F : Functions) → GivesSchema F (filter (f c.args.predicate.now.node)) (c.args.input.now ∷ []) s) c.filter_schema-given.result c.args.schema.now c.is_given.result c.is_given.ensures.given c.filter_schema-given.ensures.given
    (λ p F. filter-fit F c.args.input.now c.args.schema.now (f c.args.predicate.now.node) (sym c.in_ok-typed.ensures.is ∙ c.if-not-typed.false) (sym c.in_ok-elementwise.ensures.is ∙ c.if-not-elementwise.false) (p F))
