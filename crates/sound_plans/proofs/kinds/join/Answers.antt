use Rattle.std.proofs.Common.{[], ◌∷◌, sym, ◌∙◌}
use Rattle.ps_frame.specs.Functions.{Functions}
use Rattle.ps_frame.specs.Tables.{Fields}
use Rattle.ps_frame.specs.Trees.{tree_at}
use Rattle.ps_meaning.specs.Steps.{join}
use Rattle.ps_phys.specs.Shown.{join_of}
use Rattle.ps_validate.specs.Nodes.{GivesSchema}
use Rattle.sound_plans.proofs.Fits.{filled, join-fit, taken-fields}
use Rattle.sound_plans.proofs.kinds.join.Goals as goal

pub returns-clause-fit : goal.returns-clause-fit
returns-clause-fit g c =
    let f = tree_at c.args.arena.now.items in
    taken-fields (λ (s : Fields). (F : Functions) → GivesSchema F (join (join_of f c.args.left_on.now c.args.right_on.now c.args.args.now)) (c.args.left.now ∷ c.args.right.now ∷ []) s) c.join_schema-given.result c.args.schema.now c.has_fields_of.result c.has_fields_of.ensures.has c.join_schema-given.ensures.given
    (λ fields p has F. join-fit F (join_of f c.args.left_on.now c.args.right_on.now c.args.args.now) c.args.left.now c.args.right.now c.args.schema.now fields (filled c.args.schema.now c.is_empty.result c.is_empty.ensures c.if-is_empty.false) (c.joins-joins.ensures.keys c.if-not-joins.false f) (c.joins-joins.ensures.validation c.if-not-joins.false) (sym c.in_ok-typed_left.ensures.pass ∙ c.if-not-typed_left.false) (sym c.in_ok-typed_right.ensures.pass ∙ c.if-not-typed_right.false) (p F) has)
