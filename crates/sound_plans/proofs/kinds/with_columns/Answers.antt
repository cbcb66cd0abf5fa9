use Rattle.std.proofs.Common.{[], ◌∷◌, sym, ◌∙◌}
use Rattle.std.specs.Prelude.{is_some}
use Rattle.ps_frame.specs.Functions.{Functions}
use Rattle.ps_frame.specs.Tables.{Fields}
use Rattle.ps_frame.specs.Trees.{tree_at}
use Rattle.ps_frame.specs.Typing.{is_elementwise, kind_over}
use Rattle.ps_meaning.specs.Steps.{hstack, named_trees}
use Rattle.ps_validate.specs.Nodes.{GivesSchema}
use Rattle.sound_plans.proofs.Fits.{taken, named, with-columns-fit}
use Rattle.sound_plans.proofs.Testing.{as-named}
use Rattle.sound_plans.proofs.kinds.with_columns.Goals as goal

pub returns-clause-fit : goal.returns-clause-fit
returns-clause-fit g c =
    let f = tree_at c.args.arena.now.items in
    taken (λ (s : Fields). (F : Functions) → GivesSchema F (hstack (named_trees f c.args.selectors.now)) (c.args.input.now ∷ []) s) c.hstack_schema-given.result c.args.schema.now c.is_given.result c.is_given.ensures.given c.hstack_schema-given.ensures.given
    (λ p F. with-columns-fit F c.args.input.now c.args.schema.now (named_trees f c.args.selectors.now) (named (λ e. is_some (kind_over c.args.input.now e)) f c.args.selectors.now (sym c.in_ok-typed.ensures.pass ∙ c.if-not-typed.false)) (named (is_elementwise) f c.args.selectors.now (sym c.in_ok-elementwise.ensures.pass ∙ c.if-not-elementwise.false)) (p F))

pub hstack_schema-given-requires : goal.hstack_schema-given-requires
hstack_schema-given-requires g c = as-named (tree_at c.args.arena.now.items) c.args.selectors.now c.requires.selectors
