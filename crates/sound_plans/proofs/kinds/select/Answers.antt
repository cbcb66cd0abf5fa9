use Rattle.std.proofs.Common.{[], ◌∷◌, ap, sym, ◌∙◌}
use Rattle.std.specs.Prelude.{is_some}
use Rattle.std.specs.List.{list_all}
use Rattle.ps_frame.specs.Functions.{Functions}
use Rattle.ps_frame.specs.Tables.{Fields}
use Rattle.ps_frame.specs.Trees.{tree_at}
use Rattle.ps_frame.specs.Typing.{is_elementwise, is_independent, kind_over}
use Rattle.ps_meaning.specs.Steps.{exprs_of, named_trees, select}
use Rattle.ps_validate.specs.Nodes.{GivesSchema}
use Rattle.sound_plans.proofs.Fits.{taken, named, select-fit}
use Rattle.sound_plans.proofs.Testing.{as-named, exprs-named, some-reads}
use Rattle.sound_plans.proofs.kinds.select.Goals as goal

pub returns-clause-fit : goal.returns-clause-fit
returns-clause-fit g c =
    let f = tree_at c.args.arena.now.items in
    taken (λ (s : Fields). (F : Functions) → GivesSchema F (select (named_trees f c.args.selectors.now)) (c.args.input.now ∷ []) s) c.select_schema-given.result c.args.schema.now c.is_given.result c.is_given.ensures.given c.select_schema-given.ensures.given
    (λ p F. select-fit F c.args.input.now c.args.schema.now (named_trees f c.args.selectors.now) (named (λ e. is_some (kind_over c.args.input.now e)) f c.args.selectors.now (sym c.in_ok-typed.ensures.pass ∙ c.if-not-typed.false)) (named (is_elementwise) f c.args.selectors.now (sym c.in_ok-elementwise.ensures.pass ∙ c.if-not-elementwise.false)) (some-reads is_independent (exprs_of (named_trees f c.args.selectors.now)) (ap (list_all is_independent) (exprs-named f c.args.selectors.now) ∙ (sym c.in_ok-independent.ensures.pass ∙ c.if-independent.false))) (p F))

pub select_schema-given-requires : goal.select_schema-given-requires
select_schema-given-requires g c = as-named (tree_at c.args.arena.now.items) c.args.selectors.now c.requires.selectors
