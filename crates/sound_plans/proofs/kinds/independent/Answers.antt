use Rattle.std.proofs.Common.{◌≡◌, true, [], ◌∷◌, sym, subst, ◌∙◌}
use Rattle.std.specs.Prelude.{is_some}
use Rattle.std.specs.List.{list_all}
use Rattle.ps_frame.specs.Functions.{Functions}
use Rattle.ps_frame.specs.Tables.{Fields}
use Rattle.ps_frame.specs.Trees.{tree_at}
use Rattle.ps_frame.specs.Typing.{is_independent, kind_over}
use Rattle.ps_meaning.specs.Steps.{key_trees, named_trees, select}
use Rattle.ps_validate.specs.Nodes.{GivesSchema}
use Rattle.sound_plans.proofs.Fits.{taken, named, independent-fit}
use Rattle.sound_plans.proofs.Testing.{as-named}
use Rattle.sound_plans.proofs.kinds.independent.Goals as goal

pub returns-clause-fit : goal.returns-clause-fit
returns-clause-fit g c =
    let f = tree_at c.args.arena.now.items in
    taken (λ (s : Fields). (F : Functions) → GivesSchema F (select (named_trees f c.args.selectors.now)) (c.new-none.result ∷ []) s) c.select_schema-given.result c.args.schema.now c.is_given.result c.is_given.ensures.given c.select_schema-given.ensures.given
    (λ p F. independent-fit F c.args.schema.now (named_trees f c.args.selectors.now) (named (λ e. is_some (kind_over [] e)) f c.args.selectors.now (subst (λ (n : Fields). list_all (λ e. is_some (kind_over n e)) (key_trees f c.args.selectors.now) ≡ true) c.new-none.ensures (sym c.in_ok-typed.ensures.pass ∙ c.if-not-typed.false))) (named (is_independent) f c.args.selectors.now (sym c.in_ok-independent.ensures.pass ∙ c.if-not-independent.false)) (subst (λ (n : Fields). GivesSchema F (select (named_trees f c.args.selectors.now)) (n ∷ []) c.args.schema.now) c.new-none.ensures (p F)))

pub select_schema-given-requires : goal.select_schema-given-requires
select_schema-given-requires g c = as-named (tree_at c.args.arena.now.items) c.args.selectors.now c.requires.selectors
