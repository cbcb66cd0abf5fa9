use Rattle.std.proofs.Common.{Bool, [], ◌∷◌, sym, ◌∙◌}
use Rattle.std.specs.Prelude.{is_some}
use Rattle.ps_frame.specs.Functions.{Functions}
use Rattle.ps_frame.specs.Tables.{Fields}
use Rattle.ps_frame.specs.Trees.{tree_at}
use Rattle.ps_frame.specs.Typing.{kind_over}
use Rattle.ps_meaning.specs.Steps.{Cut, group_step, named_trees}
use Rattle.ps_validate.specs.Nodes.{GivesSchema}
use Rattle.sound_plans.proofs.Empty.{empty-is}
use Rattle.sound_plans.proofs.Fits.{taken, grouped-fit, named, some-names}
use Rattle.sound_plans.proofs.Testing.{as-named}
use Rattle.sound_plans.proofs.kinds.grouped.Goals as goal

pub returns-clause-fit : goal.returns-clause-fit
returns-clause-fit g c =
    let f = tree_at c.args.arena.now.items in
    taken (λ (s : Fields). (F : Functions) (maintain : Bool) (cut : Cut) → GivesSchema F (group_step f c.args.keys.now c.args.aggs.now maintain cut) (c.args.input.now ∷ []) s) c.group_by_schema-given.result c.args.schema.now c.is_given.result c.is_given.ensures.given c.group_by_schema-given.ensures.given
    (λ p F maintain cut. grouped-fit F c.args.input.now c.args.schema.now (record { keys = named_trees f c.args.keys.now; aggregates = named_trees f c.args.aggs.now; maintain_order = maintain; cut = cut }) (some-names f c.args.keys.now c.is_empty.result (empty-is c.args.keys.now c.is_empty.result c.is_empty.ensures) c.if-is_empty.false) (named (λ e. is_some (kind_over c.args.input.now e)) f c.args.keys.now (sym c.in_ok-typed_keys.ensures.pass ∙ c.if-not-typed_keys.false)) (named (λ e. is_some (kind_over c.args.input.now e)) f c.args.aggs.now (sym c.in_ok-typed.ensures.pass ∙ c.if-not-typed.false)) (p F maintain cut))

pub group_by_schema-given-requires-clause-keys : goal.group_by_schema-given-requires-clause-keys
group_by_schema-given-requires-clause-keys g c = as-named (tree_at c.args.arena.now.items) c.args.keys.now c.requires.keys

pub group_by_schema-given-requires-clause-aggregates : goal.group_by_schema-given-requires-clause-aggregates
group_by_schema-given-requires-clause-aggregates g c = as-named (tree_at c.args.arena.now.items) c.args.aggs.now c.requires.aggregates
