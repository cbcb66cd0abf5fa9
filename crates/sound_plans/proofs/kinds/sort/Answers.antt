use Rattle.std.proofs.Common.{Bool, List, [], ◌∷◌, sym, ◌∙◌}
use Rattle.ps_frame.specs.Functions.{Functions}
use Rattle.ps_frame.specs.Tables.{Fields}
use Rattle.ps_frame.specs.Trees.{tree_at}
use Rattle.ps_meaning.specs.Steps.{Cut, key_trees, sort}
use Rattle.ps_validate.specs.Nodes.{GivesSchema}
use Rattle.sound_plans.proofs.Fits.{taken, sort-fit}
use Rattle.sound_plans.proofs.kinds.sort.Goals as goal

pub returns-clause-fit : goal.returns-clause-fit
returns-clause-fit g c =
    let f = tree_at c.args.arena.now.items in
    taken (λ (s : Fields). (F : Functions) (descending nulls_last : List Bool) (cut : Cut) → GivesSchema F (sort (record { keys = key_trees f c.args.keys.now; descending = descending; nulls_last = nulls_last; cut = cut })) (c.args.input.now ∷ []) s) c.sort_schema-given.result c.args.schema.now c.is_given.result c.is_given.ensures.given c.sort_schema-given.ensures.given
    (λ p F cut. sort-fit F c.args.input.now c.args.schema.now (record { keys = key_trees f c.args.keys.now; descending = c.args.options.now.descending; nulls_last = c.args.options.now.nulls_last; cut = cut }) (c.sorts-sorts.ensures c.if-not-sorts.false f cut) (sym c.in_ok-typed.ensures.pass ∙ c.if-not-typed.false) (p F c.args.options.now.descending c.args.options.now.nulls_last cut))
