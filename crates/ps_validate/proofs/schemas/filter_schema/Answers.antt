use Rattle.ps_frame.specs.Functions.{Functions}
use Rattle.ps_frame.specs.Tables.{Fields}
use Rattle.ps_frame.specs.Trees.{tree_at}
use Rattle.ps_frame.specs.declared.value.DataType.TheVariants as kind
use Rattle.ps_meaning.specs.Steps.{filter}
use Rattle.ps_validate.proofs.Selected.{filter-gives}
use Rattle.ps_validate.proofs.Typed.{answered}
use Rattle.ps_validate.proofs.schemas.filter_schema.Goals as goal
use Rattle.ps_validate.specs.Nodes.{GivesSchema}
use Rattle.std.proofs.Common.{◌≡◌, ◌∷◌, [], ◌∙◌, ap, arith, rules}
use Rattle.std.proofs.lemmas.Grind.{common_steps}
use Rattle.std.specs.Prelude.{Some}

pub returns-clause-given : goal.returns-clause-given
returns-clause-given g c =
    let is : c.in_ok-typed.typed.dtype ≡ kind.Boolean = first_of (search rules, cc, grind (arith, common_steps)) in
    answered (λ (s : Fields). (F : Functions) → GivesSchema F (filter (tree_at c.args.arena.now.items c.args.predicate.now.node)) (c.args.input.now ∷ []) s) c.args.input.now c.shared_columns.result c.shared_columns.ensures.same c.shared_columns.ensures.some
    (λ some F. filter-gives F c.args.input.now (tree_at c.args.arena.now.items c.args.predicate.now.node) (λ t. c.kinds_are_exact.ensures c.args.input.now t) (c.in_ok-typed.ensures.kind ∙ ap Some is) c.names_differ.ensures some)
