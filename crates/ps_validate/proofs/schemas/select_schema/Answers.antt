use Rattle.ps_frame.specs.Functions.{Functions}
use Rattle.ps_frame.specs.Tables.{Fields}
use Rattle.ps_frame.specs.Trees.{tree_at}
use Rattle.ps_frame.specs.declared.refusal.PolarsError.{PolarsError}
use Rattle.ps_meaning.specs.Schemas.{names_of}
use Rattle.ps_meaning.specs.Steps.{named_trees, select}
use Rattle.ps_validate.proofs.Grouping.{keys-fields}
use Rattle.ps_validate.proofs.Selected.{select-gives}
use Rattle.ps_validate.proofs.Selecting.{select-error}
use Rattle.ps_validate.proofs.Typed.{answered, passed-on}
use Rattle.ps_validate.proofs.schemas.select_schema.Goals as goal
use Rattle.valid_plans.specs.Fields.{IsFieldError}
use Rattle.ps_validate.specs.Nodes.{GivesSchema, IsNodeError}
use Rattle.std.proofs.Common.{◌∷◌, [], ap, subst}

pub returns-in_err-push_typed-clause-refused : goal.returns-in_err-push_typed-clause-refused
returns-in_err-push_typed-clause-refused g c =
    passed-on (λ (e : PolarsError). (F : Functions) → IsNodeError F c.args.at (select (named_trees (tree_at c.args.arena.now.items) c.args.exprs.now)) (c.args.input.now ∷ []) e) c.in_err-push_typed.field-0.0 c.from_residual.result c.from_residual.ensures.1
    (λ F. select-error F c.args.at c.args.input.now (named_trees (tree_at c.args.arena.now.items) c.args.exprs.now) c.in_err-push_typed.field-0.0 (subst (λ ns. IsFieldError c.args.at c.args.input.now ns (named_trees (tree_at c.args.arena.now.items) c.args.exprs.now) c.in_err-push_typed.field-0.0) (ap names_of c.new-schema.ensures) c.in_err-push_typed.ensures.refused))

pub returns-clause-given : goal.returns-clause-given
returns-clause-given g c =
    answered (λ (s : Fields). (F : Functions) → GivesSchema F (select (named_trees (tree_at c.args.arena.now.items) c.args.exprs.now)) (c.args.input.now ∷ []) s) c.push_typed.new.schema c.some_columns.result c.some_columns.ensures.same c.some_columns.ensures.some
    (λ some F. select-gives F c.args.input.now (named_trees (tree_at c.args.arena.now.items) c.args.exprs.now) c.push_typed.new.schema (λ t. c.kinds_are_exact.ensures c.args.input.now t) (keys-fields c.new-schema.result c.args.input.now c.push_typed.new.schema (named_trees (tree_at c.args.arena.now.items) c.args.exprs.now) c.new-schema.ensures c.in_ok-push_typed.ensures.fields) c.names_differ.ensures some)
