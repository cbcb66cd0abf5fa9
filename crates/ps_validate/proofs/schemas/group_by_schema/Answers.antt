use Rattle.ps_frame.specs.Functions.{Functions}
use Rattle.ps_frame.specs.Tables.{Fields}
use Rattle.ps_frame.specs.Trees.{tree_at}
use Rattle.ps_frame.specs.declared.refusal.PolarsError.{PolarsError}
use Rattle.ps_meaning.specs.Schemas.{names_of}
use Rattle.ps_meaning.specs.Steps.{Cut, group_step, named_trees}
use Rattle.ps_validate.proofs.Grouping.{aggregates-error, both-fields, group-error, group-gives, keys-error, keys-names}
use Rattle.ps_validate.proofs.Typed.{answered, empty-error, if-err, passed-on}
use Rattle.ps_validate.proofs.schemas.group_by_schema.Goals as goal
use Rattle.ps_validate.specs.Nodes.{GivesSchema, IsNodeError}
use Rattle.std.proofs.Common.{◌∷◌, [], ◌∙◌, ap}
use Rattle.std.specs.Prelude.{Bool, not}

pub returns-in_err-push_typed-clause-refused : goal.returns-in_err-push_typed-clause-refused
returns-in_err-push_typed-clause-refused g c =
    passed-on (λ (e : PolarsError). (F : Functions) (maintain : Bool) (cut : Cut) → IsNodeError F c.args.at (group_step (tree_at c.args.arena.now.items) c.args.keys.now c.args.aggs.now maintain cut) (c.args.input.now ∷ []) e) c.in_err-push_typed.field-0.0 c.from_residual.result c.from_residual.ensures.1
    (λ F maintain cut. group-error F c.args.at c.args.input.now (record { keys = (named_trees (tree_at c.args.arena.now.items) c.args.keys.now); aggregates = (named_trees (tree_at c.args.arena.now.items) c.args.aggs.now); maintain_order = maintain; cut = cut }) c.in_err-push_typed.field-0.0 (keys-error c.args.at c.args.input.now (named_trees (tree_at c.args.arena.now.items) c.args.keys.now) (named_trees (tree_at c.args.arena.now.items) c.args.aggs.now) c.in_err-push_typed.field-0.0 (names_of c.new-schema.result) (ap names_of c.new-schema.ensures) c.in_err-push_typed.ensures.refused))

pub returns-in_err-all_scalar-clause-refused : goal.returns-in_err-all_scalar-clause-refused
returns-in_err-all_scalar-clause-refused g c =
    passed-on (λ (e : PolarsError). (F : Functions) (maintain : Bool) (cut : Cut) → IsNodeError F c.args.at (group_step (tree_at c.args.arena.now.items) c.args.keys.now c.args.aggs.now maintain cut) (c.args.input.now ∷ []) e) c.in_err-all_scalar.field-0.0 c.from_residual-in_err-all_scalar.result c.from_residual-in_err-all_scalar.ensures.1
    (λ F maintain cut. group-error F c.args.at c.args.input.now (record { keys = (named_trees (tree_at c.args.arena.now.items) c.args.keys.now); aggregates = (named_trees (tree_at c.args.arena.now.items) c.args.aggs.now); maintain_order = maintain; cut = cut }) c.in_err-all_scalar.field-0.0
    (aggregates-error c.args.at c.args.input.now (named_trees (tree_at c.args.arena.now.items) c.args.keys.now) (named_trees (tree_at c.args.arena.now.items) c.args.aggs.now) c.in_err-all_scalar.field-0.0 (names_of c.push_typed.new.schema) (keys-names c.new-schema.result c.args.input.now c.push_typed.new.schema (named_trees (tree_at c.args.arena.now.items) c.args.keys.now) c.new-schema.ensures c.in_ok-push_typed.ensures.fields) c.in_err-all_scalar.ensures.refused))

pub returns-clause-refused : goal.returns-clause-refused
returns-clause-refused g c =
    if-err (λ (e : PolarsError). (F : Functions) (maintain : Bool) (cut : Cut) → IsNodeError F c.args.at (group_step (tree_at c.args.arena.now.items) c.args.keys.now c.args.aggs.now maintain cut) (c.args.input.now ∷ []) e) c.some_columns.result c.some_columns.ensures.refused
    (λ e h F maintain cut. empty-error F (group_step (tree_at c.args.arena.now.items) c.args.keys.now c.args.aggs.now maintain cut) (c.args.input.now ∷ []) c.push_typed-2.new.schema c.args.at e (both-fields c.new-schema.result c.args.input.now c.push_typed.new.schema c.push_typed-2.new.schema (named_trees (tree_at c.args.arena.now.items) c.args.keys.now) (named_trees (tree_at c.args.arena.now.items) c.args.aggs.now) c.new-schema.ensures c.in_ok-push_typed.ensures.fields c.in_ok-all_scalar.ensures.fields) h)

pub returns-clause-given : goal.returns-clause-given
returns-clause-given g c =
    answered (λ (s : Fields). (F : Functions) (maintain : Bool) (cut : Cut) → GivesSchema F (group_step (tree_at c.args.arena.now.items) c.args.keys.now c.args.aggs.now maintain cut) (c.args.input.now ∷ []) s) c.push_typed-2.new.schema c.some_columns.result c.some_columns.ensures.same c.some_columns.ensures.some
    (λ some F maintain cut. group-gives F c.args.at c.args.input.now (record { keys = (named_trees (tree_at c.args.arena.now.items) c.args.keys.now); aggregates = (named_trees (tree_at c.args.arena.now.items) c.args.aggs.now); maintain_order = maintain; cut = cut }) c.push_typed-2.new.schema (λ t. c.kinds_are_exact.ensures c.args.input.now t) (both-fields c.new-schema.result c.args.input.now c.push_typed.new.schema c.push_typed-2.new.schema (named_trees (tree_at c.args.arena.now.items) c.args.keys.now) (named_trees (tree_at c.args.arena.now.items) c.args.aggs.now) c.new-schema.ensures c.in_ok-push_typed.ensures.fields c.in_ok-all_scalar.ensures.fields) c.names_differ.ensures some (c.in_ok-all_scalar.ensures.scalar ∙ ap not c.if-not-all_scalar.false) c.in_ok-check_aggregates.ensures.none)
