use Rattle.ps_frame.specs.Functions.{Functions}
use Rattle.ps_frame.specs.Tables.{Fields}
use Rattle.ps_frame.specs.Trees.{tree_at}
use Rattle.ps_frame.specs.declared.refusal.PolarsError.{PolarsError}
use Rattle.ps_meaning.specs.Schemas.{names_of}
use Rattle.ps_meaning.specs.Steps.{hstack, named_trees}
use Rattle.ps_validate.proofs.Stacked.{hstack-error, hstack-first, hstack-gives, hstack-later, hstack-schema}
use Rattle.ps_validate.proofs.Typed.{answered, empty-error, if-err, passed-on}
use Rattle.ps_validate.proofs.stacks.hstack_schema.Goals as goal
use Rattle.ps_validate.specs.Columns.{with_kinds}
use Rattle.ps_validate.specs.Nodes.{GivesSchema, IsNodeError}
use Rattle.std.proofs.Common.{◌∷◌, [], ◌≡◌, ◌++◌, sym, ◌∙◌, ap}

stack : (z y then fs : Fields) → z ≡ [] → y ≡ [] → then ≡ y ++ fs → then ≡ z ++ fs
stack z y then fs none empty is = is ∙ ap (λ (x : Fields). x ++ fs) (empty ∙ sym none)

pub returns-in_err-push_typed-clause-refused : goal.returns-in_err-push_typed-clause-refused
returns-in_err-push_typed-clause-refused g c =
    passed-on (λ (e : PolarsError). (F : Functions) → IsNodeError F c.args.at (hstack (named_trees (tree_at c.args.arena.now.items) c.args.exprs.now)) (c.args.input.now ∷ []) e) c.in_err-push_typed.field-0.0 c.from_residual.result c.from_residual.ensures.1
    (λ F. hstack-error F c.args.at c.args.input.now (named_trees (tree_at c.args.arena.now.items) c.args.exprs.now) (names_of c.new-stacked.result) c.in_err-push_typed.field-0.0 (ap names_of c.new-stacked.ensures) c.in_err-push_typed.ensures.refused)

pub returns-in_err-push_with_kinds-clause-refused : goal.returns-in_err-push_with_kinds-clause-refused
returns-in_err-push_with_kinds-clause-refused g c =
    passed-on (λ (e : PolarsError). (F : Functions) → IsNodeError F c.args.at (hstack (named_trees (tree_at c.args.arena.now.items) c.args.exprs.now)) (c.args.input.now ∷ []) e) c.in_err-push_with_kinds.field-0.0 c.from_residual-in_err-push_with_kinds.result c.from_residual-in_err-push_with_kinds.ensures.1
    (λ F. hstack-first F c.args.input.now c.new-stacked.result c.push_typed.new.schema (named_trees (tree_at c.args.arena.now.items) c.args.exprs.now) c.new-stacked.ensures c.in_ok-push_typed.ensures.fields c.names_differ.ensures c.names_differ-2.ensures c.args.at c.new-schema.result c.in_err-push_with_kinds.field-0.0 c.new-schema.ensures c.in_err-push_with_kinds.ensures.refused)

pub returns-in_err-push_absent-clause-refused : goal.returns-in_err-push_absent-clause-refused
returns-in_err-push_absent-clause-refused g c =
    passed-on (λ (e : PolarsError). (F : Functions) → IsNodeError F c.args.at (hstack (named_trees (tree_at c.args.arena.now.items) c.args.exprs.now)) (c.args.input.now ∷ []) e) c.in_err-push_absent.field-0.0 c.from_residual-in_err-push_absent.result c.from_residual-in_err-push_absent.ensures.1
    (λ F. hstack-later F c.args.input.now c.new-stacked.result c.push_typed.new.schema (named_trees (tree_at c.args.arena.now.items) c.args.exprs.now) c.new-stacked.ensures c.in_ok-push_typed.ensures.fields c.names_differ.ensures c.names_differ-2.ensures c.args.at c.new-schema.result c.push_with_kinds.new.schema c.in_err-push_absent.field-0.0 c.new-schema.ensures c.in_ok-push_with_kinds.ensures.added c.in_err-push_absent.ensures.refused)

pub returns-clause-given : goal.returns-clause-given
returns-clause-given g c =
    answered (λ (s : Fields). (F : Functions) → GivesSchema F (hstack (named_trees (tree_at c.args.arena.now.items) c.args.exprs.now)) (c.args.input.now ∷ []) s) c.push_absent.new.schema c.some_columns.result c.some_columns.ensures.same c.some_columns.ensures.some
    (λ some F. hstack-gives F c.args.input.now c.new-stacked.result c.push_typed.new.schema (named_trees (tree_at c.args.arena.now.items) c.args.exprs.now) c.new-stacked.ensures c.in_ok-push_typed.ensures.fields c.names_differ.ensures c.names_differ-2.ensures c.push_absent.new.schema (λ t. c.kinds_are_exact.ensures c.args.input.now t) (hstack-schema F c.args.input.now c.new-stacked.result c.push_typed.new.schema (named_trees (tree_at c.args.arena.now.items) c.args.exprs.now) c.new-stacked.ensures c.in_ok-push_typed.ensures.fields c.names_differ.ensures c.names_differ-2.ensures c.push_with_kinds.new.schema c.push_absent.new.schema (stack c.new-stacked.result c.new-schema.result c.push_with_kinds.new.schema (with_kinds c.push_typed.new.schema c.args.input.now) c.new-stacked.ensures c.new-schema.ensures c.in_ok-push_with_kinds.ensures.added) c.in_ok-push_absent.ensures.added) c.names_differ-3.ensures some)

pub returns-clause-refused : goal.returns-clause-refused
returns-clause-refused g c =
    if-err (λ (e : PolarsError). (F : Functions) → IsNodeError F c.args.at (hstack (named_trees (tree_at c.args.arena.now.items) c.args.exprs.now)) (c.args.input.now ∷ []) e) c.some_columns.result c.some_columns.ensures.refused (λ e h F. empty-error F (hstack (named_trees (tree_at c.args.arena.now.items) c.args.exprs.now)) (c.args.input.now ∷ []) c.push_absent.new.schema c.args.at e (hstack-schema F c.args.input.now c.new-stacked.result c.push_typed.new.schema (named_trees (tree_at c.args.arena.now.items) c.args.exprs.now) c.new-stacked.ensures c.in_ok-push_typed.ensures.fields c.names_differ.ensures c.names_differ-2.ensures c.push_with_kinds.new.schema c.push_absent.new.schema (stack c.new-stacked.result c.new-schema.result c.push_with_kinds.new.schema (with_kinds c.push_typed.new.schema c.args.input.now) c.new-stacked.ensures c.new-schema.ensures c.in_ok-push_with_kinds.ensures.added) c.in_ok-push_absent.ensures.added) h)
