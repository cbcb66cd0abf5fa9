use Rattle.std.proofs.Common.{◌≡◌, ◌∷◌, ◌++◌, [], false, subst, ◌∙◌, ap}
use Rattle.ps_frame.specs.Frames.{has_name}
use Rattle.ps_frame.specs.Trees.{tree_at}
use Rattle.ps_meaning.specs.Steps.{Name}
use Rattle.valid_plans.proofs.Adding.{next-left, next-steps, passed-error, passed-push}
use Rattle.valid_plans.proofs.fields.push_typed.Goals as goal

pub returns-in_err-typed-clause-refused : goal.returns-in_err-typed-clause-refused
returns-in_err-typed-clause-refused g c =
    passed-error (tree_at c.args.arena.now.items) c.args.input.now c.args.schema.now c.args.exprs.now c.loop-expr.expr-index c.loop-expr.schema c.loop-expr.all_scalar c.args.steps.now c.loop-expr.steps c.expr-item.result c.loop-expr-test.true c.expr-item.is c.loop-expr.invariant c.args.at c.in_err-typed.field-0.0 c.from_residual.result c.from_residual.ensures.1 c.in_err-typed.ensures.refused

pub returns-in_err-push_field-clause-refused : goal.returns-in_err-push_field-clause-refused
returns-in_err-push_field-clause-refused g c =
    passed-push (tree_at c.args.arena.now.items) c.args.input.now c.args.schema.now c.args.exprs.now c.loop-expr.expr-index c.loop-expr.schema c.loop-expr.all_scalar c.args.steps.now c.loop-expr.steps c.expr-item.result c.loop-expr-test.true c.expr-item.is c.loop-expr.invariant c.args.at c.in-Ok.name c.in_err-push_field.field-0.0 c.from_residual-in_err-push_field.result c.from_residual-in_err-push_field.ensures.1 (c.in-Ok.ensures.same ∙ c.name_of.ensures) c.in_err-push_field.ensures.refused

pub loop-expr-preserved : goal.loop-expr-preserved
loop-expr-preserved g c =
    next-left (tree_at c.args.arena.now.items) c.args.input.now c.args.schema.now c.args.exprs.now c.loop-expr.expr-index c.loop-expr.schema c.loop-expr.all_scalar c.args.steps.now c.loop-expr.steps c.expr-item.result c.loop-expr-test.true c.expr-item.is c.loop-expr.invariant c.in_ok-typed.typed.dtype c.push_field.new.schema c.in_ok-typed.typed.is_scalar c.type_expr.new.steps c.in_ok-typed.ensures.scalar c.in_ok-typed.ensures.kind
    (c.in_ok-push_field.ensures.added ∙ ap (λ (n : Name). c.loop-expr.schema ++ (n, c.in_ok-typed.typed.dtype) ∷ []) (c.in-Ok.ensures.same ∙ c.name_of.ensures))
    (subst (λ (n : Name). has_name n c.loop-expr.schema ≡ false) (c.in-Ok.ensures.same ∙ c.name_of.ensures) c.in_ok-push_field.ensures.fresh) c.in_ok-typed.ensures.steps

pub returns-in_err-typed-clause-steps : goal.returns-in_err-typed-clause-steps
returns-in_err-typed-clause-steps g c =
    next-steps (tree_at c.args.arena.now.items) c.args.input.now c.args.schema.now c.args.exprs.now c.loop-expr.expr-index c.loop-expr.schema c.loop-expr.all_scalar c.args.steps.now c.loop-expr.steps c.expr-item.result c.loop-expr-test.true c.expr-item.is c.loop-expr.invariant c.type_expr.new.steps c.in_err-typed.ensures.steps

pub returns-in_err-push_field-clause-steps : goal.returns-in_err-push_field-clause-steps
returns-in_err-push_field-clause-steps g c =
    next-steps (tree_at c.args.arena.now.items) c.args.input.now c.args.schema.now c.args.exprs.now c.loop-expr.expr-index c.loop-expr.schema c.loop-expr.all_scalar c.args.steps.now c.loop-expr.steps c.expr-item.result c.loop-expr-test.true c.expr-item.is c.loop-expr.invariant c.type_expr.new.steps c.in_ok-typed.ensures.steps
