use Rattle.std.specs.Prelude.{[], ◌∷◌, reverse}
use Rattle.std.proofs.lemmas.Result.{IfOk-weaker}
use Rattle.ps_expr_eval.proofs.Evaluating.{called, is_not_null-keeps, is_null-keeps, not-keeps}
use Rattle.ps_expr_eval.proofs.WholeOperands.{whole-keeps}
use Rattle.ps_frame.specs.Causes.{whole_column}
use Rattle.ps_frame.specs.Eval.{operand}
use Rattle.ps_frame.specs.declared.expr.FunctionExpr.TheVariants as fun
use Rattle.ps_expr_eval.proofs.whole.function_part.Goals as goal

pub returns-in-Not-clause-cells : goal.returns-in-Not-clause-cells
returns-in-Not-clause-cells c =
    called _ fun.Not c.args.input _ c.in-Not.is (IfOk-weaker c.unary_part.result _ _ (λ q is. not-keeps c.args.input q is) c.unary_part.ensures.cells)

pub returns-in-IsNull-clause-cells : goal.returns-in-IsNull-clause-cells
returns-in-IsNull-clause-cells c =
    called _ fun.IsNull c.args.input _ c.in-IsNull.is (IfOk-weaker c.unary_part-in-IsNull.result _ _ (λ q is. is_null-keeps c.args.input q is) c.unary_part-in-IsNull.ensures.cells)

pub returns-in-IsNotNull-clause-cells : goal.returns-in-IsNotNull-clause-cells
returns-in-IsNotNull-clause-cells c =
    called _ fun.IsNotNull c.args.input _ c.in-IsNotNull.is (IfOk-weaker c.unary_part-in-IsNotNull.result _ _ (λ q is. is_not_null-keeps c.args.input q is) c.unary_part-in-IsNotNull.ensures.cells)

pub returns-in-Reverse-clause-cells : goal.returns-in-Reverse-clause-cells
returns-in-Reverse-clause-cells c =
    called _ fun.Reverse c.args.input _ c.in-Reverse.is
    (IfOk-weaker c.reversed_part.result _ _ (λ q is node d k. whole-keeps (λ vs. whole_column (reverse (operand 0 vs))) (c.args.input ∷ []) q is (d ∷ []) (k, tt)) c.reversed_part.ensures.cells)
