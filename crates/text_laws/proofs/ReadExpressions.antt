-- Written expressions read as the expressions.
use Rattle.std.proofs.Common.{ℕ, zero, suc, ◌≤◌, max, arith}
use Rattle.ps_frame.specs.declared.expr.Operator.{Operator}
use Rattle.ps_frame.specs.declared.expr.Operator.TheVariants as op
use Rattle.text_laws.specs.Widths.{ExprFits}
use Rattle.text_laws.proofs.WrittenNumbers.{integer_reads}
use Rattle.text_laws.proofs.WrittenTokens.{name_reads}
use Rattle.text_queries.specs.Grammar.{IsExpr, is_name, is_integer, is_text, is_truth, is_null, is_call, is_len, is_enclosed, is_operation, binding, left_binding}
use Rattle.text_queries.specs.Queries.{Expr, Name, Int, Text, Truth, Null, Call, Len, Binary, expr_depth}
use Rattle.text_queries.specs.Writing.{expr_tokens, operand_tokens}

-- operators bind at 1 at least
binds : (o : Operator) → 1 ≤ binding o
binds op.Or = omega arith
binds op.And = omega arith
binds op.Eq = omega arith
binds op.NotEq = omega arith
binds op.Lt = omega arith
binds op.LtEq = omega arith
binds op.Gt = omega arith
binds op.GtEq = omega arith
binds op.Plus = omega arith
binds op.Minus = omega arith
binds op.Multiply = omega arith
binds op.FloorDivide = omega arith
binds op.Modulus = omega arith

-- where the expression may stand without parentheses: an operator's tree where its operator binds tightly enough
abbrev Stands : ℕ → Expr → Type 0
Stands least (Binary operator left right) = least ≤ binding operator
Stands least _ = Unit {0}

stands_whole : (e : Expr) → Stands 1 e
stands_whole (Name n) = tt
stands_whole (Int n) = tt
stands_whole (Text t) = tt
stands_whole (Truth b) = tt
stands_whole (Null k) = tt
stands_whole (Call f e) = tt
stands_whole Len = tt
stands_whole (Binary o l r) = binds o

-- parentheses nest no deeper than the expression is deep
abbrev Reads : Expr → Type 0
Reads e = (opens least : ℕ) → expr_depth e ≤ opens → Stands least e → IsExpr opens least (expr_tokens e) e

-- an operand stands at every level, in parentheses where it is an operator's tree
operand : (e : Expr) (opens least : ℕ) → Reads e → expr_depth e ≤ opens → IsExpr (suc opens) least (operand_tokens e) e
operand (Name n) opens least reads deep = reads (suc opens) least (omega (arith, deep)) tt
operand (Int n) opens least reads deep = reads (suc opens) least (omega (arith, deep)) tt
operand (Text t) opens least reads deep = reads (suc opens) least (omega (arith, deep)) tt
operand (Truth b) opens least reads deep = reads (suc opens) least (omega (arith, deep)) tt
operand (Null k) opens least reads deep = reads (suc opens) least (omega (arith, deep)) tt
operand (Call f e) opens least reads deep = reads (suc opens) least (omega (arith, deep)) tt
operand Len opens least reads deep = reads (suc opens) least (omega (arith, deep)) tt
operand (Binary o l r) opens least reads deep = is_enclosed (reads opens 1 deep (binds o))

call_reads : (opens least : ℕ) (f : Expr → Expr) (e : Expr) → suc (expr_depth e) ≤ opens → ((fewer : ℕ) → expr_depth e ≤ fewer → IsExpr (suc fewer) least (expr_tokens (f e)) (f e)) → IsExpr opens least (expr_tokens (f e)) (f e)
call_reads zero least f e deep reads = absurd (omega (arith, deep))
call_reads (suc opens) least f e deep reads = reads opens (omega (arith, deep))

len_reads : (opens least : ℕ) → 1 ≤ opens → IsExpr opens least (expr_tokens Len) Len
len_reads zero least deep = absurd (omega (arith, deep))
len_reads (suc opens) least deep = is_len

operation_reads : (o : Operator) (l r : Expr) (opens least : ℕ) → Reads l → Reads r → suc (max (expr_depth l) (expr_depth r)) ≤ opens → least ≤ binding o → IsExpr opens least (expr_tokens (Binary o l r)) (Binary o l r)
operation_reads o l r zero least left right deep stands = absurd (omega (arith, deep))
operation_reads o l r (suc opens) least left right deep stands =
    is_operation stands (operand l opens (left_binding o) left (omega (arith, deep))) (operand r opens (suc (binding o)) right (omega (arith, deep)))

reads_again : (e : Expr) → ExprFits e → Reads e
reads_again (Name n) fits opens least deep stands = is_name (name_reads n)
reads_again (Int n) fits opens least deep stands = is_integer (integer_reads n fits)
reads_again (Text t) fits opens least deep stands = is_text
reads_again (Truth b) fits opens least deep stands = is_truth
reads_again (Null k) fits opens least deep stands = is_null
reads_again (Call f e) fits opens least deep stands = call_reads opens least (Call f) e deep (λ fewer inner. is_call (reads_again e fits fewer 1 inner (stands_whole e)))
reads_again Len fits opens least deep stands = len_reads opens least deep
reads_again (Binary o l r) fits opens least deep stands = operation_reads o l r opens least (reads_again l fits.0) (reads_again r fits.1) deep stands

pub expr_reads : (e : Expr) → ExprFits e → expr_depth e ≤ 100 → IsExpr 100 1 (expr_tokens e) e
expr_reads e fits deep = reads_again e fits 100 1 deep (stands_whole e)
