-- Where the operators of an expression stand.
use Rattle.std.proofs.Common.{◌≡◌, ℕ, suc, ◌≤◌, ℤ, true, List, [], ◌∷◌, ◌++◌, sym, refl, ap, ◌∙◌, subst, ⊎_elim, arith}
use Rattle.std.specs.Prelude.{if◌then◌else◌, codes}
use Rattle.std.specs.Str.{bytes_eq}
use Rattle.std.proofs.lemmas.Bool.{false≢true}
use Rattle.ps_frame.specs.declared.expr.Operator.{Operator}
use Rattle.ps_frame.specs.declared.expr.Operator.TheVariants as op
use Rattle.ps_frame.specs.declared.value.DataType.{DataType}
use Rattle.text_laws.proofs.Parentheses.{opening, closing, opened, closed, opened-append, closed-append, operator_plain, operator_no_open, operator_no_close, left_at_least, binding_below, ends, ends-operator, integer_forms, Balanced, balanced_none, cut_twice, whole}
use Rattle.text_queries.specs.Grammar.{IsExpr, is_name, is_integer, is_text, is_truth, is_null, is_call, is_len, is_enclosed, is_operation, IsInteger, binding, operator_token, function_word, kind_word, truth_word}
use Rattle.text_queries.specs.Queries.{Expr}
use Rattle.text_tokens.specs.declared.token.Sign.TheVariants as sign
use Rattle.text_tokens.specs.declared.token.Token.{Token}
use Rattle.text_tokens.specs.declared.token.Token.TheVariants as token

-- the operator that a token is, where it is one
abbrev operator_in : Token → Operator
operator_in (token.Word word) = if bytes_eq word (codes "or") then op.Or else op.And
operator_in (token.Sign sign.Equal) = op.Eq
operator_in (token.Sign sign.NotEqual) = op.NotEq
operator_in (token.Sign sign.Below) = op.Lt
operator_in (token.Sign sign.AtMost) = op.LtEq
operator_in (token.Sign sign.Above) = op.Gt
operator_in (token.Sign sign.AtLeast) = op.GtEq
operator_in (token.Sign sign.Plus) = op.Plus
operator_in (token.Sign sign.Minus) = op.Minus
operator_in (token.Sign sign.Times) = op.Multiply
operator_in (token.Sign sign.Over) = op.FloorDivide
operator_in (token.Sign sign.Modulo) = op.Modulus
operator_in _ = op.Or

operator_back : (o : Operator) → operator_in (operator_token o) ≡ o
operator_back op.Or = refl
operator_back op.And = refl
operator_back op.Eq = refl
operator_back op.NotEq = refl
operator_back op.Lt = refl
operator_back op.LtEq = refl
operator_back op.Gt = refl
operator_back op.GtEq = refl
operator_back op.Plus = refl
operator_back op.Minus = refl
operator_back op.Multiply = refl
operator_back op.FloorDivide = refl
operator_back op.Modulus = refl

pub operator_once : (o p : Operator) → operator_token o ≡ operator_token p → o ≡ p
operator_once o p e = sym (operator_back o) ∙ ap operator_in e ∙ operator_back p

-- no operator stands outside of the parentheses behind an operand, but one that binds at least so tightly
single : (t : Token) (us vs : List Token) (u : Token) → t ∷ [] ≡ us ++ u ∷ vs → ends us ≡ true → ⊥
single t [] vs u e ended = false≢true ended
single t (w ∷ []) vs u e ended = let none : [] ≡ u ∷ vs = cc in cc
single t (w ∷ x ∷ us) vs u e ended = let none : [] ≡ x ∷ (us ++ u ∷ vs) = cc in cc

inside : (ts us vs : List Token) (o : Operator) → Balanced ts → ts ++ closing ∷ [] ≡ us ++ operator_token o ∷ vs → suc (opened us) ≡ closed us → ⊥
inside ts us vs o balanced e even =
    ⊎_elim
    (λ (h : (ms : List Token) × (ts ≡ us ++ ms) × (operator_token o ∷ vs ≡ ms ++ closing ∷ [])). let fewer = balanced.front us h.0 h.1 in omega (arith, fewer, even))
    (λ (h : (ms : List Token) × (us ≡ ts ++ ms) × (closing ∷ [] ≡ ms ++ operator_token o ∷ vs)). behind h.0 h.2)
    (cut_twice ts (closing ∷ []) us (operator_token o ∷ vs) e)
  where
    behind : (ms : List Token) → closing ∷ [] ≡ ms ++ operator_token o ∷ vs → ⊥
    behind [] e = let same : closing ≡ operator_token o = cc in operator_no_close o same
    behind (m ∷ []) e = let none : [] ≡ operator_token o ∷ vs = cc in cc
    behind (m ∷ w ∷ ms) e = let none : [] ≡ w ∷ (ms ++ operator_token o ∷ vs) = cc in cc

enclosed_binds : (ts us vs : List Token) (o : Operator) → Balanced ts → opening ∷ ts ++ closing ∷ [] ≡ us ++ operator_token o ∷ vs → opened us ≡ closed us → ends us ≡ true → ⊥
enclosed_binds ts [] vs o balanced e even ended = false≢true ended
enclosed_binds ts (u ∷ us) vs o balanced e even ended =
    let same : opening ≡ u = cc in
    let rest : ts ++ closing ∷ [] ≡ us ++ operator_token o ∷ vs = cc in
    let first : opened (opening ∷ us) ≡ closed (opening ∷ us) = subst (λ (w : Token). opened (w ∷ us) ≡ closed (w ∷ us)) (sym same) even in
    inside ts us vs o balanced rest (omega (arith, first))

call_binds : (t : Token) (ts us vs : List Token) (o : Operator) → opened (t ∷ []) ≡ 0 → closed (t ∷ []) ≡ 0 → Balanced ts → t ∷ opening ∷ ts ++ closing ∷ [] ≡ us ++ operator_token o ∷ vs → opened us ≡ closed us → ends us ≡ true → ⊥
call_binds t ts [] vs o no_open no_close balanced e even ended = false≢true ended
call_binds t ts (w ∷ []) vs o no_open no_close balanced e even ended = let same : opening ≡ operator_token o = cc in operator_no_open o same
call_binds t ts (w ∷ x ∷ us) vs o no_open no_close balanced e even ended =
    let head : t ≡ w = cc in
    let rest : opening ∷ ts ++ closing ∷ [] ≡ (x ∷ us) ++ operator_token o ∷ vs = cc in
    let first : opened (t ∷ x ∷ us) ≡ closed (t ∷ x ∷ us) = subst (λ (y : Token). opened (y ∷ x ∷ us) ≡ closed (y ∷ x ∷ us)) (sym head) even in
    enclosed_binds ts (x ∷ us) vs o balanced rest (omega (arith, first, no_open, no_close)) ended

null_binds : (k : DataType) (us vs : List Token) (o : Operator) → token.Word (codes "null") ∷ token.Word (kind_word k) ∷ [] ≡ us ++ operator_token o ∷ vs → ends us ≡ true → ⊥
null_binds k [] vs o e ended = false≢true ended
null_binds k (u ∷ []) vs o e ended = let same : token.Word (codes "null") ≡ u = cc in false≢true (subst (λ (t : Token). ends (t ∷ []) ≡ true) (sym same) ended)
null_binds k (u ∷ w ∷ us) vs o e ended =
    let rest : token.Word (kind_word k) ∷ [] ≡ (w ∷ us) ++ operator_token o ∷ vs = cc in
    single (token.Word (kind_word k)) (w ∷ us) vs (operator_token o) rest ended

minus_binds : (digits : List ℕ) (us vs : List Token) (o : Operator) → token.Sign sign.Minus ∷ token.Digits digits ∷ [] ≡ us ++ operator_token o ∷ vs → ends us ≡ true → ⊥
minus_binds digits [] vs o e ended = false≢true ended
minus_binds digits (u ∷ []) vs o e ended = let same : token.Sign sign.Minus ≡ u = cc in false≢true (subst (λ (t : Token). ends (t ∷ []) ≡ true) (sym same) ended)
minus_binds digits (u ∷ w ∷ us) vs o e ended =
    let rest : token.Digits digits ∷ [] ≡ (w ∷ us) ++ operator_token o ∷ vs = cc in
    single (token.Digits digits) (w ∷ us) vs (operator_token o) rest ended

integer_binds : (ts us vs : List Token) (n : ℤ) (o : Operator) → IsInteger ts n → ts ≡ us ++ operator_token o ∷ vs → ends us ≡ true → ⊥
integer_binds ts us vs n o is e ended =
    ⊎_elim
    (λ (h : (digits : List ℕ) × (ts ≡ token.Digits digits ∷ [])). single (token.Digits h.0) us vs (operator_token o) (sym h.1 ∙ e) ended)
    (λ (h : (digits : List ℕ) × (ts ≡ token.Sign sign.Minus ∷ token.Digits digits ∷ [])). minus_binds h.0 us vs o (sym h.1 ∙ e) ended)
    (integer_forms ts n is)

-- how an operator that stands in an operation stands to the operation's own
pub data Beside (ls rs us vs : List Token) (o p : Operator) : Type 0 where
  in_left : (ms : List Token) → ls ≡ us ++ operator_token p ∷ ms → vs ≡ ms ++ operator_token o ∷ rs → Beside ls rs us vs o p
  itself : ls ≡ us → rs ≡ vs → o ≡ p → Beside ls rs us vs o p
  in_right : (ms : List Token) → us ≡ ls ++ operator_token o ∷ ms → rs ≡ ms ++ operator_token p ∷ vs → Beside ls rs us vs o p

pub beside : (ls rs us vs : List Token) (o p : Operator) → ls ++ operator_token o ∷ rs ≡ us ++ operator_token p ∷ vs → Beside ls rs us vs o p
beside [] rs [] vs o p e =
    let same : operator_token o ≡ operator_token p = cc in
    let rest : rs ≡ vs = cc in
    itself refl rest (operator_once o p same)
beside [] rs (u ∷ us) vs o p e =
    let same : operator_token o ≡ u = cc in
    let rest : rs ≡ us ++ operator_token p ∷ vs = cc in
    in_right us (ap (λ t. t ∷ us) (sym same)) rest
beside (l ∷ ls) rs [] vs o p e =
    let same : l ≡ operator_token p = cc in
    let rest : vs ≡ ls ++ operator_token o ∷ rs = cc in
    in_left ls (ap (λ t. t ∷ ls) same) rest
beside (l ∷ ls) rs (u ∷ us) vs o p e =
    let head : l ≡ u = cc in
    let tail : ls ++ operator_token o ∷ rs ≡ us ++ operator_token p ∷ vs = cc in
    step head (beside ls rs us vs o p tail)
  where
    step : {l u : Token} {ls rs us vs : List Token} {o p : Operator} → l ≡ u → Beside ls rs us vs o p → Beside (l ∷ ls) rs (u ∷ us) vs o p
    step head (in_left ms is rest) = in_left ms (λ i. head i ∷ is i) rest
    step head (itself is rest same) = itself (λ i. head i ∷ is i) rest same
    step head (in_right ms is rest) = in_right ms (λ i. sym head i ∷ is i) rest

-- what stands behind an operand and an operator is balanced, where all of it is
pub even_behind : (ls ms us : List Token) (o : Operator) → us ≡ ls ++ operator_token o ∷ ms → Balanced ls → opened us ≡ closed us → opened ms ≡ closed ms
even_behind ls ms us o is balanced even =
    omega (arith, opened-append ls (operator_token o ∷ ms), closed-append ls (operator_token o ∷ ms), ap opened is, ap closed is, (operator_plain o).1, (operator_plain o).2, balanced.even, even)

pub ended_behind : (ls ms us : List Token) (o : Operator) → us ≡ ls ++ operator_token o ∷ ms → ends us ≡ true → ends ms ≡ true
ended_behind ls ms us o is ended = ends-operator ls o ms (ap ends (sym is) ∙ ended)

-- an operator that stands outside of parentheses behind an operand binds as tightly as the expression has to
pub binds_least : {opens least : ℕ} {ts : List Token} {e : Expr} → IsExpr opens least ts e → (us vs : List Token) (o : Operator) → ts ≡ us ++ operator_token o ∷ vs → opened us ≡ closed us → ends us ≡ true → least ≤ binding o
binds_least (is_name {t = t} h) us vs o is even ended = absurd (single t us vs (operator_token o) is ended)
binds_least (is_integer {ts = ts} {n = n} h) us vs o is even ended = absurd (integer_binds ts us vs n o h is ended)
binds_least (is_text {t = t}) us vs o is even ended = absurd (single (token.Text t) us vs (operator_token o) is ended)
binds_least (is_truth {b = b}) us vs o is even ended = absurd (single (token.Word (truth_word b)) us vs (operator_token o) is ended)
binds_least (is_null {k = k}) us vs o is even ended = absurd (null_binds k us vs o is ended)
binds_least (is_call {f = f} {ts = ts} h) us vs o is even ended = absurd (call_binds (token.Word (function_word f)) ts us vs o refl refl (whole h).balanced is even ended)
binds_least is_len us vs o is even ended = absurd (call_binds (token.Word (codes "len")) [] us vs o refl refl balanced_none is even ended)
binds_least (is_enclosed {ts = ts} h) us vs o is even ended = absurd (enclosed_binds ts us vs o (whole h).balanced is even ended)
binds_least {least = least} (is_operation {o = p} {ls = ls} {rs = rs} at left right) us vs o is even ended =
    elim (beside ls rs us vs p o is) [
      | in_left ms front back ↦ let own = binds_least left us ms o front even ended in omega (arith, own, at, left_at_least p)
      | itself front back same ↦ subst (λ q. least ≤ binding q) same at
      | in_right ms front back ↦
          let own = binds_least right ms vs o back (even_behind ls ms us p front (whole left).balanced even) (ended_behind ls ms us p front ended) in
          omega (arith, own, at)
    ]

-- no operation is a primary expression
pub no_operation : {opens fewer finer : ℕ} {ts ls : List Token} {e l : Expr} → IsExpr opens 6 ts e → (o : Operator) (rs : List Token) → ts ≡ ls ++ operator_token o ∷ rs → IsExpr fewer finer ls l → ⊥
no_operation {ls = ls} primary o rs is left =
    let tight : 6 ≤ binding o = binds_least primary ls rs o is (whole left).balanced.even (whole left).ended in
    omega (arith, tight, binding_below o)
