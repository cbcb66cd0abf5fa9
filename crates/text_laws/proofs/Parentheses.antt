-- Parentheses in the tokens of an expression, and the operators outside of them.
use Rattle.std.proofs.Common.{◌≡◌, ℕ, ◌+◌, ◌<◌, ◌≤◌, ◌⊎◌, ℤ, Bool, true, false, ◌||◌, not, List, [], ◌∷◌, ◌++◌, sym, refl, ap, ◌∙◌, subst, inl, inr, ⊎_elim, arith}
use Rattle.std.specs.Prelude.{◌≢◌, codes}
use Rattle.std.specs.Str.{bytes_eq}
use Rattle.std.proofs.lemmas.Bool.{false≢true, true≢false}
use Rattle.ps_frame.specs.declared.expr.Operator.{Operator}
use Rattle.ps_frame.specs.declared.expr.Operator.TheVariants as op
use Rattle.ps_frame.specs.declared.value.DataType.{DataType}
use Rattle.ps_frame.specs.declared.value.DataType.TheVariants as kind
use Rattle.text_queries.specs.Grammar.{IsExpr, is_name, is_integer, is_text, is_truth, is_null, is_call, is_len, is_enclosed, is_operation, IsName, IsInteger, binding, left_binding, operator_token, is_reserved, function_word, kind_word, truth_word}
use Rattle.text_queries.specs.Queries.{Expr}
use Rattle.text_tokens.specs.declared.token.Sign.TheVariants as sign
use Rattle.text_tokens.specs.declared.token.Token.{Token}
use Rattle.text_tokens.specs.declared.token.Token.TheVariants as token

abbrev pub opening : Token
opening = token.Sign sign.Open

abbrev pub closing : Token
closing = token.Sign sign.Close

-- how many parentheses open in the tokens, and how many close
abbrev opens_by : Token → ℕ
opens_by (token.Sign sign.Open) = 1
opens_by _ = 0

abbrev closes_by : Token → ℕ
closes_by (token.Sign sign.Close) = 1
closes_by _ = 0

abbrev pub opened : List Token → ℕ
opened [] = 0
opened (t ∷ ts) = opens_by t + opened ts

abbrev pub closed : List Token → ℕ
closed [] = 0
closed (t ∷ ts) = closes_by t + closed ts

pub opened-append : (xs ys : List Token) → opened (xs ++ ys) ≡ opened xs + opened ys
opened-append [] ys = omega arith
opened-append (x ∷ xs) ys = omega (arith, opened-append xs ys)

pub closed-append : (xs ys : List Token) → closed (xs ++ ys) ≡ closed xs + closed ys
closed-append [] ys = omega arith
closed-append (x ∷ xs) ys = omega (arith, closed-append xs ys)

-- an operator neither opens nor closes
abbrev is_mark : Token → Bool
is_mark (token.Sign sign.Open) = true
is_mark (token.Sign sign.Close) = true
is_mark _ = false

pub operator_plain : (o : Operator) → (is_mark (operator_token o) ≡ false) × (opens_by (operator_token o) ≡ 0) × (closes_by (operator_token o) ≡ 0)
operator_plain op.Or = (refl, refl, refl)
operator_plain op.And = (refl, refl, refl)
operator_plain op.Eq = (refl, refl, refl)
operator_plain op.NotEq = (refl, refl, refl)
operator_plain op.Lt = (refl, refl, refl)
operator_plain op.LtEq = (refl, refl, refl)
operator_plain op.Gt = (refl, refl, refl)
operator_plain op.GtEq = (refl, refl, refl)
operator_plain op.Plus = (refl, refl, refl)
operator_plain op.Minus = (refl, refl, refl)
operator_plain op.Multiply = (refl, refl, refl)
operator_plain op.FloorDivide = (refl, refl, refl)
operator_plain op.Modulus = (refl, refl, refl)

pub operator_no_open : (o : Operator) → opening ≢ operator_token o
operator_no_open o e = true≢false (ap is_mark e ∙ (operator_plain o).0)

pub operator_no_close : (o : Operator) → closing ≢ operator_token o
operator_no_close o e = true≢false (ap is_mark e ∙ (operator_plain o).0)

pub binding_below : (o : Operator) → binding o < 6
binding_below op.Or = omega arith
binding_below op.And = omega arith
binding_below op.Eq = omega arith
binding_below op.NotEq = omega arith
binding_below op.Lt = omega arith
binding_below op.LtEq = omega arith
binding_below op.Gt = omega arith
binding_below op.GtEq = omega arith
binding_below op.Plus = omega arith
binding_below op.Minus = omega arith
binding_below op.Multiply = omega arith
binding_below op.FloorDivide = omega arith
binding_below op.Modulus = omega arith

pub left_at_least : (o : Operator) → binding o ≤ left_binding o
left_at_least op.Or = omega arith
left_at_least op.And = omega arith
left_at_least op.Eq = omega arith
left_at_least op.NotEq = omega arith
left_at_least op.Lt = omega arith
left_at_least op.LtEq = omega arith
left_at_least op.Gt = omega arith
left_at_least op.GtEq = omega arith
left_at_least op.Plus = omega arith
left_at_least op.Minus = omega arith
left_at_least op.Multiply = omega arith
left_at_least op.FloorDivide = omega arith
left_at_least op.Modulus = omega arith

-- Whether the last of the tokens may end an operand: a name, a value or a parenthesis that closes, and no operator.
abbrev is_end : Token → Bool
is_end (token.Word word) = not (is_reserved word) || (bytes_eq word (codes "true") || bytes_eq word (codes "false"))
is_end (token.Digits digits) = true
is_end (token.Name name) = true
is_end (token.Text text) = true
is_end (token.Sign sign.Close) = true
is_end (token.Sign _) = false

abbrev pub ends : List Token → Bool
ends [] = false
ends (t ∷ []) = is_end t
ends (t ∷ u ∷ ts) = ends (u ∷ ts)

operator_no_end : (o : Operator) → is_end (operator_token o) ≡ false
operator_no_end op.Or = refl
operator_no_end op.And = refl
operator_no_end op.Eq = refl
operator_no_end op.NotEq = refl
operator_no_end op.Lt = refl
operator_no_end op.LtEq = refl
operator_no_end op.Gt = refl
operator_no_end op.GtEq = refl
operator_no_end op.Plus = refl
operator_no_end op.Minus = refl
operator_no_end op.Multiply = refl
operator_no_end op.FloorDivide = refl
operator_no_end op.Modulus = refl

ends-behind : (xs : List Token) (t : Token) (ts : List Token) → ends (xs ++ t ∷ ts) ≡ ends (t ∷ ts)
ends-behind [] t ts = refl
ends-behind (x ∷ []) t ts = refl
ends-behind (x ∷ y ∷ xs) t ts = ends-behind (y ∷ xs) t ts

ends-more : (t : Token) (ts : List Token) → ends ts ≡ true → ends (t ∷ ts) ≡ true
ends-more t [] h = absurd (false≢true h)
ends-more t (u ∷ ts) h = h

-- what stands behind an operator, and ends an operand with it, ends it alone
pub ends-operator : (xs : List Token) (o : Operator) (ts : List Token) → ends (xs ++ operator_token o ∷ ts) ≡ true → ends ts ≡ true
ends-operator xs o [] h = absurd (false≢true (sym (operator_no_end o) ∙ sym (ends-behind xs (operator_token o) []) ∙ h))
ends-operator xs o (t ∷ ts) h = sym (ends-behind xs (operator_token o) (t ∷ ts)) ∙ h

-- integers in their two forms
pub integer_forms : (ts : List Token) (n : ℤ) → IsInteger ts n → ((digits : List ℕ) × (ts ≡ token.Digits digits ∷ [])) ⊎ ((digits : List ℕ) × (ts ≡ token.Sign sign.Minus ∷ token.Digits digits ∷ []))
integer_forms (token.Digits digits ∷ []) n h = inl (digits, refl)
integer_forms (token.Sign sign.Minus ∷ token.Digits digits ∷ []) n h = inr (digits, refl)
integer_forms _ n h = absurd h

-- as many parentheses close as open, and none closes before it opens
pub record Balanced (ts : List Token) : Type 0 where
  pub even : opened ts ≡ closed ts
  pub front : (us vs : List Token) → ts ≡ us ++ vs → closed us ≤ opened us

-- where two pieces are cut as two others, the first is a front of the other's first, or goes on into its second
pub cut_twice : (xs ys us vs : List Token) → xs ++ ys ≡ us ++ vs → ((ms : List Token) × (xs ≡ us ++ ms) × (vs ≡ ms ++ ys)) ⊎ ((ms : List Token) × (us ≡ xs ++ ms) × (ys ≡ ms ++ vs))
cut_twice xs ys [] vs e = inl (xs, refl, sym e)
cut_twice [] ys (u ∷ us) vs e = inr (u ∷ us, refl, e)
cut_twice (x ∷ xs) ys (u ∷ us) vs e =
    let head : x ≡ u = cc in
    let tail : xs ++ ys ≡ us ++ vs = cc in
    ⊎_elim
    (λ (h : (ms : List Token) × (xs ≡ us ++ ms) × (vs ≡ ms ++ ys)). inl (h.0, (λ i. head i ∷ h.1 i), h.2))
    (λ (h : (ms : List Token) × (us ≡ xs ++ ms) × (ys ≡ ms ++ vs)). inr (h.0, (λ i. sym head i ∷ h.1 i), h.2))
    (cut_twice xs ys us vs tail)

pub balanced-append : (xs ys : List Token) → Balanced xs → Balanced ys → Balanced (xs ++ ys)
balanced-append xs ys left right = record {
  even = omega (arith, opened-append xs ys, closed-append xs ys, left.even, right.even);
  front = λ us vs e.
      ⊎_elim
      (λ (h : (ms : List Token) × (xs ≡ us ++ ms) × (vs ≡ ms ++ ys)). left.front us h.0 h.1)
      (λ (h : (ms : List Token) × (us ≡ xs ++ ms) × (ys ≡ ms ++ vs)).
      omega (arith, ap opened h.1, ap closed h.1, opened-append xs h.0, closed-append xs h.0, left.even, right.front h.0 vs h.2))
      (cut_twice xs ys us vs e);
}

pub balanced_none : Balanced []
balanced_none = record { even = refl; front = front }
  where
    front : (us vs : List Token) → [] ≡ us ++ vs → closed us ≤ opened us
    front [] vs e = omega arith
    front (u ∷ us) vs e = cc

balanced_one : (t : Token) → opens_by t ≡ 0 → closes_by t ≡ 0 → Balanced (t ∷ [])
balanced_one t no_open no_close = record { even = omega (arith, no_open, no_close); front = front }
  where
    front : (us vs : List Token) → t ∷ [] ≡ us ++ vs → closed us ≤ opened us
    front [] vs e = omega arith
    front (u ∷ []) vs e = let same : t ≡ u = cc in omega (arith, ap opens_by same, ap closes_by same, no_close)
    front (u ∷ w ∷ us) vs e = let none : [] ≡ w ∷ (us ++ vs) = cc in cc

balanced_enclosed : (ts : List Token) → Balanced ts → Balanced (opening ∷ ts ++ closing ∷ [])
balanced_enclosed ts inner = record {
  even = omega (arith, opened-append ts (closing ∷ []), closed-append ts (closing ∷ []), inner.even);
  front = front;
}
  where
    last : (ms vs : List Token) → closing ∷ [] ≡ ms ++ vs → (opened ms ≡ 0) × (closed ms ≤ 1)
    last [] vs e = (refl, omega arith)
    last (m ∷ []) vs e = let same : closing ≡ m = cc in (omega (arith, ap opens_by same), omega (arith, ap closes_by same))
    last (m ∷ w ∷ ms) vs e = let none : [] ≡ w ∷ (ms ++ vs) = cc in cc

    front : (us vs : List Token) → opening ∷ ts ++ closing ∷ [] ≡ us ++ vs → closed us ≤ opened us
    front [] vs e = omega arith
    front (u ∷ us) vs e =
        let same : opening ≡ u = cc in
        let rest : ts ++ closing ∷ [] ≡ us ++ vs = cc in
        ⊎_elim
        (λ (h : (ms : List Token) × (ts ≡ us ++ ms) × (vs ≡ ms ++ closing ∷ [])). omega (arith, ap opens_by same, ap closes_by same, inner.front us h.0 h.1))
        (λ (h : (ms : List Token) × (us ≡ ts ++ ms) × (closing ∷ [] ≡ ms ++ vs)).
        omega (arith, ap opens_by same, ap closes_by same, ap opened h.1, ap closed h.1, opened-append ts h.0, closed-append ts h.0, inner.even, (last h.0 vs h.2).0, (last h.0 vs h.2).1))
        (cut_twice ts (closing ∷ []) us vs rest)

name_plain : (t : Token) (n : List ℕ) → IsName t n → (opens_by t ≡ 0) × (closes_by t ≡ 0) × (is_end t ≡ true)
name_plain (token.Word word) n h = (refl, refl, ap (λ b. not b || (bytes_eq word (codes "true") || bytes_eq word (codes "false"))) h.1)
name_plain (token.Name name) n h = (refl, refl, refl)
name_plain _ n h = absurd h

truth_end : (b : Bool) → is_end (token.Word (truth_word b)) ≡ true
truth_end true = refl
truth_end false = refl

kind_end : (k : DataType) → is_end (token.Word (kind_word k)) ≡ true
kind_end kind.Boolean = refl
kind_end kind.Int64 = refl
kind_end kind.IdxSize = refl
kind_end kind.String = refl

-- the tokens of an expression are balanced, and end an operand
pub record Whole (ts : List Token) : Type 0 where
  pub balanced : Balanced ts
  pub ended : ends ts ≡ true

integer_whole : (ts : List Token) → ((digits : List ℕ) × (ts ≡ token.Digits digits ∷ [])) ⊎ ((digits : List ℕ) × (ts ≡ token.Sign sign.Minus ∷ token.Digits digits ∷ [])) → Whole ts
integer_whole ts (inl h) = subst Whole (sym h.1) (record { balanced = balanced_one (token.Digits h.0) refl refl; ended = refl })
integer_whole ts (inr h) = subst Whole (sym h.1) (record {
  balanced = balanced-append (token.Sign sign.Minus ∷ []) (token.Digits h.0 ∷ []) (balanced_one (token.Sign sign.Minus) refl refl) (balanced_one (token.Digits h.0) refl refl);
  ended = refl;
})

pub whole : {opens least : ℕ} {ts : List Token} {e : Expr} → IsExpr opens least ts e → Whole ts
whole (is_name {t = t} {n = n} h) = record { balanced = balanced_one t (name_plain t n h).0 (name_plain t n h).1; ended = (name_plain t n h).2 }
whole (is_integer {ts = ts} {n = n} h) = integer_whole ts (integer_forms ts n h)
whole (is_text {t = t}) = record { balanced = balanced_one (token.Text t) refl refl; ended = refl }
whole (is_truth {b = b}) = record { balanced = balanced_one (token.Word (truth_word b)) refl refl; ended = truth_end b }
whole (is_null {k = k}) = record {
  balanced = balanced-append (token.Word (codes "null") ∷ []) (token.Word (kind_word k) ∷ []) (balanced_one (token.Word (codes "null")) refl refl) (balanced_one (token.Word (kind_word k)) refl refl);
  ended = kind_end k;
}
whole (is_call {f = f} {ts = ts} h) = record {
  balanced = balanced-append (token.Word (function_word f) ∷ []) (opening ∷ ts ++ closing ∷ []) (balanced_one (token.Word (function_word f)) refl refl) (balanced_enclosed ts (whole h).balanced);
  ended = ends-behind (token.Word (function_word f) ∷ opening ∷ ts) closing [];
}
whole is_len = record {
  balanced = balanced-append (token.Word (codes "len") ∷ []) (opening ∷ closing ∷ []) (balanced_one (token.Word (codes "len")) refl refl) (balanced_enclosed [] balanced_none);
  ended = refl;
}
whole (is_enclosed {ts = ts} h) = record { balanced = balanced_enclosed ts (whole h).balanced; ended = ends-behind (opening ∷ ts) closing [] }
whole (is_operation {o = o} {ls = ls} {rs = rs} at left right) = record {
  balanced = balanced-append ls (operator_token o ∷ rs) (whole left).balanced (balanced-append (operator_token o ∷ []) rs (balanced_one (operator_token o) (operator_plain o).1 (operator_plain o).2) (whole right).balanced);
  ended = ends-behind ls (operator_token o) rs ∙ ends-more (operator_token o) rs (whole right).ended;
}
