-- Chains of operators that bind alike, and what stands behind an expression.
use Rattle.std.proofs.Common.{◌≡◌, ℕ, suc, ◌<◌, ◌≤◌, ◌⊎◌, Bool, true, false, cond, List, [], ◌∷◌, ◌++◌, sym, refl, ap, ◌∙◌, subst, inl, inr, ⊎_elim, arith, append_assoc, append-nil}
use Rattle.std.specs.Prelude.{◌≢◌, codes}
use Rattle.std.specs.Str.{bytes_eq}
use Rattle.std.proofs.lemmas.Bool.{cases_lt, cases_eq, true≢false}
use Rattle.ps_frame.specs.declared.expr.Operator.{Operator}
use Rattle.ps_frame.specs.declared.expr.Operator.TheVariants as op
use Rattle.text_queries.specs.Grammar.{IsExpr, is_name, is_integer, is_text, is_truth, is_null, is_call, is_len, is_enclosed, is_operation, binding, left_binding, operator_token}
use Rattle.text_queries.specs.Queries.{Expr, Binary, expr_depth}
use Rattle.text_reading.specs.Reading.{Ends}
use Rattle.text_tokens.specs.declared.error.TextError.{TextError}
use Rattle.text_tokens.specs.declared.error.TextError.TheVariants as refusal
use Rattle.text_tokens.specs.declared.token.Sign.TheVariants as sign
use Rattle.text_tokens.specs.declared.token.Token.{Token}
use Rattle.text_tokens.specs.declared.token.Token.TheVariants as token

-- the operator that a token is, where it is one
abbrev operator_in : Token → Operator
operator_in (token.Word word) = cond (bytes_eq word (codes "or")) op.Or op.And
operator_in (token.Sign sign.Equal) = op.Eq
operator_in (token.Sign sign.NotEqual) = op.NotEq
operator_in (token.Sign sign.Below) = op.Lt
operator_in (token.Sign sign.AtMost) = op.LtEq
operator_in (token.Sign sign.Above) = op.Gt
operator_in (token.Sign sign.AtLeast) = op.GtEq
operator_in (token.Sign sign.Plus) = op.Plus
operator_in (token.Sign sign.Minus) = op.Minus
operator_in (token.Sign sign.Times) = op.Multiply
operator_in (token.Sign sign.Over) = op.FloorDivide
operator_in (token.Sign sign.Modulo) = op.Modulus
operator_in _ = op.Or

operator_back : (o : Operator) → operator_in (operator_token o) ≡ o
operator_back op.Or = refl
operator_back op.And = refl
operator_back op.Eq = refl
operator_back op.NotEq = refl
operator_back op.Lt = refl
operator_back op.LtEq = refl
operator_back op.Gt = refl
operator_back op.GtEq = refl
operator_back op.Plus = refl
operator_back op.Minus = refl
operator_back op.Multiply = refl
operator_back op.FloorDivide = refl
operator_back op.Modulus = refl

pub operator_once : (o p : Operator) → operator_token o ≡ operator_token p → o ≡ p
operator_once o p e = sym (operator_back o) ∙ ap operator_in e ∙ operator_back p

-- no operator is one of these tokens
abbrev is_mark : Token → Bool
is_mark (token.Sign sign.Open) = true
is_mark (token.Sign sign.Close) = true
is_mark (token.Sign sign.Comma) = true
is_mark (token.Sign sign.Bar) = true
is_mark (token.Sign sign.Is) = true
is_mark _ = false

no_mark : (o : Operator) → is_mark (operator_token o) ≡ false
no_mark op.Or = refl
no_mark op.And = refl
no_mark op.Eq = refl
no_mark op.NotEq = refl
no_mark op.Lt = refl
no_mark op.LtEq = refl
no_mark op.Gt = refl
no_mark op.GtEq = refl
no_mark op.Plus = refl
no_mark op.Minus = refl
no_mark op.Multiply = refl
no_mark op.FloorDivide = refl
no_mark op.Modulus = refl

pub operator_no_mark : (o : Operator) (t : Token) → is_mark t ≡ true → operator_token o ≢ t
operator_no_mark o t mark e = true≢false (sym mark ∙ ap is_mark (sym e) ∙ no_mark o)

pub binding_below : (o : Operator) → binding o < 6
binding_below op.Or = omega arith
binding_below op.And = omega arith
binding_below op.Eq = omega arith
binding_below op.NotEq = omega arith
binding_below op.Lt = omega arith
binding_below op.LtEq = omega arith
binding_below op.Gt = omega arith
binding_below op.GtEq = omega arith
binding_below op.Plus = omega arith
binding_below op.Minus = omega arith
binding_below op.Multiply = omega arith
binding_below op.FloorDivide = omega arith
binding_below op.Modulus = omega arith

-- comparisons make no chains, and each other operator does
left_is : (o : Operator) → ((binding o ≡ 3) × (left_binding o ≡ 4)) ⊎ ((binding o ≢ 3) × (left_binding o ≡ binding o))
left_is op.Or = inr ((λ e. omega (arith, e)), refl)
left_is op.And = inr ((λ e. omega (arith, e)), refl)
left_is op.Eq = inl (refl, refl)
left_is op.NotEq = inl (refl, refl)
left_is op.Lt = inl (refl, refl)
left_is op.LtEq = inl (refl, refl)
left_is op.Gt = inl (refl, refl)
left_is op.GtEq = inl (refl, refl)
left_is op.Plus = inr ((λ e. omega (arith, e)), refl)
left_is op.Minus = inr ((λ e. omega (arith, e)), refl)
left_is op.Multiply = inr ((λ e. omega (arith, e)), refl)
left_is op.FloorDivide = inr ((λ e. omega (arith, e)), refl)
left_is op.Modulus = inr ((λ e. omega (arith, e)), refl)

-- an expression of a finer level is one of a coarser level
pub weaker : {opens least : ℕ} {ts : List Token} {e : Expr} → IsExpr opens (suc least) ts e → IsExpr opens least ts e
weaker (is_name h) = is_name h
weaker (is_integer h) = is_integer h
weaker is_text = is_text
weaker is_truth = is_truth
weaker is_null = is_null
weaker (is_call h) = is_call h
weaker is_len = is_len
weaker (is_enclosed h) = is_enclosed h
weaker (is_operation at left right) = is_operation (omega arith) left right

-- From left on, the tokens go on with operators that bind exactly so tightly, to the whole expression; a comparison is the last.
pub data GoesOn : ℕ → ℕ → Expr → List Token → Expr → Type 0 where
  ends : {opens least : ℕ} {e : Expr} → GoesOn opens least e [] e
  more : {opens least : ℕ} {o : Operator} {l r e : Expr} {rs ts : List Token} → binding o ≡ least → IsExpr opens (suc least) rs r → (least ≡ 3 → ts ≡ []) → GoesOn opens least (Binary o l r) ts e
      → GoesOn opens least l (operator_token o ∷ rs ++ ts) e

one_more : {opens least : ℕ} {o : Operator} {l r : Expr} {rs : List Token} → binding o ≡ least → IsExpr opens (suc least) rs r → GoesOn opens least l (operator_token o ∷ rs) (Binary o l r)
one_more {opens = opens} {least = least} {o = o} {l = l} {r = r} {rs = rs} at right =
    subst (λ ts. GoesOn opens least l (operator_token o ∷ ts) (Binary o l r)) (append-nil rs) (more at right (λ _. refl) ends)

-- one more operator at the end
at_end : {opens least : ℕ} {o : Operator} {first l r : Expr} {ts rs : List Token} → least ≢ 3 → binding o ≡ least → GoesOn opens least first ts l → IsExpr opens (suc least) rs r → GoesOn opens least first (ts ++ operator_token o ∷ rs) (Binary o l r)
at_end no_comparison at ends right = one_more at right
at_end {opens = opens} {least = least} {o = o} {first = first} {l = l} {r = r} {rs = rs} no_comparison at (more {o = p} {rs = ps} {ts = us} own own_right own_last going) right =
    subst (λ all. GoesOn opens least first (operator_token p ∷ all) (Binary o l r)) (sym (append_assoc ps us (operator_token o ∷ rs)))
    (more own own_right (λ e. absurd (no_comparison e)) (at_end no_comparison at going right))

-- an expression of a level: its first operand, and how it goes on
pub record Chain (opens least : ℕ) (ts : List Token) (e : Expr) : Type 0 where
  pub front : List Token
  pub back : List Token
  pub first : Expr
  pub split : ts ≡ front ++ back
  pub is_first : IsExpr opens (suc least) front first
  pub goes_on : GoesOn opens least first back e

alone : {opens least : ℕ} {ts : List Token} {e : Expr} → IsExpr opens (suc least) ts e → Chain opens least ts e
alone {ts = ts} {e = e} h = record { front = ts; back = []; first = e; split = sym (append-nil ts); is_first = h; goes_on = ends }

pub chain_of : {opens least : ℕ} {ts : List Token} {e : Expr} → IsExpr opens least ts e → Chain opens least ts e
chain_of (is_name h) = alone (is_name h)
chain_of (is_integer h) = alone (is_integer h)
chain_of is_text = alone is_text
chain_of is_truth = alone is_truth
chain_of is_null = alone is_null
chain_of (is_call h) = alone (is_call h)
chain_of is_len = alone is_len
chain_of (is_enclosed h) = alone (is_enclosed h)
chain_of {opens = opens} {least = least} (is_operation {o = o} {ls = ls} {rs = rs} {l = l} {r = r} at left right) =
    ⊎_elim
    (λ (finer : least < binding o). alone (is_operation (omega arith) left right))
    (λ (coarser : binding o ≤ least).
    let same : binding o ≡ least = omega arith in
    ⊎_elim
    (λ (comparison : (binding o ≡ 3) × (left_binding o ≡ 4)).
    let four : left_binding o ≡ suc least = comparison.1 ∙ ap suc (sym comparison.0 ∙ same) in
    record {
      front = ls;
      back = operator_token o ∷ rs;
      first = l;
      split = refl;
      is_first = subst (λ n. IsExpr opens n ls l) four left;
      goes_on = one_more same (subst (λ n. IsExpr opens (suc n) rs r) same right);
    })
    (λ (chained : (binding o ≢ 3) × (left_binding o ≡ binding o)).
    let before : Chain opens least ls l = subst (λ n. Chain opens n ls l) (chained.1 ∙ same) (chain_of left) in
    record {
      front = before.front;
      back = before.back ++ operator_token o ∷ rs;
      first = before.first;
      split = ap (λ x. x ++ operator_token o ∷ rs) before.split ∙ append_assoc before.front before.back (operator_token o ∷ rs);
      is_first = before.is_first;
      goes_on = at_end (λ e. chained.0 (same ∙ e)) same before.goes_on (subst (λ n. IsExpr opens (suc n) rs r) same right);
    })
    (left_is o))
    (cases_lt least (binding o))

-- what was read so far may stand left of an operator of the level
pub record Fits (opens least : ℕ) (ts : List Token) (e : Expr) : Type 0 where
  pub comparison : least ≡ 3 → IsExpr opens 4 ts e
  pub other : least ≢ 3 → IsExpr opens least ts e

pub fits_first : {opens least : ℕ} {ts : List Token} {e : Expr} → IsExpr opens (suc least) ts e → Fits opens least ts e
fits_first {opens = opens} {ts = ts} {e = e} h = record { comparison = λ is. subst (λ n. IsExpr opens (suc n) ts e) is h; other = λ _. weaker h }

pub fits_is : {opens least : ℕ} {ts : List Token} {e : Expr} → Fits opens least ts e → IsExpr opens least ts e
fits_is {opens = opens} {least = least} {ts = ts} {e = e} h =
    ⊎_elim (λ is. subst (λ n. IsExpr opens n ts e) (sym is) (weaker (h.comparison is))) h.other (cases_eq least 3)

-- one more operator and its right operand
pub fits_more : {opens least : ℕ} (o : Operator) {ls rs : List Token} {l r : Expr} → binding o ≡ least → Fits opens least ls l → IsExpr opens (suc least) rs r → IsExpr opens least (ls ++ operator_token o ∷ rs) (Binary o l r)
fits_more {opens = opens} {least = least} o {ls = ls} {rs = rs} {l = l} {r = r} at left right =
    is_operation (omega arith)
    (⊎_elim
    (λ (h : (binding o ≡ 3) × (left_binding o ≡ 4)). subst (λ n. IsExpr opens n ls l) (sym h.1) (left.comparison (sym at ∙ h.0)))
    (λ (h : (binding o ≢ 3) × (left_binding o ≡ binding o)). subst (λ n. IsExpr opens n ls l) (sym (h.1 ∙ at)) (left.other (λ e. h.0 (at ∙ e))))
    (left_is o))
    (subst (λ n. IsExpr opens (suc n) rs r) (sym at) right)

pub fits_again : {opens least : ℕ} {ts : List Token} {e : Expr} → least ≢ 3 → IsExpr opens least ts e → Fits opens least ts e
fits_again chained h = record { comparison = λ is. absurd (chained is); other = λ _. h }

-- a chain doesn't grow less deep
pub goes_deeper : {opens least : ℕ} {l e : Expr} {ts : List Token} → GoesOn opens least l ts e → expr_depth l ≤ expr_depth e
goes_deeper ends = omega arith
goes_deeper (more at right last going) = omega (arith, goes_deeper going)

-- behind the first operand stands an operator of the level, or what stands behind the whole
pub ends_finer : {opens least : ℕ} {l e : Expr} {ts rest : List Token} → GoesOn opens least l ts e → Ends least rest → Ends (suc least) (ts ++ rest)
ends_finer ends h = record { no_operator = λ o more is. omega (arith, h.no_operator o more is); no_call = h.no_call }
ends_finer (more {o = o} {rs = rs} {ts = ts} at right last going) h = record {
  no_operator = λ p behind is. let same : operator_token o ≡ operator_token p = cc in omega (arith, at, ap binding (operator_once o p same));
  no_call = λ behind is. operator_no_mark o (token.Sign sign.Open) refl (let same : operator_token o ≡ token.Sign sign.Open = cc in same);
}

-- where no tokens are left, nothing is left
pub nothing_more : {opens least : ℕ} {l e : Expr} {ts : List Token} → GoesOn opens least l ts e → ts ≡ [] → l ≡ e
nothing_more ends none = refl
nothing_more (more at right last going) none = absurd (let other = none in cc)

-- where the rest begins with no operator of the level, or with what isn't one, the chain has ended
pub ended : {opens least : ℕ} {l e : Expr} {ts rest all : List Token} → GoesOn opens least l ts e → all ≡ ts ++ rest → ((o : Operator) (behind : List Token) → all ≡ operator_token o ∷ behind → binding o ≢ least) → (l ≡ e) × (all ≡ rest)
ended ends is none = (refl, is)
ended (more {o = o} {rs = rs} {ts = ts} at right last going) is none = absurd (none o _ is at)

-- where the rest begins with an operator of the level, the chain goes on with it
pub record GoesOnWith (opens least : ℕ) (o : Operator) (l : Expr) (behind rest : List Token) (e : Expr) : Type 0 where
  pub front : List Token
  pub back : List Token
  pub operand : Expr
  pub split : behind ≡ front ++ (back ++ rest)
  pub is_operand : IsExpr opens (suc least) front operand
  pub last : least ≡ 3 → back ≡ []
  pub goes_on : GoesOn opens least (Binary o l operand) back e

pub goes_on_with : {opens least : ℕ} {l e : Expr} {ts rest : List Token} (o : Operator) (behind : List Token) → GoesOn opens least l ts e → operator_token o ∷ behind ≡ ts ++ rest → binding o ≡ least → Ends least rest → GoesOnWith opens least o l behind rest e
goes_on_with o behind ends is at h = absurd (let low = h.no_operator o behind (sym is) in omega (arith, low, at))
goes_on_with {opens = opens} {least = least} {l = l} {e = e} {rest = rest} o behind (more {o = p} {r = r} {rs = rs} {ts = ts} own right last going) is at h =
    let heads : operator_token p ≡ operator_token o = cc in
    let tails : behind ≡ (rs ++ ts) ++ rest = cc in
    record {
      front = rs;
      back = ts;
      operand = r;
      split = tails ∙ append_assoc rs ts rest;
      is_operand = right;
      last = last;
      goes_on = subst (λ q. GoesOn opens least (Binary q l r) ts e) (operator_once p o heads) going;
    }

-- an error that is no refusal is want of memory
pub is_memory : (error : TextError) → (error ≡ refusal.NoReading → ⊥) → ((name : List ℕ) → error ≡ refusal.UnknownTable name → ⊥) → error ≡ refusal.OutOfMemory
is_memory refusal.NoReading no_reading known = absurd (no_reading refl)
is_memory (refusal.UnknownTable name) no_reading known = absurd (known name refl)
is_memory refusal.OutOfMemory no_reading known = refl
