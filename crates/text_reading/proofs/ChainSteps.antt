-- Chains of operators that bind alike, read from the left.
use Rattle.std.proofs.Common.{◌≡◌, ℕ, suc, ◌≤◌, List, [], ◌∷◌, ◌++◌, sym, ap, ◌∙◌, subst, arith, append_assoc}
use Rattle.std.specs.Prelude.{◌≢◌}
use Rattle.ps_frame.specs.declared.expr.Operator.{Operator}
use Rattle.text_queries.specs.Grammar.{IsExpr, binding, operator_token}
use Rattle.text_queries.specs.Queries.{Expr, Binary, expr_depth}
use Rattle.text_reading.specs.Reading.{Ends, IsShallow}
use Rattle.text_reading.proofs.Chains.{Chain, Fits, GoesOn, GoesOnWith, chain_of, ended, ends_finer, fits_again, fits_first, fits_is, fits_more, goes_deeper, goes_on_with, nothing_more}
use Rattle.text_tokens.specs.declared.token.Token.{Token}

-- the expression at the front that was read, and each reading is of it
abbrev pub Found : ℕ → ℕ → List Token → Expr → List Token → Type 0
Found opens least tokens e rest = (front : List Token) × (tokens ≡ front ++ rest) × IsShallow (IsExpr opens least) front e

abbrev pub Each : ℕ → ℕ → List Token → Expr → List Token → Type 0
Each opens least tokens e rest = (front behind : List Token) (part : Expr) → tokens ≡ front ++ behind → IsShallow (IsExpr opens least) front part → Ends least behind → (e ≡ part) × (rest ≡ behind)

-- what was read of a chain, and how each reading goes on from there
pub record SoFar (opens least : ℕ) (tokens : List Token) (left : Expr) (rest : List Token) : Type 0 where
  pub found : (front : List Token) × (tokens ≡ front ++ rest) × Fits opens least front left
  pub each : (front behind : List Token) (e : Expr) → tokens ≡ front ++ behind → IsShallow (IsExpr opens least) front e → Ends least behind → (back : List Token) × (rest ≡ back ++ behind) × GoesOn opens least left back e
  pub shallow : expr_depth left ≤ 200

-- the first operand
pub chain_first : (opens least finer : ℕ) (tokens : List Token) (first : Expr) (rest : List Token) → finer ≡ suc least → Found opens finer tokens first rest → Each opens finer tokens first rest → SoFar opens least tokens first rest
chain_first opens least finer tokens first rest next found reads = record {
  found = (found.0, found.1, fits_first (subst (λ n. IsExpr opens n found.0 first) next found.2.0));
  each = λ front behind e is h ends.
      let ch : Chain opens least front e = chain_of h.0 in
      let split : tokens ≡ ch.front ++ (ch.back ++ behind) = is ∙ ap (λ ts. ts ++ behind) ch.split ∙ append_assoc ch.front ch.back behind in
      let low : expr_depth ch.first ≤ 200 = omega (arith, goes_deeper ch.goes_on, h.1) in
      let same = reads ch.front (ch.back ++ behind) ch.first split (subst (λ n. IsExpr opens n ch.front ch.first) (sym next) ch.is_first, low) (subst (λ n. Ends n (ch.back ++ behind)) (sym next) (ends_finer ch.goes_on ends)) in
      (ch.back, same.1, subst (λ f. GoesOn opens least f ch.back e) (sym same.0) ch.goes_on);
  shallow = found.2.1;
}

-- an operand that a reading has behind the operator that comes next, and what stands behind it
pub record Operand (opens least finer : ℕ) (o : Operator) (left : Expr) (behind rest : List Token) (e : Expr) : Type 0 where
  pub front : List Token
  pub back : List Token
  pub operand : Expr
  pub split : behind ≡ front ++ (back ++ rest)
  pub is_operand : IsShallow (IsExpr opens finer) front operand
  pub ends : Ends finer (back ++ rest)
  pub last : least ≡ 3 → back ≡ []
  pub goes_on : GoesOn opens least (Binary o left operand) back e
  pub shallow : expr_depth (Binary o left operand) ≤ 200

pub operand_of : (opens least finer : ℕ) (tokens : List Token) (left : Expr) (rest : List Token) (o : Operator) (behind : List Token) → finer ≡ suc least → SoFar opens least tokens left rest → rest ≡ operator_token o ∷ behind → binding o ≡ least
    → (front after : List Token) (e : Expr) → tokens ≡ front ++ after → IsShallow (IsExpr opens least) front e → Ends least after → Operand opens least finer o left behind after e
operand_of opens least finer tokens left rest o behind next so_far begins at front after e is h ends =
    let on = so_far.each front after e is h ends in
    let with : GoesOnWith opens least o left behind after e = goes_on_with o behind on.2 (sym begins ∙ on.1) at ends in
    let deep : expr_depth (Binary o left with.operand) ≤ 200 = omega (arith, goes_deeper with.goes_on, h.1) in
    record {
      front = with.front;
      back = with.back;
      operand = with.operand;
      split = with.split;
      is_operand = (subst (λ n. IsExpr opens n with.front with.operand) (sym next) with.is_operand, omega (arith, deep));
      ends = subst (λ n. Ends n (with.back ++ after)) (sym next) (ends_finer with.goes_on ends);
      last = with.last;
      goes_on = with.goes_on;
      shallow = deep;
    }

-- one more operator with its operand
pub record OneMore (opens least : ℕ) (tokens : List Token) (both : Expr) (rest : List Token) : Type 0 where
  pub found : (front : List Token) × (tokens ≡ front ++ rest) × IsExpr opens least front both
  pub each : (front behind : List Token) (e : Expr) → tokens ≡ front ++ behind → IsShallow (IsExpr opens least) front e → Ends least behind
      → (back : List Token) × (rest ≡ back ++ behind) × (least ≡ 3 → back ≡ []) × GoesOn opens least both back e

pub chain_more : (opens least finer : ℕ) (tokens : List Token) (left : Expr) (rest : List Token) (o : Operator) (behind : List Token) (right : Expr) (after : List Token) (both : Expr) → finer ≡ suc least → SoFar opens least tokens left rest → rest ≡ operator_token o ∷ behind → binding o ≡ least
    → Found opens finer behind right after → Each opens finer behind right after → both ≡ Binary o left right → OneMore opens least tokens both after
chain_more opens least finer tokens left rest o behind right after both next so_far begins at found reads made = record {
  found =
      let f = so_far.found in (
        f.0 ++ operator_token o ∷ found.0,
        f.1 ∙ ap (λ ts. f.0 ++ ts) (begins ∙ ap (λ ts. operator_token o ∷ ts) found.1) ∙ sym (append_assoc f.0 (operator_token o ∷ found.0) after),
        subst (λ e. IsExpr opens least (f.0 ++ operator_token o ∷ found.0) e) (sym made) (fits_more o at f.2 (subst (λ n. IsExpr opens n found.0 right) next found.2.0)),
      );
  each = λ front rest_behind e is h ends.
      let w = operand_of opens least finer tokens left rest o behind next so_far begins at front rest_behind e is h ends in
      let same = reads w.front (w.back ++ rest_behind) w.operand w.split w.is_operand w.ends in
      (w.back, same.1, w.last, subst (λ f. GoesOn opens least f w.back e) (ap (Binary o left) (sym same.0) ∙ sym made) w.goes_on);
}

-- the chain may go on, unless it is a comparison
pub chain_on : (opens least : ℕ) (tokens : List Token) (both : Expr) (rest : List Token) → least ≢ 3 → expr_depth both ≤ 200 → OneMore opens least tokens both rest → SoFar opens least tokens both rest
chain_on opens least tokens both rest chained low one = record {
  found = (one.found.0, one.found.1, fits_again chained one.found.2);
  each = λ front behind e is h ends. let on = one.each front behind e is h ends in (on.0, on.1, on.3);
  shallow = low;
}

-- a comparison is at its end
pub chain_last : (opens least : ℕ) (tokens : List Token) (both : Expr) (rest : List Token) → least ≡ 3 → expr_depth both ≤ 200 → OneMore opens least tokens both rest → Found opens least tokens both rest × Each opens least tokens both rest
chain_last opens least tokens both rest comparison low one = (
  (one.found.0, one.found.1, (one.found.2, low)),
  λ front behind e is h ends.
      let on = one.each front behind e is h ends in
      let none : on.0 ≡ [] = on.2 comparison in
      let here : rest ≡ behind = on.1 ∙ ap (λ ts. ts ++ behind) none in
      (nothing_more on.3 none, here),
)

-- where no operator of the level stands, the chain is at its end
pub chain_done : (opens least : ℕ) (tokens : List Token) (left : Expr) (rest : List Token) → SoFar opens least tokens left rest → ((o : Operator) (behind : List Token) → rest ≡ operator_token o ∷ behind → binding o ≢ least) → Found opens least tokens left rest × Each opens least tokens left rest
chain_done opens least tokens left rest so_far none = (
  (so_far.found.0, so_far.found.1, (fits_is so_far.found.2, so_far.shallow)),
  λ front behind e is h ends.
      let on = so_far.each front behind e is h ends in
      ended on.2 on.1 none,
)
