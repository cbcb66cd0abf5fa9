-- The number at a place of a list of expressions.
use Rattle.std.proofs.Common.{◌≡◌, ℕ, zero, suc, ◌-◌, ◌<◌, ◌≤◌, List, [], ◌∷◌, ◌++◌, length, get_or, map, slice_get, refl, sym, ◌∙◌, ap, arith}
use Rattle.std.specs.Prelude.{Some, None, option_map}
use Rattle.std.proofs.lemmas.List.{map-append}
use Rattle.std.proofs.lemmas.Option.{slice_get_past, slice_get_read}
use Rattle.pu_base.specs.declared.arena.Node.{Node}
use Rattle.ps_plan.specs.Entries.{expr_nodes}
use Rattle.ps_meaning.specs.declared.options.ExprIR.{ExprIR}

abbrev pub numbers_of : List ExprIR → List ℕ
numbers_of es = map (λ (n : Node). n.0) (expr_nodes es)

pub number-at : (es : List ExprIR) (k : ℕ) → slice_get (numbers_of es) k ≡ option_map (λ (e : ExprIR). e.node.0) (slice_get es k)
number-at [] k = refl
number-at (e ∷ es) zero = refl
number-at (e ∷ es) (suc k) = number-at es k

pub number-some : (es : List ExprIR) (k : ℕ) (e : ExprIR) → k < length es → e ≡ get_or es k e → Some e.node.0 ≡ slice_get (numbers_of es) k
number-some es k e h is = sym (number-at es k ∙ ap (option_map (λ (e : ExprIR). e.node.0)) (slice_get_read es (length es) k e refl h is))

pub number-none : (es : List ExprIR) (k : ℕ) → length es ≤ k → None ≡ slice_get (numbers_of es) k
number-none es k h = sym (number-at es k ∙ ap (option_map (λ (e : ExprIR). e.node.0)) (slice_get_past es k h))

get-left : (xs ys : List ℕ) (k : ℕ) → k < length xs → slice_get (xs ++ ys) k ≡ slice_get xs k
get-left [] ys k h = absurd (omega (arith, h))
get-left (x ∷ xs) ys zero h = refl
get-left (x ∷ xs) ys (suc k) h = get-left xs ys k (omega (arith, h))

get-right : (xs ys : List ℕ) (k : ℕ) → length xs ≤ k → slice_get (xs ++ ys) k ≡ slice_get ys (k - length xs)
get-right [] ys k h = ap (slice_get ys) (omega arith)
get-right (x ∷ xs) ys zero h = absurd (omega (arith, h))
get-right (x ∷ xs) ys (suc k) h = get-right xs ys k (omega (arith, h)) ∙ ap (slice_get ys) (omega arith)

numbers-length : (es : List ExprIR) → length (numbers_of es) ≡ length es
numbers-length [] = refl
numbers-length (e ∷ es) = ap (λ k. suc k) (numbers-length es)

pub both-left : (as' bs : List ExprIR) (k : ℕ) → k < length as' → slice_get (map (λ (n : Node). n.0) (expr_nodes as' ++ expr_nodes bs)) k ≡ slice_get (numbers_of as') k
both-left as' bs k h =
    ap (λ xs. slice_get xs k) (map-append (λ (n : Node). n.0) (expr_nodes as') (expr_nodes bs)) ∙ get-left (numbers_of as') (numbers_of bs) k (omega (arith, h, numbers-length as'))

pub both-right : (as' bs : List ExprIR) (k : ℕ) → length as' ≤ k → slice_get (map (λ (n : Node). n.0) (expr_nodes as' ++ expr_nodes bs)) k ≡ slice_get (numbers_of bs) (k - length as')
both-right as' bs k h =
    ap (λ xs. slice_get xs k) (map-append (λ (n : Node). n.0) (expr_nodes as') (expr_nodes bs))
    ∙ get-right (numbers_of as') (numbers_of bs) k (omega (arith, h, numbers-length as')) ∙ ap (λ n. slice_get (numbers_of bs) (k - n)) (numbers-length as')
