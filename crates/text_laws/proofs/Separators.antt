-- Which tokens stand in no expression, and so part what stands beside each other.
use Rattle.std.proofs.Common.{◌≡◌, ℕ, ℤ, ◌⊎◌, Bool, true, false, ◌||◌, not, List, [], ◌∷◌, ◌++◌, sym, refl, ap, ◌∙◌, subst, ⊎_elim}
use Rattle.std.specs.Prelude.{◌≢◌, codes}
use Rattle.std.specs.List.{AllByRecursion}
use Rattle.std.specs.Str.{bytes_eq}
use Rattle.std.proofs.lemmas.Bool.{true≢false}
use Rattle.ps_frame.specs.declared.expr.Operator.{Operator}
use Rattle.ps_frame.specs.declared.expr.Operator.TheVariants as op
use Rattle.ps_frame.specs.declared.value.DataType.{DataType}
use Rattle.ps_frame.specs.declared.value.DataType.TheVariants as kind
use Rattle.text_laws.proofs.Parentheses.{closing, integer_forms}
use Rattle.text_queries.specs.Grammar.{IsExpr, is_name, is_integer, is_text, is_truth, is_null, is_call, is_len, is_enclosed, is_operation, IsName, IsInteger, operator_token, is_reserved, function_word, kind_word, truth_word}
use Rattle.text_queries.specs.Queries.{Expr}
use Rattle.text_queries.specs.declared.words.TextFn.{TextFn}
use Rattle.text_queries.specs.declared.words.TextFn.TheVariants as fun
use Rattle.text_tokens.specs.declared.token.Sign.TheVariants as sign
use Rattle.text_tokens.specs.declared.token.Token.{Token}
use Rattle.text_tokens.specs.declared.token.Token.TheVariants as token

-- the reserved words that stand in expressions
abbrev pub is_value_word : List ℕ → Bool
is_value_word word =
    bytes_eq word (codes "or") || (bytes_eq word (codes "and") || (bytes_eq word (codes "true") || (bytes_eq word (codes "false") || bytes_eq word (codes "null"))))

-- whether a token may stand in an expression
abbrev pub is_inner : Token → Bool
is_inner (token.Word word) = not (is_reserved word) || is_value_word word
is_inner (token.Sign sign.Comma) = false
is_inner (token.Sign sign.Bar) = false
is_inner _ = true

abbrev pub Inner : List Token → Type 0
Inner ts = AllByRecursion (λ t. is_inner t ≡ true) ts

inner-append : (xs ys : List Token) → Inner xs → Inner ys → Inner (xs ++ ys)
inner-append [] ys all others = others
inner-append (x ∷ xs) ys all others = (all.0, inner-append xs ys all.1 others)

pub name_inner : (t : Token) (n : List ℕ) → IsName t n → is_inner t ≡ true
name_inner (token.Word word) n h = ap (λ b. not b || is_value_word word) h.1
name_inner (token.Name name) n h = refl
name_inner _ n h = absurd h

truth_inner : (b : Bool) → is_inner (token.Word (truth_word b)) ≡ true
truth_inner true = refl
truth_inner false = refl

kind_inner : (k : DataType) → is_inner (token.Word (kind_word k)) ≡ true
kind_inner kind.Boolean = refl
kind_inner kind.Int64 = refl
kind_inner kind.IdxSize = refl
kind_inner kind.String = refl

function_inner : (f : TextFn) → is_inner (token.Word (function_word f)) ≡ true
function_inner fun.Min = refl
function_inner fun.Max = refl
function_inner fun.First = refl
function_inner fun.Last = refl
function_inner fun.Sum = refl
function_inner fun.NUnique = refl
function_inner fun.Count = refl
function_inner fun.Not = refl
function_inner fun.IsNull = refl
function_inner fun.IsNotNull = refl

operator_inner : (o : Operator) → is_inner (operator_token o) ≡ true
operator_inner op.Or = refl
operator_inner op.And = refl
operator_inner op.Eq = refl
operator_inner op.NotEq = refl
operator_inner op.Lt = refl
operator_inner op.LtEq = refl
operator_inner op.Gt = refl
operator_inner op.GtEq = refl
operator_inner op.Plus = refl
operator_inner op.Minus = refl
operator_inner op.Multiply = refl
operator_inner op.FloorDivide = refl
operator_inner op.Modulus = refl

pub integer_inner : (ts : List Token) (n : ℤ) → IsInteger ts n → Inner ts
integer_inner ts n h =
    ⊎_elim
    (λ (k : (digits : List ℕ) × (ts ≡ token.Digits digits ∷ [])). subst Inner (sym k.1) (refl, tt))
    (λ (k : (digits : List ℕ) × (ts ≡ token.Sign sign.Minus ∷ token.Digits digits ∷ [])). subst Inner (sym k.1) (refl, (refl, tt)))
    (integer_forms ts n h)

expr_inner : {opens least : ℕ} {ts : List Token} {e : Expr} → IsExpr opens least ts e → Inner ts
expr_inner (is_name {t = t} {n = n} h) = (name_inner t n h, tt)
expr_inner (is_integer {ts = ts} {n = n} h) = integer_inner ts n h
expr_inner is_text = (refl, tt)
expr_inner (is_truth {b = b}) = (truth_inner b, tt)
expr_inner (is_null {k = k}) = (refl, (kind_inner k, tt))
expr_inner (is_call {f = f} {ts = ts} h) = (function_inner f, (refl, inner-append ts (closing ∷ []) (expr_inner h) (refl, tt)))
expr_inner is_len = (refl, (refl, (refl, tt)))
expr_inner (is_enclosed {ts = ts} h) = (refl, inner-append ts (closing ∷ []) (expr_inner h) (refl, tt))
expr_inner (is_operation {o = o} {ls = ls} {rs = rs} at left right) = inner-append ls (operator_token o ∷ rs) (expr_inner left) (operator_inner o, expr_inner right)

-- none of the tokens is this one
abbrev pub Lacks : Token → List Token → Type 0
Lacks mark ts = AllByRecursion (λ t. t ≢ mark) ts

pub inner_lacks : (mark : Token) → is_inner mark ≡ false → (ts : List Token) → Inner ts → Lacks mark ts
inner_lacks mark outer [] all = tt
inner_lacks mark outer (t ∷ ts) all = ((λ e. true≢false (sym all.0 ∙ ap is_inner e ∙ outer)), inner_lacks mark outer ts all.1)

pub expr_lacks : (mark : Token) → is_inner mark ≡ false → {opens least : ℕ} (ts : List Token) {e : Expr} → IsExpr opens least ts e → Lacks mark ts
expr_lacks mark outer ts h = inner_lacks mark outer ts (expr_inner h)

pub lacks-append : (mark : Token) (xs ys : List Token) → Lacks mark xs → Lacks mark ys → Lacks mark (xs ++ ys)
lacks-append mark [] ys all others = others
lacks-append mark (x ∷ xs) ys all others = (all.0, lacks-append mark xs ys all.1 others)

-- tokens that lack a mark don't hold it
pub lacks_none : (mark : Token) (ts us vs : List Token) → Lacks mark ts → ts ≡ us ++ mark ∷ vs → ⊥
lacks_none mark [] [] vs lacks is = cc
lacks_none mark [] (u ∷ us) vs lacks is = cc
lacks_none mark (t ∷ ts) [] vs lacks is = let same : t ≡ mark = cc in lacks.0 same
lacks_none mark (t ∷ ts) (u ∷ us) vs lacks is = let rest : ts ≡ us ++ mark ∷ vs = cc in lacks_none mark ts us vs lacks.1 rest

-- nothing, or tokens that begin with the mark
abbrev pub Stops : Token → List Token → Type 0
Stops mark ts = (ts ≡ []) ⊎ ((more : List Token) × (ts ≡ mark ∷ more))

no_stop : (mark t : Token) (ts us : List Token) → t ≢ mark → us ≡ t ∷ ts → Stops mark us → ⊥
no_stop mark t ts us other is stops =
    ⊎_elim
    (λ (none : us ≡ []). let both : [] ≡ t ∷ ts = sym none ∙ is in cc)
    (λ (some : (more : List Token) × (us ≡ mark ∷ more)). let both : t ∷ ts ≡ mark ∷ some.0 = sym is ∙ some.1 in let same : t ≡ mark = cc in other same)
    stops

-- two pieces without the mark that stop alike are one piece
pub stops_once : (mark : Token) (xs ys us vs : List Token) → Lacks mark xs → Lacks mark ys → Stops mark us → Stops mark vs → xs ++ us ≡ ys ++ vs → (xs ≡ ys) × (us ≡ vs)
stops_once mark [] [] us vs own other stops others is = (refl, is)
stops_once mark [] (y ∷ ys) us vs own other stops others is = absurd (no_stop mark y (ys ++ vs) us other.0 is stops)
stops_once mark (x ∷ xs) [] us vs own other stops others is = absurd (no_stop mark x (xs ++ us) vs own.0 (sym is) others)
stops_once mark (x ∷ xs) (y ∷ ys) us vs own other stops others is =
    let head : x ≡ y = cc in
    let tail : xs ++ us ≡ ys ++ vs = cc in
    let rest = stops_once mark xs ys us vs own.1 other.1 stops others tail in
    ((λ i. head i ∷ rest.0 i), rest.1)
