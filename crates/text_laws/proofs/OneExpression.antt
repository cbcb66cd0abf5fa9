-- Tokens are one expression at most.
use Rattle.std.proofs.Common.{◌≡◌, ℕ, suc, ◌≤◌, ℤ, pos, neg_ℤ, Bool, true, false, List, [], ◌∷◌, ◌++◌, Option, Some, None, sym, refl, ap, ◌∙◌, subst, arith}
use Rattle.std.specs.Prelude.{if◌then◌else◌, codes}
use Rattle.std.specs.Str.{bytes_eq}
use Rattle.std.proofs.lemmas.Bool.{false≢true, true≢false, false_from_ne_true}
use Rattle.std.proofs.lemmas.List.{append_cancel_right}
use Rattle.std.proofs.lemmas.Slice.Eq.{bytes_eq-Decides}
use Rattle.ps_frame.specs.declared.expr.Operator.{Operator}
use Rattle.ps_frame.specs.declared.value.DataType.{DataType}
use Rattle.ps_frame.specs.declared.value.DataType.TheVariants as kind
use Rattle.text_laws.proofs.Operators.{in_left, itself, in_right, beside, binds_least, ended_behind, even_behind, no_operation}
use Rattle.text_laws.proofs.Parentheses.{opening, closing, ends, left_at_least, whole}
use Rattle.text_queries.specs.Grammar.{IsExpr, is_name, is_integer, is_text, is_truth, is_null, is_call, is_len, is_enclosed, is_operation, IsName, IsInteger, binding, left_binding, operator_token, is_reserved, function_word, kind_word, number, truth_word}
use Rattle.text_queries.specs.Queries.{Expr, Name, Int, Text, Truth, Null, Call, Len, Binary}
use Rattle.text_queries.specs.declared.words.TextFn.{TextFn}
use Rattle.text_queries.specs.declared.words.TextFn.TheVariants as fun
use Rattle.text_tokens.specs.declared.token.Sign.TheVariants as sign
use Rattle.text_tokens.specs.declared.token.Token.{Token}
use Rattle.text_tokens.specs.declared.token.Token.TheVariants as token

-- the function that a word names, where it names one
abbrev function_in : List ℕ → TextFn
function_in word =
    if bytes_eq word (codes "min") then fun.Min
    else (if bytes_eq word (codes "max") then fun.Max
    else (if bytes_eq word (codes "first") then fun.First
    else (if bytes_eq word (codes "last") then fun.Last
    else (if bytes_eq word (codes "sum") then fun.Sum
    else (if bytes_eq word (codes "n_unique") then fun.NUnique
    else (if bytes_eq word (codes "count") then fun.Count
    else (if bytes_eq word (codes "not") then fun.Not
    else (if bytes_eq word (codes "is_null") then fun.IsNull
    else fun.IsNotNull))))))))

function_back : (f : TextFn) → function_in (function_word f) ≡ f
function_back fun.Min = refl
function_back fun.Max = refl
function_back fun.First = refl
function_back fun.Last = refl
function_back fun.Sum = refl
function_back fun.NUnique = refl
function_back fun.Count = refl
function_back fun.Not = refl
function_back fun.IsNull = refl
function_back fun.IsNotNull = refl

function_once : (f g : TextFn) → function_word f ≡ function_word g → f ≡ g
function_once f g e = sym (function_back f) ∙ ap function_in e ∙ function_back g

abbrev kind_in : List ℕ → DataType
kind_in word =
    if bytes_eq word (codes "bool") then kind.Boolean
    else (if bytes_eq word (codes "int") then kind.Int64
    else (if bytes_eq word (codes "idx") then kind.IdxSize
    else kind.String))

kind_back : (k : DataType) → kind_in (kind_word k) ≡ k
kind_back kind.Boolean = refl
kind_back kind.Int64 = refl
kind_back kind.IdxSize = refl
kind_back kind.String = refl

-- the leaf that tokens are, where they are one
abbrev leaf_of : List Token → Option Expr
leaf_of (token.Word word ∷ []) = Some (if bytes_eq word (codes "true") then Truth true else (if bytes_eq word (codes "false") then Truth false else Name word))
leaf_of (token.Name name ∷ []) = Some (Name name)
leaf_of (token.Text text ∷ []) = Some (Text text)
leaf_of (token.Digits digits ∷ []) = Some (Int (pos (number digits)))
leaf_of (token.Sign sign.Minus ∷ token.Digits digits ∷ []) = Some (Int (neg_ℤ (pos (number digits))))
leaf_of (token.Word word ∷ token.Word named ∷ []) = Some (Null (kind_in named))
leaf_of _ = None

-- whether tokens begin as a leaf, as a call, or with a parenthesis
abbrev group : List Token → ℕ
group (token.Sign sign.Open ∷ ts) = 2
group (token.Word word ∷ token.Sign sign.Open ∷ ts) = 1
group _ = 0

-- what an expression is by its tokens; all but an operation may stand at every level
data Form : List Token → Expr → Type 0 where
  leaf : {opens : ℕ} {ts : List Token} {e : Expr} → IsExpr opens 6 ts e → group ts ≡ 0 → leaf_of ts ≡ Some e → Form ts e
  lone : {opens : ℕ} {ts : List Token} {e : Expr} → IsExpr opens 6 ts e → ts ≡ token.Word (codes "len") ∷ opening ∷ closing ∷ [] → e ≡ Len → Form ts e
  called : {opens fewer : ℕ} {ts : List Token} {e : Expr} → IsExpr opens 6 ts e → (f : TextFn) (inner : List Token) (x : Expr) → ts ≡ token.Word (function_word f) ∷ opening ∷ inner ++ closing ∷ [] → e ≡ Call f x → IsExpr fewer 1 inner x → Form ts e
  enclosed : {opens fewer : ℕ} {ts : List Token} {e : Expr} → IsExpr opens 6 ts e → (inner : List Token) → ts ≡ opening ∷ inner ++ closing ∷ [] → IsExpr fewer 1 inner e → Form ts e
  operated : {opens : ℕ} {ts : List Token} {e : Expr} → (o : Operator) (ls rs : List Token) (l r : Expr) → ts ≡ ls ++ operator_token o ∷ rs → e ≡ Binary o l r
      → IsExpr opens (left_binding o) ls l → IsExpr opens (suc (binding o)) rs r → Form ts e

-- a reserved word is no name
not_word : (word other : List ℕ) → is_reserved other ≡ true → is_reserved word ≡ false → bytes_eq word other ≡ false
not_word word other reserved free = false_from_ne_true (bytes_eq word other) (λ e. true≢false (sym reserved ∙ ap is_reserved (sym ((bytes_eq-Decides word other).0 e)) ∙ free))

name_leaf : (t : Token) (n : List ℕ) → IsName t n → (group (t ∷ []) ≡ 0) × (leaf_of (t ∷ []) ≡ Some (Name n))
name_leaf (token.Word word) n h =
    let no_true : bytes_eq word (codes "true") ≡ false = not_word word (codes "true") refl h.1 in
    let no_false : bytes_eq word (codes "false") ≡ false = not_word word (codes "false") refl h.1 in
    (refl, λ i. Some (if no_true i then Truth true else (if no_false i then Truth false else Name (h.0 i))))
name_leaf (token.Name name) n h = (refl, ap (λ m. Some (Name m)) h)
name_leaf _ n h = absurd h

integer_leaf : (ts : List Token) (n : ℤ) → IsInteger ts n → (group ts ≡ 0) × (leaf_of ts ≡ Some (Int n))
integer_leaf (token.Digits digits ∷ []) n h = (refl, ap (λ m. Some (Int m)) (sym h.1))
integer_leaf (token.Sign sign.Minus ∷ token.Digits digits ∷ []) n h = (refl, ap (λ m. Some (Int m)) (sym h.1))
integer_leaf _ n h = absurd h

truth_leaf : (b : Bool) → leaf_of (token.Word (truth_word b) ∷ []) ≡ Some (Truth b)
truth_leaf true = refl
truth_leaf false = refl

form_of : {opens least : ℕ} {ts : List Token} {e : Expr} → IsExpr opens least ts e → Form ts e
form_of (is_name {opens = opens} {t = t} {n = n} h) = leaf (is_name {opens = opens} h) (name_leaf t n h).0 (name_leaf t n h).1
form_of (is_integer {opens = opens} {ts = ts} {n = n} h) = leaf (is_integer {opens = opens} h) (integer_leaf ts n h).0 (integer_leaf ts n h).1
form_of (is_text {opens = opens}) = leaf (is_text {opens = opens}) refl refl
form_of (is_truth {opens = opens} {b = b}) = leaf (is_truth {opens = opens}) refl (truth_leaf b)
form_of (is_null {opens = opens} {k = k}) = leaf (is_null {opens = opens}) refl (ap (λ l. Some (Null l)) (kind_back k))
form_of (is_call {f = f} {ts = ts} {e = e} h) = called (is_call h) f ts e refl refl h
form_of (is_len {opens = opens}) = lone (is_len {opens = opens}) refl refl
form_of (is_enclosed {ts = ts} h) = enclosed (is_enclosed h) ts refl h
form_of (is_operation {o = o} {ls = ls} {rs = rs} {l = l} {r = r} at left right) = operated o ls rs l r refl refl left right

-- what the tokens are is this expression alone
abbrev Only : List Token → Expr → Type 0
Only ts e = (opens least : ℕ) (f : Expr) → IsExpr opens least ts f → e ≡ f

some_inner : (inner : List Token) → ends inner ≡ true → closing ∷ [] ≡ inner ++ closing ∷ [] → ⊥
some_inner [] ended is = false≢true ended
some_inner (t ∷ []) ended is = let none : [] ≡ closing ∷ [] = cc in cc
some_inner (t ∷ u ∷ ts) ended is = let none : [] ≡ u ∷ (ts ++ closing ∷ []) = cc in cc

leaf_only : {opens : ℕ} {ts : List Token} {e f : Expr} → IsExpr opens 6 ts e → group ts ≡ 0 → leaf_of ts ≡ Some e → Form ts f → e ≡ f
leaf_only {e = e} {f = f} own begins is (leaf other other_begins other_is) = let both : Some e ≡ Some f = sym is ∙ other_is in cc
leaf_only own begins is (lone other other_is same) = absurd (omega (arith, begins, ap group other_is))
leaf_only own begins is (called other g inner x other_is same operand) = absurd (omega (arith, begins, ap group other_is))
leaf_only own begins is (enclosed other inner other_is operand) = absurd (omega (arith, begins, ap group other_is))
leaf_only own begins is (operated o ls rs l r other_is same left right) = absurd (no_operation own o rs other_is left)

lone_only : {opens : ℕ} {f : Expr} → IsExpr opens 6 (token.Word (codes "len") ∷ opening ∷ closing ∷ []) Len → Form (token.Word (codes "len") ∷ opening ∷ closing ∷ []) f → Len ≡ f
lone_only own (leaf other begins is) = absurd (omega (arith, begins))
lone_only own (lone other is same) = sym same
lone_only own (called other g inner x is same operand) = let rest : closing ∷ [] ≡ inner ++ closing ∷ [] = cc in absurd (some_inner inner (whole operand).ended rest)
lone_only own (enclosed other inner is operand) = absurd (omega (arith, ap group is))
lone_only own (operated o ls rs l r is same left right) = absurd (no_operation own o rs is left)

called_only : {opens : ℕ} (f : TextFn) (inner : List Token) (x : Expr) {g : Expr} → Only inner x → ends inner ≡ true → IsExpr opens 6 (token.Word (function_word f) ∷ opening ∷ inner ++ closing ∷ []) (Call f x)
    → Form (token.Word (function_word f) ∷ opening ∷ inner ++ closing ∷ []) g → Call f x ≡ g
called_only f inner x only ended own (leaf other begins is) = absurd (omega (arith, begins))
called_only f inner x only ended own (lone other is same) = let rest : closing ∷ [] ≡ inner ++ closing ∷ [] = cc in absurd (some_inner inner ended rest)
called_only f inner x only ended own (called {fewer = fewer} other h within y is same operand) =
    let words : function_word f ≡ function_word h = cc in
    let rest : inner ++ closing ∷ [] ≡ within ++ closing ∷ [] = cc in
    let tokens : inner ≡ within = append_cancel_right inner within (closing ∷ []) rest in
    let operands : x ≡ y = only fewer 1 y (subst (λ ts. IsExpr fewer 1 ts y) (sym tokens) operand) in
    (λ i. Call (function_once f h words i) (operands i)) ∙ sym same
called_only f inner x only ended own (enclosed other within is operand) = absurd (omega (arith, ap group is))
called_only f inner x only ended own (operated o ls rs l r is same left right) = absurd (no_operation own o rs is left)

enclosed_only : {opens : ℕ} (inner : List Token) (x : Expr) {g : Expr} → Only inner x → IsExpr opens 6 (opening ∷ inner ++ closing ∷ []) x → Form (opening ∷ inner ++ closing ∷ []) g → x ≡ g
enclosed_only inner x only own (leaf other begins is) = absurd (omega (arith, begins))
enclosed_only inner x only own (lone other is same) = absurd (omega (arith, ap group is))
enclosed_only inner x only own (called other h within y is same operand) = absurd (omega (arith, ap group is))
enclosed_only inner x {g = g} only own (enclosed {fewer = fewer} other within is operand) =
    let rest : inner ++ closing ∷ [] ≡ within ++ closing ∷ [] = cc in
    let tokens : inner ≡ within = append_cancel_right inner within (closing ∷ []) rest in
    only fewer 1 g (subst (λ ts. IsExpr fewer 1 ts g) (sym tokens) operand)
enclosed_only inner x only own (operated o ls rs l r is same left right) = absurd (no_operation own o rs is left)

operation_only : {opens : ℕ} (o : Operator) (ls rs : List Token) (l r : Expr) {g : Expr} → Only ls l → Only rs r → IsExpr opens (left_binding o) ls l → IsExpr opens (suc (binding o)) rs r
    → Form (ls ++ operator_token o ∷ rs) g → Binary o l r ≡ g
operation_only o ls rs l r left_only right_only left right (leaf other begins is) = absurd (no_operation other o rs refl left)
operation_only o ls rs l r left_only right_only left right (lone other is same) = absurd (no_operation other o rs refl left)
operation_only o ls rs l r left_only right_only left right (called other h within y is same operand) = absurd (no_operation other o rs refl left)
operation_only o ls rs l r left_only right_only left right (enclosed other within is operand) = absurd (no_operation other o rs refl left)
operation_only o ls rs l r left_only right_only left right (operated {opens = opens} p us vs m n is same own_left own_right) =
    elim (beside ls rs us vs o p is) [
      | in_left ms front back ↦
          let low : left_binding o ≤ binding p = binds_least left us ms p front (whole own_left).balanced.even (whole own_left).ended in
          let high : suc (binding p) ≤ binding o = binds_least own_right ms rs o back (even_behind us ms ls p front (whole own_left).balanced (whole left).balanced.even) (ended_behind us ms ls p front (whole left).ended) in
          absurd (omega (arith, low, high, left_at_least o))
      | itself front back once ↦
          let lefts : l ≡ m = left_only opens (left_binding p) m (subst (λ ts. IsExpr opens (left_binding p) ts m) (sym front) own_left) in
          let rights : r ≡ n = right_only opens (suc (binding p)) n (subst (λ ts. IsExpr opens (suc (binding p)) ts n) (sym back) own_right) in
          (λ i. Binary (once i) (lefts i) (rights i)) ∙ sym same
      | in_right ms front back ↦
          let low : left_binding p ≤ binding o = binds_least own_left ls ms o front (whole left).balanced.even (whole left).ended in
          let high : suc (binding o) ≤ binding p = binds_least right ms vs p back (even_behind ls ms us o front (whole left).balanced (whole own_left).balanced.even) (ended_behind ls ms us o front (whole own_left).ended) in
          absurd (omega (arith, low, high, left_at_least p))
    ]

pub one_expression : {opens least : ℕ} {ts : List Token} {e : Expr} → IsExpr opens least ts e → Only ts e
one_expression (is_name {opens = opens} {t = t} {n = n} h) fewer finer f other = leaf_only (is_name {opens = opens} h) (name_leaf t n h).0 (name_leaf t n h).1 (form_of other)
one_expression (is_integer {opens = opens} {ts = ts} {n = n} h) fewer finer f other = leaf_only (is_integer {opens = opens} h) (integer_leaf ts n h).0 (integer_leaf ts n h).1 (form_of other)
one_expression (is_text {opens = opens}) fewer finer f other = leaf_only (is_text {opens = opens}) refl refl (form_of other)
one_expression (is_truth {opens = opens} {b = b}) fewer finer f other = leaf_only (is_truth {opens = opens}) refl (truth_leaf b) (form_of other)
one_expression (is_null {opens = opens} {k = k}) fewer finer f other = leaf_only (is_null {opens = opens}) refl (ap (λ l. Some (Null l)) (kind_back k)) (form_of other)
one_expression (is_call {f = g} {ts = ts} {e = x} h) fewer finer f other = called_only g ts x (one_expression h) (whole h).ended (is_call h) (form_of other)
one_expression (is_len {opens = opens}) fewer finer f other = lone_only (is_len {opens = opens}) (form_of other)
one_expression (is_enclosed {ts = ts} {e = x} h) fewer finer f other = enclosed_only ts x (one_expression h) (is_enclosed h) (form_of other)
one_expression (is_operation {o = o} {ls = ls} {rs = rs} {l = l} {r = r} at left right) fewer finer f other = operation_only o ls rs l r (one_expression left) (one_expression right) left right (form_of other)
