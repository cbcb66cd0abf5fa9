-- Calls, parentheses and leaves: what their readers answer.
use Rattle.std.proofs.Common.{◌≡◌, ℕ, suc, ◌-◌, ◌<◌, ◌≤◌, cond, List, [], ◌∷◌, ◌++◌, sym, refl, ap, ◌∙◌, subst, arith, append_assoc}
use Rattle.std.specs.Prelude.{◌≢◌, codes}
use Rattle.std.specs.Str.{bytes_eq}
use Rattle.ps_frame.specs.declared.expr.Operator.{Operator}
use Rattle.text_queries.specs.Grammar.{IsExpr, function_word, is_call, is_enclosed, is_len}
use Rattle.text_queries.specs.Queries.{Expr, Binary, Call, Len, expr_depth}
use Rattle.text_queries.specs.declared.words.TextFn.{TextFn}
use Rattle.text_queries.specs.declared.words.TextFn.TheVariants as fun
use Rattle.text_reading.specs.Reading.{Ends, IsCall, IsClosed, IsLeaf, IsLenOf, IsRefusal, IsShallow}
use Rattle.text_reading.proofs.Chains.{Chain, chain_of, ends_finer, goes_deeper, is_memory}
use Rattle.text_reading.proofs.ChainSteps.{Operand}
use Rattle.text_reading.proofs.LeafForms.{expr_some, of_leaf}
use Rattle.text_reading.proofs.Primaries.{Called, call_of, called, function, leaf_depth, leaf_of, no_len, open_of, rows}
use Rattle.text_tokens.specs.declared.error.TextError.{TextError}
use Rattle.text_tokens.specs.declared.error.TextError.TheVariants as refusal
use Rattle.text_tokens.specs.declared.token.Sign.TheVariants as sign
use Rattle.text_tokens.specs.declared.token.Token.{Token}
use Rattle.text_tokens.specs.declared.token.Token.TheVariants as token

-- no two functions have one word
abbrev function_in : List ℕ → TextFn
function_in word =
    cond (bytes_eq word (codes "min")) fun.Min
    (cond (bytes_eq word (codes "max")) fun.Max
    (cond (bytes_eq word (codes "first")) fun.First
    (cond (bytes_eq word (codes "last")) fun.Last
    (cond (bytes_eq word (codes "sum")) fun.Sum
    (cond (bytes_eq word (codes "n_unique")) fun.NUnique
    (cond (bytes_eq word (codes "count")) fun.Count
    (cond (bytes_eq word (codes "not")) fun.Not
    (cond (bytes_eq word (codes "is_null")) fun.IsNull fun.IsNotNull))))))))

function_back : (f : TextFn) → function_in (function_word f) ≡ f
function_back fun.Min = refl
function_back fun.Max = refl
function_back fun.First = refl
function_back fun.Last = refl
function_back fun.Sum = refl
function_back fun.NUnique = refl
function_back fun.Count = refl
function_back fun.Not = refl
function_back fun.IsNull = refl
function_back fun.IsNotNull = refl

function_once : (f g : TextFn) → function_word f ≡ function_word g → f ≡ g
function_once f g e = sym (function_back f) ∙ ap function_in e ∙ function_back g

-- a call of a function
closed_call : (opens : ℕ) (f : TextFn) (front : List Token) (operand : Expr) → IsClosed opens front operand → IsExpr opens 6 (token.Word (function_word f) ∷ token.Sign sign.Open ∷ front) (Call f operand)
closed_call opens f front operand (fewer, inner, opens_are, front_is, h) =
    subst (λ n. IsExpr n 6 (token.Word (function_word f) ∷ token.Sign sign.Open ∷ front) (Call f operand)) (sym opens_are)
    (subst (λ ts. IsExpr (suc fewer) 6 (token.Word (function_word f) ∷ token.Sign sign.Open ∷ ts) (Call f operand)) (sym front_is) (is_call h))

pub call_found : (opens : ℕ) (word text : List ℕ) (f : TextFn) (tokens rest : List Token) (operand made : Expr) → text ≡ word → text ≡ function_word f → ((front : List Token) × (tokens ≡ front ++ rest) × IsShallow (IsClosed opens) front operand) → made ≡ Call f operand → expr_depth made ≤ 200
    → (front : List Token) × (tokens ≡ front ++ rest) × IsShallow (IsCall opens word) front made
call_found opens word text f tokens rest operand made same spelled found made_is low = (
  found.0,
  found.1,
  (
    subst (λ e. IsCall opens word found.0 e) (sym made_is)
        (subst (λ w. IsExpr opens 6 (token.Word w ∷ token.Sign sign.Open ∷ found.0) (Call f operand)) (sym spelled ∙ same) (closed_call opens f found.0 operand found.2.0)),
    low,
  ),
)

-- a reading of a call is one of its operand
pub call_part : (opens : ℕ) (word text : List ℕ) (f : TextFn) (front : List Token) (part : Expr) → text ≡ word → text ≡ function_word f → IsShallow (IsCall opens word) front part → (operand : Expr) × (Call f operand ≡ part) × IsShallow (IsClosed opens) front operand
call_part opens word text f front part same spelled h = of (called opens word front part h.0)
  where
    of : Called opens word front part → (operand : Expr) × (Call f operand ≡ part) × IsShallow (IsClosed opens) front operand
    of (function g operand word_is part_is closed) =
        let f_is : f ≡ g = function_once f g (sym spelled ∙ same ∙ word_is) in
        let low : expr_depth operand ≤ 200 = omega (arith, h.1, ap expr_depth part_is) in
        (operand, ap (λ k. Call k operand) f_is ∙ sym part_is, (closed, low))
    of (rows word_is front_is part_is some) = absurd (no_len f (sym spelled ∙ same ∙ word_is))

-- a call that is too deep is in no reading
pub call_memory : (error : TextError) (f : TextFn) (operand own part : Expr) → (error ≡ refusal.NoReading → 200 < expr_depth (Call f operand)) → IsRefusal error → operand ≡ own → Call f own ≡ part → expr_depth part ≤ 200 → error ≡ refusal.OutOfMemory
call_memory error f operand own part deep causes same part_is low =
    is_memory error (λ refused. let high = deep refused in absurd (omega (arith, high, ap expr_depth same, ap expr_depth part_is, low))) causes

-- the number of rows is a call
pub len_call : (opens : ℕ) (word : List ℕ) (front : List Token) (e : Expr) → IsLenOf opens word front e → IsShallow (IsCall opens word) front e
len_call opens word front e h =
    let opens_are : opens ≡ suc (opens - 1) = omega (arith, h.0) in (
      subst (λ x. IsCall opens word front x) (sym h.3)
          (subst (λ ts. IsExpr opens 6 (token.Word word ∷ token.Sign sign.Open ∷ ts) Len) (sym h.2)
          (subst (λ w. IsExpr opens 6 (token.Word w ∷ token.Sign sign.Open ∷ token.Sign sign.Close ∷ []) Len) (sym h.1)
          (subst (λ n. IsExpr n 6 (token.Word (codes "len") ∷ token.Sign sign.Open ∷ token.Sign sign.Close ∷ []) Len) (sym opens_are) is_len))),
      omega (arith, ap expr_depth h.3),
    )

-- an expression and the parenthesis that closes it
pub closed_found : (opens inner : ℕ) (tokens rest after : List Token) (e : Expr) → 1 ≤ opens → inner ≡ opens - 1 → ((front : List Token) × (tokens ≡ front ++ rest) × IsShallow (IsExpr inner 1) front e) → rest ≡ token.Sign sign.Close ∷ after
    → (front : List Token) × (tokens ≡ front ++ after) × IsShallow (IsClosed opens) front e
closed_found opens inner tokens rest after e some inner_is found goes =
    let opens_are : opens ≡ suc inner = omega (arith, some, inner_is) in (
      found.0 ++ token.Sign sign.Close ∷ [],
      found.1 ∙ ap (λ r. found.0 ++ r) goes ∙ sym (append_assoc found.0 (token.Sign sign.Close ∷ []) after),
      ((inner, found.0, opens_are, refl, found.2.0), found.2.1),
    )

pub closed_part : (opens inner : ℕ) (tokens front after : List Token) (part : Expr) → inner ≡ opens - 1 → tokens ≡ front ++ after → IsShallow (IsClosed opens) front part
    → (more : List Token) × (tokens ≡ more ++ token.Sign sign.Close ∷ after) × IsShallow (IsExpr inner 1) more part
closed_part opens inner tokens front after part inner_is is ((fewer, more, opens_are, front_is, h), low) =
    let same : fewer ≡ inner = omega (arith, inner_is, opens_are) in
    (more, is ∙ ap (λ f. f ++ after) front_is ∙ append_assoc more (token.Sign sign.Close ∷ []) after, (subst (λ n. IsExpr n 1 more part) same h, low))

pub close_once : (tokens rest after : List Token) → tokens ≡ token.Sign sign.Close ∷ rest → tokens ≡ token.Sign sign.Close ∷ after → rest ≡ after
close_once tokens rest after is same =
    let all : token.Sign sign.Close ∷ rest ≡ token.Sign sign.Close ∷ after = sym is ∙ same in
    let left : rest ≡ after = cc in left

-- an expression in parentheses
pub enclosed : (opens : ℕ) (front : List Token) (e : Expr) → IsShallow (IsClosed opens) front e → IsShallow (IsExpr opens 6) (token.Sign sign.Open ∷ front) e
enclosed opens front e ((fewer, inner, opens_are, front_is, h), low) = (
  subst (λ n. IsExpr n 6 (token.Sign sign.Open ∷ front) e) (sym opens_are) (subst (λ ts. IsExpr (suc fewer) 6 (token.Sign sign.Open ∷ ts) e) (sym front_is) (is_enclosed h)),
  low,
)

-- where the reader of the first operand refuses, it says why
pub first_operand : (Q : Type 0) (opens least finer : ℕ) (tokens : List Token) → finer ≡ suc least → ((front behind : List Token) (part : Expr) → tokens ≡ front ++ behind → IsShallow (IsExpr opens finer) front part → Ends finer behind → Q)
    → (front behind : List Token) (e : Expr) → tokens ≡ front ++ behind → IsShallow (IsExpr opens least) front e → Ends least behind → Q
first_operand Q opens least finer tokens next reads front behind e is h ends =
    let ch : Chain opens least front e = chain_of h.0 in
    let split : tokens ≡ ch.front ++ (ch.back ++ behind) = is ∙ ap (λ ts. ts ++ behind) ch.split ∙ append_assoc ch.front ch.back behind in
    let low : expr_depth ch.first ≤ 200 = omega (arith, goes_deeper ch.goes_on, h.1) in
    reads ch.front (ch.back ++ behind) ch.first split (subst (λ n. IsExpr opens n ch.front ch.first) (sym next) ch.is_first, low) (subst (λ n. Ends n (ch.back ++ behind)) (sym next) (ends_finer ch.goes_on ends))

-- an operator's tree that is too deep is in no reading
pub binary_memory : (error : TextError) (opens least finer : ℕ) (o : Operator) (left right : Expr) (behind rest : List Token) (e : Expr) (operand : Operand opens least finer o left behind rest e) → (error ≡ refusal.NoReading → 200 < expr_depth (Binary o left right)) → IsRefusal error → right ≡ operand.operand → error ≡ refusal.OutOfMemory
binary_memory error opens least finer o left right behind rest e operand deep causes same =
    is_memory error (λ refused. let high = deep refused in absurd (omega (arith, high, ap expr_depth same, operand.shallow))) causes

-- an expression without operators outside of parentheses, by what its reader met
pub enclosed_found : (opens : ℕ) (tokens rest after : List Token) (e : Expr) → tokens ≡ token.Sign sign.Open ∷ rest → ((front : List Token) × (rest ≡ front ++ after) × IsShallow (IsClosed opens) front e) → (front : List Token) × (tokens ≡ front ++ after) × IsShallow (IsExpr opens 6) front e
enclosed_found opens tokens rest after e begins found = (token.Sign sign.Open ∷ found.0, begins ∙ ap (λ r. token.Sign sign.Open ∷ r) found.1, enclosed opens found.0 e found.2)

pub enclosed_reads : (Q : Expr → List Token → Type 0) (opens : ℕ) (tokens others : List Token) → tokens ≡ token.Sign sign.Open ∷ others → ((front rest : List Token) (part : Expr) → others ≡ front ++ rest → IsShallow (IsClosed opens) front part → Q part rest)
    → (front rest : List Token) (part : Expr) → tokens ≡ front ++ rest → IsShallow (IsExpr opens 6) front part → Q part rest
enclosed_reads Q opens tokens others begins reads front rest part is h =
    let own = open_of others rest h.0 (omega arith) (sym begins ∙ is) in
    reads own.0 rest part own.1 (own.2, h.1)

pub called_reads : (Q : Expr → List Token → Type 0) (opens : ℕ) (tokens : List Token) (word : List ℕ) (others : List Token) → tokens ≡ token.Word word ∷ token.Sign sign.Open ∷ others → ((front rest : List Token) (part : Expr) → others ≡ front ++ rest → IsShallow (IsCall opens word) front part → Q part rest)
    → (front rest : List Token) (part : Expr) → tokens ≡ front ++ rest → IsShallow (IsExpr opens 6) front part → Ends 6 rest → Q part rest
called_reads Q opens tokens word others begins reads front rest part is h ends =
    let own = call_of word others front rest (sym begins ∙ is) (expr_some h.0) ends.no_call in
    reads own.0 rest part own.2 (subst (λ ts. IsExpr opens 6 ts part) own.1 h.0, h.1)

pub leaf_found : (opens : ℕ) (tokens rest : List Token) (leaf made : Expr) → made ≡ leaf → ((front : List Token) × (tokens ≡ front ++ rest) × IsLeaf front leaf) → (front : List Token) × (tokens ≡ front ++ rest) × IsShallow (IsExpr opens 6) front made
leaf_found opens tokens rest leaf made same found = (
  found.0,
  found.1,
  (subst (λ e. IsExpr opens 6 found.0 e) (sym same) (of_leaf opens found.2 refl (omega arith)), omega (arith, ap expr_depth same, leaf_depth found.2)),
)

pub leaf_reads : (Q : Expr → List Token → Type 0) (opens : ℕ) (tokens : List Token) → ((others : List Token) → tokens ≢ token.Sign sign.Open ∷ others) → ((word : List ℕ) (others : List Token) → tokens ≢ token.Word word ∷ token.Sign sign.Open ∷ others)
    → ((front rest : List Token) (part : Expr) → tokens ≡ front ++ rest → IsLeaf front part → Q part rest) → (front rest : List Token) (part : Expr) → tokens ≡ front ++ rest → IsShallow (IsExpr opens 6) front part → Q part rest
leaf_reads Q opens tokens no_open no_call reads front rest part is h = reads front rest part is (leaf_of tokens rest h.0 (omega arith) is no_open no_call)
