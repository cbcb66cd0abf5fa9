-- What an expression without operators outside of parentheses is, by the tokens that it begins with.
use Rattle.std.proofs.Common.{◌≡◌, ℕ, ◌≤◌, false, List, [], ◌∷◌, ◌++◌, length, sym, refl, subst, arith}
use Rattle.std.specs.Prelude.{◌≢◌, codes}
use Rattle.std.specs.Str.{bytes_eq}
use Rattle.std.proofs.lemmas.Bool.{false≢true}
use Rattle.text_queries.specs.Grammar.{IsExpr, IsInteger, IsName, is_name, is_integer, is_text, is_truth, is_null, is_call, is_len, is_enclosed, is_operation, function_word, kind_word, truth_word}
use Rattle.text_queries.specs.Queries.{Expr, Call, Len, expr_depth}
use Rattle.text_queries.specs.declared.words.TextFn.{TextFn}
use Rattle.text_queries.specs.declared.words.TextFn.TheVariants as fun
use Rattle.text_reading.specs.Reading.{IsCall, IsClosed, IsLeaf}
use Rattle.text_reading.proofs.Chains.{binding_below}
use Rattle.text_reading.proofs.LeafForms.{at_front, integer_some, integer_starts, texts_differ}
use Rattle.text_tokens.specs.declared.token.Sign.TheVariants as sign
use Rattle.text_tokens.specs.declared.token.Token.{Token}
use Rattle.text_tokens.specs.declared.token.Token.TheVariants as token

abbrev opening : Token
opening = token.Sign sign.Open

abbrev closing : Token
closing = token.Sign sign.Close

-- behind a parenthesis that opens stands an expression with the one that closes it
pub open_of : {opens least : ℕ} {ts : List Token} {e : Expr} (others rest : List Token) → IsExpr opens least ts e → 6 ≤ least → token.Sign sign.Open ∷ others ≡ ts ++ rest → (more : List Token) × (others ≡ more ++ rest) × IsClosed opens more e
open_of others rest (is_name {t = t} {n = n} h) high is = absurd (let same : t ≡ opening = cc in subst (λ u. IsName u n) same h)
open_of others rest (is_integer {ts = ts} {n = n} h) high is =
    let f = at_front opening others ts rest is (integer_some ts n h) in
    absurd (false≢true (integer_starts opening f.more n (subst (λ us. IsInteger us n) f.front_is h)))
open_of others rest (is_text {t = t}) high is = absurd (let other : opening ≡ token.Text t = cc in cc)
open_of others rest (is_truth {b = b}) high is = absurd (let other : opening ≡ token.Word (truth_word b) = cc in cc)
open_of others rest (is_null {k = k}) high is = absurd (let other : opening ≡ token.Word (codes "null") = cc in cc)
open_of others rest (is_call {f = f} h) high is = absurd (let other : opening ≡ token.Word (function_word f) = cc in cc)
open_of others rest is_len high is = absurd (let other : opening ≡ token.Word (codes "len") = cc in cc)
open_of others rest (is_enclosed {opens = opens} {ts = ts} h) high is =
    let same : others ≡ (ts ++ closing ∷ []) ++ rest = cc in
    (ts ++ closing ∷ [], same, (opens, ts, refl, refl, h))
open_of others rest (is_operation {o = o} at left right) high is = absurd (omega (arith, binding_below o))

-- where a word and a parenthesis begin the tokens, and no parenthesis stands behind the expression, both are the expression's
pub call_of : (word : List ℕ) (others ts rest : List Token) → token.Word word ∷ token.Sign sign.Open ∷ others ≡ ts ++ rest → 1 ≤ length ts → ((behind : List Token) → rest ≢ token.Sign sign.Open ∷ behind)
    → (more : List Token) × (ts ≡ token.Word word ∷ token.Sign sign.Open ∷ more) × (others ≡ more ++ rest)
call_of word others [] rest is some none = absurd (omega arith)
call_of word others (t ∷ []) rest is some none = absurd (none others (let same : rest ≡ opening ∷ others = cc in same))
call_of word others (t ∷ u ∷ ts) rest is some none =
    let first : t ≡ token.Word word = cc in
    let second : u ≡ opening = cc in
    let same : others ≡ ts ++ rest = cc in
    (ts, (λ i. first i ∷ second i ∷ ts), same)

-- what a call is, by its word
pub data Called (opens : ℕ) (word : List ℕ) (ts : List Token) (e : Expr) : Type 0 where
  function : (f : TextFn) (operand : Expr) → word ≡ function_word f → e ≡ Call f operand → IsClosed opens ts operand → Called opens word ts e
  rows : word ≡ codes "len" → ts ≡ closing ∷ [] → e ≡ Len → 1 ≤ opens → Called opens word ts e

called_of : {opens least : ℕ} {all : List Token} {e : Expr} (word : List ℕ) (ts : List Token) → IsExpr opens least all e → 6 ≤ least → all ≡ token.Word word ∷ opening ∷ ts → Called opens word ts e
called_of word ts (is_name h) high is = absurd (let other : [] ≡ opening ∷ ts = cc in cc)
called_of word ts (is_integer {ts = all} {n = n} h) high is = absurd (false≢true (integer_starts (token.Word word) (opening ∷ ts) n (subst (λ us. IsInteger us n) is h)))
called_of word ts is_text high is = absurd (let other : [] ≡ opening ∷ ts = cc in cc)
called_of word ts is_truth high is = absurd (let other : [] ≡ opening ∷ ts = cc in cc)
called_of word ts (is_null {k = k}) high is = absurd (let other : token.Word (kind_word k) ≡ opening = cc in cc)
called_of word ts (is_call {opens = opens} {f = f} {ts = us} {e = e} h) high is =
    let first : token.Word (function_word f) ≡ token.Word word = cc in
    let text : function_word f ≡ word = cc in
    let same : us ++ closing ∷ [] ≡ ts = cc in
    function f e (sym text) refl (opens, us, refl, sym same, h)
called_of word ts is_len high is =
    let first : token.Word (codes "len") ≡ token.Word word = cc in
    let text : codes "len" ≡ word = cc in
    let same : closing ∷ [] ≡ ts = cc in
    rows (sym text) (sym same) refl (omega arith)
called_of word ts (is_enclosed h) high is = absurd (let other : opening ≡ token.Word word = cc in cc)
called_of word ts (is_operation {o = o} at left right) high is = absurd (omega (arith, binding_below o))

pub called : (opens : ℕ) (word : List ℕ) (ts : List Token) (e : Expr) → IsCall opens word ts e → Called opens word ts e
called opens word ts e h = called_of word ts h (omega arith) refl

-- no function has another's word, and none is called `len`
pub no_len : (f : TextFn) → function_word f ≢ codes "len"
no_len f e = texts_differ (function_word f) (codes "len") (at f) e
  where
    at : (f : TextFn) → bytes_eq (function_word f) (codes "len") ≡ false
    at fun.Min = refl
    at fun.Max = refl
    at fun.First = refl
    at fun.Last = refl
    at fun.Sum = refl
    at fun.NUnique = refl
    at fun.Count = refl
    at fun.Not = refl
    at fun.IsNull = refl
    at fun.IsNotNull = refl

-- else it is a leaf
pub leaf_of : {opens least : ℕ} {ts : List Token} {e : Expr} (tokens rest : List Token) → IsExpr opens least ts e → 6 ≤ least → tokens ≡ ts ++ rest → ((others : List Token) → tokens ≢ token.Sign sign.Open ∷ others) → ((word : List ℕ) (others : List Token) → tokens ≢ token.Word word ∷ token.Sign sign.Open ∷ others) → IsExpr 0 least ts e
leaf_of tokens rest (is_name h) high is no_open no_call = is_name h
leaf_of tokens rest (is_integer h) high is no_open no_call = is_integer h
leaf_of tokens rest is_text high is no_open no_call = is_text
leaf_of tokens rest is_truth high is no_open no_call = is_truth
leaf_of tokens rest is_null high is no_open no_call = is_null
leaf_of tokens rest (is_call {f = f} {ts = ts} h) high is no_open no_call = absurd (no_call (function_word f) ((ts ++ closing ∷ []) ++ rest) is)
leaf_of tokens rest is_len high is no_open no_call = absurd (no_call (codes "len") (closing ∷ rest) is)
leaf_of tokens rest (is_enclosed {ts = ts} h) high is no_open no_call = absurd (no_open ((ts ++ closing ∷ []) ++ rest) is)
leaf_of tokens rest (is_operation {o = o} at left right) high is no_open no_call = absurd (omega (arith, binding_below o))

-- a leaf is 1 deep
leaf_depth_of : {opens least : ℕ} {ts : List Token} {e : Expr} → IsExpr opens least ts e → opens ≡ 0 → 6 ≤ least → expr_depth e ≡ 1
leaf_depth_of (is_name h) none high = refl
leaf_depth_of (is_integer h) none high = refl
leaf_depth_of is_text none high = refl
leaf_depth_of is_truth none high = refl
leaf_depth_of is_null none high = refl
leaf_depth_of (is_call h) none high = absurd (omega arith)
leaf_depth_of is_len none high = refl
leaf_depth_of (is_enclosed h) none high = absurd (omega arith)
leaf_depth_of (is_operation {o = o} at left right) none high = absurd (omega (arith, binding_below o))

pub leaf_depth : {ts : List Token} {e : Expr} → IsLeaf ts e → expr_depth e ≡ 1
leaf_depth h = leaf_depth_of h refl (omega arith)
