-- What expressions without operators outside of parentheses are, by their first tokens.
use Rattle.std.proofs.Common.{◌≡◌, ℕ, ◌≤◌, Bool, true, false, cond, List, [], ◌∷◌, ◌++◌, length, sym, refl, ap, ◌∙◌, subst, arith, length-append}
use Rattle.std.specs.Prelude.{◌≢◌, ℤ, codes}
use Rattle.std.specs.Str.{bytes_eq}
use Rattle.std.proofs.lemmas.Bool.{true≢false, false≢true}
use Rattle.std.proofs.lemmas.Slice.Eq.{bytes_eq-Decides}
use Rattle.ps_frame.specs.declared.value.DataType.{DataType}
use Rattle.ps_frame.specs.declared.value.DataType.TheVariants as kind
use Rattle.text_queries.specs.Grammar.{IsExpr, IsInteger, IsName, is_name, is_integer, is_text, is_truth, is_null, is_call, is_len, is_enclosed, is_operation, is_reserved, kind_word, operator_token, truth_word}
use Rattle.text_queries.specs.Queries.{Expr, Name, Int, Text, Truth, Null}
use Rattle.text_reading.specs.Reading.{Anything, IsLeaf}
use Rattle.text_reading.proofs.Chains.{binding_below}
use Rattle.text_tokens.specs.declared.token.Sign.TheVariants as sign
use Rattle.text_tokens.specs.declared.token.Token.{Token}
use Rattle.text_tokens.specs.declared.token.Token.TheVariants as token

-- the first token is the front's, and the others are the rest of the front and what stands behind it
pub record AtFront (first : Token) (others front rest : List Token) : Type 0 where
  pub more : List Token
  pub front_is : front ≡ first ∷ more
  pub others_are : others ≡ more ++ rest

pub at_front : (first : Token) (others front rest : List Token) → first ∷ others ≡ front ++ rest → 1 ≤ length front → AtFront first others front rest
at_front first others [] rest is some = absurd (omega arith)
at_front first others (t ∷ ts) rest is some = record {
  more = ts;
  front_is = let same : t ≡ first = cc in ap (λ u. u ∷ ts) same;
  others_are = let same : others ≡ ts ++ rest = cc in same;
}

-- texts of which the test says that they differ
pub texts_differ : (xs ys : List ℕ) → bytes_eq xs ys ≡ false → xs ≢ ys
texts_differ xs ys differ is = true≢false (sym ((bytes_eq-Decides xs ys).1 is) ∙ differ)

-- a number is digits, or a minus and digits
pub integer_some : (ts : List Token) (n : ℤ) → IsInteger ts n → 1 ≤ length ts
integer_some [] n h = absurd h
integer_some (t ∷ ts) n h = omega arith

-- the first token of a number is no word, no name, no text and no other sign than the minus
abbrev pub starts_integer : Token → Bool
starts_integer (token.Digits digits) = true
starts_integer (token.Sign sign.Minus) = true
starts_integer _ = false

pub integer_starts : (t : Token) (ts : List Token) (n : ℤ) → IsInteger (t ∷ ts) n → starts_integer t ≡ true
integer_starts (token.Digits digits) ts n h = refl
integer_starts (token.Sign sign.Minus) ts n h = refl
integer_starts _ ts n h = absurd h

-- an expression has a token
pub expr_some : {opens least : ℕ} {ts : List Token} {e : Expr} → IsExpr opens least ts e → 1 ≤ length ts
expr_some (is_name h) = omega arith
expr_some (is_integer {ts = ts} {n = n} h) = integer_some ts n h
expr_some is_text = omega arith
expr_some is_truth = omega arith
expr_some is_null = omega arith
expr_some (is_call h) = omega arith
expr_some is_len = omega arith
expr_some (is_enclosed h) = omega arith
expr_some (is_operation {o = o} {ls = ls} {rs = rs} at left right) = omega (arith, expr_some left, length-append ls (operator_token o ∷ rs))

-- a leaf may stand where parentheses may
pub of_leaf : {opens least : ℕ} {ts : List Token} {e : Expr} (more : ℕ) → IsExpr opens least ts e → opens ≡ 0 → 6 ≤ least → IsExpr more least ts e
of_leaf more (is_name h) none high = is_name h
of_leaf more (is_integer h) none high = is_integer h
of_leaf more is_text none high = is_text
of_leaf more is_truth none high = is_truth
of_leaf more is_null none high = is_null
of_leaf more (is_call h) none high = absurd (omega arith)
of_leaf more is_len none high = absurd (omega arith)
of_leaf more (is_enclosed h) none high = absurd (omega arith)
of_leaf more (is_operation {o = o} at left right) none high = absurd (omega (arith, binding_below o))

-- what a leaf that begins with a word is
pub data WordLeaf (word : List ℕ) (ts : List Token) (e : Expr) : Type 0 where
  named : is_reserved word ≡ false → ts ≡ [] → e ≡ Name word → WordLeaf word ts e
  truth : (b : Bool) → word ≡ truth_word b → ts ≡ [] → e ≡ Truth b → WordLeaf word ts e
  nothing : (k : DataType) → word ≡ codes "null" → ts ≡ token.Word (kind_word k) ∷ [] → e ≡ Null k → WordLeaf word ts e

word_leaf_of : {opens least : ℕ} {all : List Token} {e : Expr} (word : List ℕ) (ts : List Token) → IsExpr opens least all e → opens ≡ 0 → 6 ≤ least → all ≡ token.Word word ∷ ts → WordLeaf word ts e
word_leaf_of word ts (is_name {t = t} {n = n} h) none high is =
    let same : t ≡ token.Word word = cc in
    let end : [] ≡ ts = cc in
    let here : (word ≡ n) × (is_reserved word ≡ false) = subst (λ u. IsName u n) same h in
    named here.1 (sym end) (ap Name (sym here.0))
word_leaf_of word ts (is_integer {ts = all} {n = n} h) none high is =
    absurd (false≢true (integer_starts (token.Word word) ts n (subst (λ us. IsInteger us n) is h)))
word_leaf_of word ts (is_text {t = t}) none high is = absurd (let other : token.Text t ≡ token.Word word = cc in cc)
word_leaf_of word ts (is_truth {b = b}) none high is =
    let same : token.Word (truth_word b) ≡ token.Word word = cc in
    let text : truth_word b ≡ word = cc in
    let end : [] ≡ ts = cc in
    truth b (sym text) (sym end) refl
word_leaf_of word ts (is_null {k = k}) none high is =
    let same : token.Word (codes "null") ≡ token.Word word = cc in
    let text : codes "null" ≡ word = cc in
    let end : token.Word (kind_word k) ∷ [] ≡ ts = cc in
    nothing k (sym text) (sym end) refl
word_leaf_of word ts (is_call h) none high is = absurd (omega arith)
word_leaf_of word ts is_len none high is = absurd (omega arith)
word_leaf_of word ts (is_enclosed h) none high is = absurd (omega arith)
word_leaf_of word ts (is_operation {o = o} at left right) none high is = absurd (omega (arith, binding_below o))

pub word_leaf : (word : List ℕ) (ts : List Token) (e : Expr) → IsLeaf (token.Word word ∷ ts) e → WordLeaf word ts e
word_leaf word ts e h = word_leaf_of word ts h refl (omega arith) refl

-- a leaf that is a truth value's word alone
pub leaf_truth : (b : Bool) (word : List ℕ) (ts : List Token) (e : Expr) → word ≡ truth_word b → IsLeaf (token.Word word ∷ ts) e → (ts ≡ []) × (Truth b ≡ e)
leaf_truth b word ts e is h = of (word_leaf word ts e h)
  where
    reserved : (b : Bool) → is_reserved (truth_word b) ≡ true
    reserved true = refl
    reserved false = refl

    one : (b c : Bool) → truth_word b ≡ truth_word c → b ≡ c
    one true true e = refl
    one true false e = absurd (texts_differ (codes "true") (codes "false") refl e)
    one false true e = absurd (texts_differ (codes "false") (codes "true") refl e)
    one false false e = refl

    no_null : (b : Bool) → truth_word b ≢ codes "null"
    no_null true e = texts_differ (codes "true") (codes "null") refl e
    no_null false e = texts_differ (codes "false") (codes "null") refl e

    of : WordLeaf word ts e → (ts ≡ []) × (Truth b ≡ e)
    of (named free end e_is) = absurd (true≢false (sym (reserved b) ∙ ap is_reserved (sym is) ∙ free))
    of (truth c own end e_is) = (end, ap Truth (one b c (sym is ∙ own)) ∙ sym e_is)
    of (nothing k own end e_is) = absurd (no_null b (sym is ∙ own))

-- a leaf that begins with `null`
pub leaf_null : (ts : List Token) (e : Expr) → IsLeaf (token.Word (codes "null") ∷ ts) e → (k : DataType) × (ts ≡ token.Word (kind_word k) ∷ []) × (e ≡ Null k)
leaf_null ts e h = of (word_leaf (codes "null") ts e h)
  where
    no_truth : (b : Bool) → codes "null" ≢ truth_word b
    no_truth true e = texts_differ (codes "null") (codes "true") refl e
    no_truth false e = texts_differ (codes "null") (codes "false") refl e

    of : WordLeaf (codes "null") ts e → (k : DataType) × (ts ≡ token.Word (kind_word k) ∷ []) × (e ≡ Null k)
    of (named free end e_is) = absurd (true≢false free)
    of (truth c own end e_is) = absurd (no_truth c own)
    of (nothing k own end e_is) = (k, end, e_is)

-- a leaf that begins with another word is a name
pub leaf_other : (word : List ℕ) (ts : List Token) (e : Expr) → word ≢ codes "true" → word ≢ codes "false" → word ≢ codes "null" → IsLeaf (token.Word word ∷ ts) e → (is_reserved word ≡ false) × (ts ≡ []) × (Name word ≡ e)
leaf_other word ts e not_true not_false not_null h = of (word_leaf word ts e h)
  where
    no_truth : (b : Bool) → word ≢ truth_word b
    no_truth true e = not_true e
    no_truth false e = not_false e

    of : WordLeaf word ts e → (is_reserved word ≡ false) × (ts ≡ []) × (Name word ≡ e)
    of (named free end e_is) = (free, end, sym e_is)
    of (truth c own end e_is) = absurd (no_truth c own)
    of (nothing k own end e_is) = absurd (not_null own)

-- a leaf that begins with a quoted name, with a text, and with digits or a sign
leaf_name_of : {opens least : ℕ} {all : List Token} {e : Expr} (name : List ℕ) (ts : List Token) → IsExpr opens least all e → opens ≡ 0 → 6 ≤ least → all ≡ token.Name name ∷ ts → (ts ≡ []) × (Name name ≡ e)
leaf_name_of name ts (is_name {t = t} {n = n} h) none high is =
    let same : t ≡ token.Name name = cc in
    let end : [] ≡ ts = cc in
    let here : name ≡ n = subst (λ u. IsName u n) same h in
    (sym end, ap Name here)
leaf_name_of name ts (is_integer {ts = all} {n = n} h) none high is = absurd (false≢true (integer_starts (token.Name name) ts n (subst (λ us. IsInteger us n) is h)))
leaf_name_of name ts (is_text {t = t}) none high is = absurd (let other : token.Text t ≡ token.Name name = cc in cc)
leaf_name_of name ts (is_truth {b = b}) none high is = absurd (let other : token.Word (truth_word b) ≡ token.Name name = cc in cc)
leaf_name_of name ts (is_null {k = k}) none high is = absurd (let other : token.Word (codes "null") ≡ token.Name name = cc in cc)
leaf_name_of name ts (is_call h) none high is = absurd (omega arith)
leaf_name_of name ts is_len none high is = absurd (omega arith)
leaf_name_of name ts (is_enclosed h) none high is = absurd (omega arith)
leaf_name_of name ts (is_operation {o = o} at left right) none high is = absurd (omega (arith, binding_below o))

pub leaf_name : (name : List ℕ) (ts : List Token) (e : Expr) → IsLeaf (token.Name name ∷ ts) e → (ts ≡ []) × (Name name ≡ e)
leaf_name name ts e h = leaf_name_of name ts h refl (omega arith) refl

leaf_text_of : {opens least : ℕ} {all : List Token} {e : Expr} (text : List ℕ) (ts : List Token) → IsExpr opens least all e → opens ≡ 0 → 6 ≤ least → all ≡ token.Text text ∷ ts → (ts ≡ []) × (Text text ≡ e)
leaf_text_of text ts (is_name {t = t} {n = n} h) none high is = let same : t ≡ token.Text text = cc in absurd (subst (λ u. IsName u n) same h)
leaf_text_of text ts (is_integer {ts = all} {n = n} h) none high is = absurd (false≢true (integer_starts (token.Text text) ts n (subst (λ us. IsInteger us n) is h)))
leaf_text_of text ts (is_text {t = t}) none high is =
    let same : token.Text t ≡ token.Text text = cc in
    let content : t ≡ text = cc in
    let end : [] ≡ ts = cc in
    (sym end, ap Text (sym content))
leaf_text_of text ts (is_truth {b = b}) none high is = absurd (let other : token.Word (truth_word b) ≡ token.Text text = cc in cc)
leaf_text_of text ts (is_null {k = k}) none high is = absurd (let other : token.Word (codes "null") ≡ token.Text text = cc in cc)
leaf_text_of text ts (is_call h) none high is = absurd (omega arith)
leaf_text_of text ts is_len none high is = absurd (omega arith)
leaf_text_of text ts (is_enclosed h) none high is = absurd (omega arith)
leaf_text_of text ts (is_operation {o = o} at left right) none high is = absurd (omega (arith, binding_below o))

pub leaf_text : (text : List ℕ) (ts : List Token) (e : Expr) → IsLeaf (token.Text text ∷ ts) e → (ts ≡ []) × (Text text ≡ e)
leaf_text text ts e h = leaf_text_of text ts h refl (omega arith) refl

-- whether a token is digits or a sign
abbrev pub is_figure : Token → Bool
is_figure (token.Digits digits) = true
is_figure (token.Sign s) = true
is_figure _ = false

no_figure_name : (t : Token) (n : List ℕ) → IsName t n → is_figure t ≡ false
no_figure_name (token.Word word) n h = refl
no_figure_name (token.Name name) n h = refl
no_figure_name (token.Digits digits) n h = absurd h
no_figure_name (token.Text text) n h = absurd h
no_figure_name (token.Sign s) n h = absurd h

leaf_figure_of : {opens least : ℕ} {all : List Token} {e : Expr} (t : Token) (ts : List Token) → IsExpr opens least all e → opens ≡ 0 → 6 ≤ least → all ≡ t ∷ ts → is_figure t ≡ true → (n : ℤ) × IsInteger (t ∷ ts) n × (Int n ≡ e)
leaf_figure_of t ts (is_name {t = u} {n = n} h) none high is figure = let same : u ≡ t = cc in absurd (true≢false (sym figure ∙ ap is_figure (sym same) ∙ no_figure_name u n h))
leaf_figure_of t ts (is_integer {ts = all} {n = n} h) none high is figure = (n, subst (λ us. IsInteger us n) is h, refl)
leaf_figure_of t ts (is_text {t = text}) none high is figure = let same : token.Text text ≡ t = cc in absurd (true≢false (sym figure ∙ ap is_figure (sym same)))
leaf_figure_of t ts (is_truth {b = b}) none high is figure = let same : token.Word (truth_word b) ≡ t = cc in absurd (true≢false (sym figure ∙ ap is_figure (sym same)))
leaf_figure_of t ts (is_null {k = k}) none high is figure = let same : token.Word (codes "null") ≡ t = cc in absurd (true≢false (sym figure ∙ ap is_figure (sym same)))
leaf_figure_of t ts (is_call h) none high is figure = absurd (omega arith)
leaf_figure_of t ts is_len none high is figure = absurd (omega arith)
leaf_figure_of t ts (is_enclosed h) none high is figure = absurd (omega arith)
leaf_figure_of t ts (is_operation {o = o} at left right) none high is figure = absurd (omega (arith, binding_below o))

pub leaf_figure : (t : Token) (ts : List Token) (e : Expr) → is_figure t ≡ true → IsLeaf (t ∷ ts) e → (n : ℤ) × IsInteger (t ∷ ts) n × (Int n ≡ e)
leaf_figure t ts e figure h = leaf_figure_of t ts h refl (omega arith) refl figure

-- no two kinds have one word
abbrev kind_in : List ℕ → DataType
kind_in word = cond (bytes_eq word (codes "bool")) kind.Boolean (cond (bytes_eq word (codes "int")) kind.Int64 (cond (bytes_eq word (codes "idx")) kind.IdxSize kind.String))

kind_back : (k : DataType) → kind_in (kind_word k) ≡ k
kind_back kind.Boolean = refl
kind_back kind.Int64 = refl
kind_back kind.IdxSize = refl
kind_back kind.String = refl

pub kind_once : (k l : DataType) → kind_word k ≡ kind_word l → k ≡ l
kind_once k l e = sym (kind_back k) ∙ ap kind_in e ∙ kind_back l

-- where the word of a kind stands behind `null`
pub null_reads : (tokens : List Token) (word : List ℕ) (rest : List Token) (k : DataType) → tokens ≡ token.Word word ∷ rest → word ≡ kind_word k
    → (front after : List Token) (part : Expr) → tokens ≡ front ++ after → IsLeaf (token.Word (codes "null") ∷ front) part → (Null k ≡ part) × (rest ≡ after)
null_reads tokens word rest k begins spelled front after part is h =
    let own = leaf_null front part h in
    let all : token.Word word ∷ rest ≡ token.Word (kind_word own.0) ∷ after = sym begins ∙ is ∙ ap (λ f. f ++ after) own.1 in
    let first : token.Word word ≡ token.Word (kind_word own.0) = cc in
    let text : word ≡ kind_word own.0 = cc in
    let behind : rest ≡ after = cc in
    (ap Null (kind_once k own.0 (sym spelled ∙ text)) ∙ sym own.2, behind)

-- what a reader of the tokens behind the first one answers is the answer for all of them
pub reads_behind : {Y : Type 0} (P : List Token → Y → Type 0) (Q : Y → List Token → Type 0) (Follows : List Token → Type 0) → (tokens : List Token) (first seen : Token) (others : List Token) → tokens ≡ first ∷ others → first ≡ seen
    → ((ts : List Token) (y : Y) → P ts y → 1 ≤ length ts) → ((front rest : List Token) (y : Y) → others ≡ front ++ rest → P (seen ∷ front) y → Follows rest → Q y rest)
    → (front rest : List Token) (y : Y) → tokens ≡ front ++ rest → P front y → Follows rest → Q y rest
reads_behind P Q Follows tokens first seen others begins same some reads front rest y is h follows =
    let f = at_front seen others front rest (ap (λ t. t ∷ others) (sym same) ∙ sym begins ∙ is) (some front y h) in
    reads f.more rest y f.others_are (subst (λ ts. P ts y) f.front_is h) follows

-- a name, in quotes and without
pub name_reads : (tokens : List Token) (first : Token) (rest : List Token) (name got : List ℕ) → tokens ≡ first ∷ rest → first ≡ token.Name name → got ≡ name → (front after : List Token) (part : Expr) → tokens ≡ front ++ after → IsLeaf front part → (Name got ≡ part) × (rest ≡ after)
name_reads tokens first rest name got begins is_first same front after part is h =
    reads_behind IsLeaf (λ y behind. (Name got ≡ y) × (rest ≡ behind)) Anything tokens first (token.Name name) rest begins is_first (λ ts y k. expr_some k)
    (λ more behind y here k follows. let own = leaf_name name more y k in (ap Name same ∙ own.1, here ∙ ap (λ f. f ++ behind) own.0))
    front after part is h tt

pub text_reads : (tokens : List Token) (first : Token) (rest : List Token) (content got : List ℕ) → tokens ≡ first ∷ rest → first ≡ token.Text content → got ≡ content → (front after : List Token) (part : Expr) → tokens ≡ front ++ after → IsLeaf front part → (Text got ≡ part) × (rest ≡ after)
text_reads tokens first rest content got begins is_first same front after part is h =
    reads_behind IsLeaf (λ y behind. (Text got ≡ y) × (rest ≡ behind)) Anything tokens first (token.Text content) rest begins is_first (λ ts y k. expr_some k)
    (λ more behind y here k follows. let own = leaf_text content more y k in (ap Text same ∙ own.1, here ∙ ap (λ f. f ++ behind) own.0))
    front after part is h tt

-- where digits or a sign begin the tokens, a leaf is an integer
pub figure_reads : (tokens : List Token) (first : Token) (rest front after : List Token) (part : Expr) → tokens ≡ first ∷ rest → is_figure first ≡ true → tokens ≡ front ++ after → IsLeaf front part → (n : ℤ) × IsInteger front n × (Int n ≡ part)
figure_reads tokens first rest front after part begins figure is h =
    let f = at_front first rest front after (sym begins ∙ is) (expr_some h) in
    subst (λ ts. (n : ℤ) × IsInteger ts n × (Int n ≡ part)) (sym f.front_is) (leaf_figure first f.more part figure (subst (λ ts. IsLeaf ts part) f.front_is h))
