-- Stages: what their readings are made of, by their first words.
use Rattle.std.proofs.Common.{◌≡◌, ℕ, ◌<◌, ◌≤◌, ◌^◌, cond, List, [], ◌∷◌, ◌++◌, length, sym, refl, ap, ◌∙◌, subst, arith, append_assoc}
use Rattle.std.specs.Prelude.{◌≢◌, ℤ, codes}
use Rattle.std.specs.Str.{bytes_eq}
use Rattle.ps_meaning.specs.declared.options.JoinType.{JoinType}
use Rattle.ps_meaning.specs.declared.options.JoinType.TheVariants as how
use Rattle.text_queries.specs.Grammar.{IsColumn, IsInteger, IsItem, IsKey, IsName, IsOn, IsStage, Listed, how_word, number}
use Rattle.text_queries.specs.Queries.{Expr, Item, Key, Stage, Filter, Select, With, Group, Sort, Slice, Distinct, Join, expr_depth, greatest}
use Rattle.text_reading.specs.Reading.{Anything, BehindWord, Ends, EndsKey, EndsList, EndsStage, HoldsShallow, IsShallowStage}
use Rattle.text_reading.proofs.EntryForms.{ends_bar, ends_nothing, ends_word}
use Rattle.text_tokens.specs.Tokens.{IsToken}
use Rattle.text_tokens.specs.declared.token.Sign.TheVariants as sign
use Rattle.text_tokens.specs.declared.token.Token.{Token}
use Rattle.text_tokens.specs.declared.token.Token.TheVariants as token

-- the first word of a stage, and its number
abbrev stage_word : Stage → List ℕ
stage_word (Filter predicate) = codes "filter"
stage_word (Select items) = codes "select"
stage_word (With items) = codes "with"
stage_word (Group keys aggs) = codes "group"
stage_word (Sort keys) = codes "sort"
stage_word (Slice offset length) = codes "slice"
stage_word Distinct = codes "distinct"
stage_word (Join kept table on) = codes "join"

abbrev stage_number : Stage → ℕ
stage_number (Filter predicate) = 0
stage_number (Select items) = 1
stage_number (With items) = 2
stage_number (Group keys aggs) = 3
stage_number (Sort keys) = 4
stage_number (Slice offset length) = 5
stage_number Distinct = 6
stage_number (Join kept table on) = 7

abbrev number_of : List ℕ → ℕ
number_of word =
    cond (bytes_eq word (codes "filter")) 0
    (cond (bytes_eq word (codes "select")) 1
    (cond (bytes_eq word (codes "with")) 2
    (cond (bytes_eq word (codes "group")) 3
    (cond (bytes_eq word (codes "sort")) 4
    (cond (bytes_eq word (codes "slice")) 5
    (cond (bytes_eq word (codes "distinct")) 6 7))))))

numbered : (stage : Stage) → number_of (stage_word stage) ≡ stage_number stage
numbered (Filter predicate) = refl
numbered (Select items) = refl
numbered (With items) = refl
numbered (Group keys aggs) = refl
numbered (Sort keys) = refl
numbered (Slice offset length) = refl
numbered Distinct = refl
numbered (Join kept table on) = refl

stage_begins : (ts : List Token) (stage : Stage) → IsStage ts stage → (rest : List Token) × (ts ≡ token.Word (stage_word stage) ∷ rest)
stage_begins ts (Filter predicate) h = (h.0, h.1)
stage_begins ts (Select items) h = (h.0, h.1)
stage_begins ts (With items) h = (h.0, h.1)
stage_begins ts (Group keys aggs) h = (h.0 ++ token.Word (codes "agg") ∷ h.1, h.2)
stage_begins ts (Sort keys) h = (h.0, h.1)
stage_begins ts (Slice offset length) h = (h.0 ++ token.Digits h.1 ∷ [], h.2)
stage_begins ts Distinct h = ([], h)
stage_begins ts (Join kept table on) h = (token.Word (how_word kept) ∷ h.0 ∷ h.1, h.2)

pub stage_some : (ts : List Token) (stage : Stage) → IsStage ts stage → 1 ≤ length ts
stage_some ts stage h = let b = stage_begins ts stage h in omega (arith, ap length b.1)

stage_named : (word : List ℕ) (ts : List Token) (stage : Stage) → IsStage (token.Word word ∷ ts) stage → stage_word stage ≡ word
stage_named word ts stage h =
    let b = stage_begins (token.Word word ∷ ts) stage h in
    let split : token.Word word ∷ ts ≡ token.Word (stage_word stage) ∷ b.0 = b.1 in
    let first : token.Word word ≡ token.Word (stage_word stage) = cc in
    let same : stage_word stage ≡ word = cc in same

stage_at : (word : List ℕ) (ts : List Token) (stage : Stage) → IsStage (token.Word word ∷ ts) stage → stage_number stage ≡ number_of word
stage_at word ts stage h = sym (numbered stage) ∙ ap number_of (stage_named word ts stage h)

-- another word than these begins no stage
pub no_stage : (word : List ℕ) (ts : List Token) (stage : Stage) → word ≢ codes "filter" → word ≢ codes "select" → word ≢ codes "with" → word ≢ codes "group" → word ≢ codes "sort" → word ≢ codes "slice" → word ≢ codes "distinct" → word ≢ codes "join" → IsStage (token.Word word ∷ ts) stage → ⊥
no_stage word ts (Filter predicate) a b c d e f g i h = a (sym (stage_named word ts (Filter predicate) h))
no_stage word ts (Select items) a b c d e f g i h = b (sym (stage_named word ts (Select items) h))
no_stage word ts (With items) a b c d e f g i h = c (sym (stage_named word ts (With items) h))
no_stage word ts (Group keys aggs) a b c d e f g i h = d (sym (stage_named word ts (Group keys aggs) h))
no_stage word ts (Sort keys) a b c d e f g i h = e (sym (stage_named word ts (Sort keys) h))
no_stage word ts (Slice offset length) a b c d e f g i h = f (sym (stage_named word ts (Slice offset length) h))
no_stage word ts Distinct a b c d e f g i h = g (sym (stage_named word ts Distinct h))
no_stage word ts (Join kept table on) a b c d e f g i h = i (sym (stage_named word ts (Join kept table on) h))

behind_word : (word : List ℕ) (ts us : List Token) → token.Word word ∷ ts ≡ token.Word word ∷ us → us ≡ ts
behind_word word ts us is = let same : us ≡ ts = cc in same

-- a list whose entries' expressions aren't too deep, and one that isn't too deep
pub listed_deep : {X : Type 0} (P : List Token → X → Type 0) (expr : X → Expr) → (ts : List Token) (xs : List X) → Listed P ts xs → greatest (λ x. expr_depth (expr x)) xs ≤ 200 → Listed (HoldsShallow P expr) ts xs
listed_deep P expr ts [] h low = absurd h
listed_deep P expr ts (x ∷ []) h low = (h, omega (arith, low))
listed_deep P expr ts (x ∷ y ∷ xs) (first, rest, split, here, tail) low = (first, rest, split, (here, omega (arith, low)), listed_deep P expr rest (y ∷ xs) tail (omega (arith, low)))

pub listed_low : {X : Type 0} (P : List Token → X → Type 0) (expr : X → Expr) → (ts : List Token) (xs : List X) → Listed (HoldsShallow P expr) ts xs → Listed P ts xs × (greatest (λ x. expr_depth (expr x)) xs ≤ 200)
listed_low P expr ts [] h = absurd h
listed_low P expr ts (x ∷ []) h = (h.0, omega (arith, h.1))
listed_low P expr ts (x ∷ y ∷ xs) (first, rest, split, here, tail) =
    let more = listed_low P expr rest (y ∷ xs) tail in
    ((first, rest, split, here.0, more.0), omega (arith, here.1, more.1))

-- what may stand behind a stage may stand behind its last part
pub ends_expr : (rest : List Token) → EndsStage rest → Ends 1 rest
ends_expr [] ends = ends_nothing 1
ends_expr (t ∷ ts) ends = subst (λ u. Ends 1 (u ∷ ts)) (sym (ends t ts refl)) (ends_bar 1 ts)

no_token : (rest : List Token) (t : Token) → EndsStage rest → t ≢ token.Sign sign.Bar → (more : List Token) → rest ≢ t ∷ more
no_token rest t ends other more is = other (ends t more is)

pub ends_items : (rest : List Token) → EndsStage rest → EndsList (Ends 1) rest
ends_items rest ends = record { ends = ends_expr rest ends; no_comma = no_token rest (token.Sign sign.Comma) ends (λ e. let other = e in cc) }

pub ends_keys : (rest : List Token) → EndsStage rest → EndsList EndsKey rest
ends_keys rest ends = record {
  ends = record { ends = ends_expr rest ends; no_desc = no_token rest (token.Word (codes "desc")) ends (λ e. let other = e in cc) };
  no_comma = no_token rest (token.Sign sign.Comma) ends (λ e. let other = e in cc);
}

pub ends_names : (rest : List Token) → EndsStage rest → EndsList Anything rest
ends_names rest ends = record { ends = tt; no_comma = no_token rest (token.Sign sign.Comma) ends (λ e. let other = e in cc) }

pub ends_agg : (rest : List Token) → EndsList (Ends 1) (token.Word (codes "agg") ∷ rest)
ends_agg rest = record { ends = ends_word 1 (codes "agg") rest refl refl; no_comma = λ more is. let other : token.Word (codes "agg") ≡ token.Sign sign.Comma = cc in cc }

abbrev pub DeepItems : List Token → List Item → Type 0
DeepItems ts items = Listed (HoldsShallow IsItem (λ item. item.expr)) ts items

abbrev pub DeepKeys : List Token → List Key → Type 0
DeepKeys ts keys = Listed (HoldsShallow IsKey (λ key. key.expr)) ts keys

-- select and with
pub select_is : (ts : List Token) (stage : Stage) → BehindWord (codes "select") ts stage → (items : List Item) × (Select items ≡ stage) × DeepItems ts items
select_is ts (Select items) h = (items, refl, listed_deep IsItem (λ item. item.expr) ts items (subst (λ u. Listed IsItem u items) (behind_word (codes "select") ts h.0.0 h.0.1) h.0.2) h.1)
select_is ts stage h = absurd (let same = stage_at (codes "select") ts stage h.0 in omega (arith, same))

pub select_found : (tokens after : List Token) (items : List Item) → ((front : List Token) × (tokens ≡ front ++ after) × DeepItems front items) → (front : List Token) × (tokens ≡ front ++ after) × BehindWord (codes "select") front (Select items)
select_found tokens after items found = let low = listed_low IsItem (λ item. item.expr) found.0 items found.2 in (found.0, found.1, ((found.0, refl, low.0), low.1))

pub with_is : (ts : List Token) (stage : Stage) → BehindWord (codes "with") ts stage → (items : List Item) × (With items ≡ stage) × DeepItems ts items
with_is ts (With items) h = (items, refl, listed_deep IsItem (λ item. item.expr) ts items (subst (λ u. Listed IsItem u items) (behind_word (codes "with") ts h.0.0 h.0.1) h.0.2) h.1)
with_is ts stage h = absurd (let same = stage_at (codes "with") ts stage h.0 in omega (arith, same))

pub with_found : (tokens after : List Token) (items : List Item) → ((front : List Token) × (tokens ≡ front ++ after) × DeepItems front items) → (front : List Token) × (tokens ≡ front ++ after) × BehindWord (codes "with") front (With items)
with_found tokens after items found = let low = listed_low IsItem (λ item. item.expr) found.0 items found.2 in (found.0, found.1, ((found.0, refl, low.0), low.1))

-- group
pub record GroupParts (tokens rest : List Token) (stage : Stage) : Type 0 where
  pub keys : List Item
  pub aggs : List Item
  pub stage_is : Group keys aggs ≡ stage
  pub first : List Token
  pub second : List Token
  pub split : tokens ≡ first ++ token.Word (codes "agg") ∷ (second ++ rest)
  pub are_keys : DeepItems first keys
  pub are_aggs : DeepItems second aggs

pub group_parts : (tokens front rest : List Token) (stage : Stage) → tokens ≡ front ++ rest → BehindWord (codes "group") front stage → GroupParts tokens rest stage
group_parts tokens front rest (Group keys aggs) is h = record {
  keys = keys;
  aggs = aggs;
  stage_is = refl;
  first = h.0.0;
  second = h.0.1;
  split = is ∙ ap (λ f. f ++ rest) (sym (behind_word (codes "group") front (h.0.0 ++ token.Word (codes "agg") ∷ h.0.1) h.0.2)) ∙ append_assoc h.0.0 (token.Word (codes "agg") ∷ h.0.1) rest;
  are_keys = listed_deep IsItem (λ item. item.expr) h.0.0 keys h.0.3 (omega (arith, h.1));
  are_aggs = listed_deep IsItem (λ item. item.expr) h.0.1 aggs h.0.4 (omega (arith, h.1));
}
group_parts tokens front rest stage is h = absurd (let same = stage_at (codes "group") front stage h.0 in omega (arith, same))

pub group_found : (tokens middle behind after : List Token) (keys aggs : List Item) → ((front : List Token) × (tokens ≡ front ++ middle) × DeepItems front keys) → middle ≡ token.Word (codes "agg") ∷ behind → ((front : List Token) × (behind ≡ front ++ after) × DeepItems front aggs)
    → (front : List Token) × (tokens ≡ front ++ after) × BehindWord (codes "group") front (Group keys aggs)
group_found tokens middle behind after keys aggs found goes more =
    let low = listed_low IsItem (λ item. item.expr) found.0 keys found.2 in
    let also = listed_low IsItem (λ item. item.expr) more.0 aggs more.2 in (
      found.0 ++ token.Word (codes "agg") ∷ more.0,
      found.1 ∙ ap (λ m. found.0 ++ m) (goes ∙ ap (λ b. token.Word (codes "agg") ∷ b) more.1) ∙ sym (append_assoc found.0 (token.Word (codes "agg") ∷ more.0) after),
      ((found.0, more.0, refl, low.0, also.0), omega (arith, low.1, also.1)),
    )

-- sort
pub sort_is : (ts : List Token) (stage : Stage) → BehindWord (codes "sort") ts stage → (keys : List Key) × (Sort keys ≡ stage) × DeepKeys ts keys
sort_is ts (Sort keys) h = (keys, refl, listed_deep IsKey (λ key. key.expr) ts keys (subst (λ u. Listed IsKey u keys) (behind_word (codes "sort") ts h.0.0 h.0.1) h.0.2) h.1)
sort_is ts stage h = absurd (let same = stage_at (codes "sort") ts stage h.0 in omega (arith, same))

pub sort_found : (tokens after : List Token) (keys : List Key) → ((front : List Token) × (tokens ≡ front ++ after) × DeepKeys front keys) → (front : List Token) × (tokens ≡ front ++ after) × BehindWord (codes "sort") front (Sort keys)
sort_found tokens after keys found = let low = listed_low IsKey (λ key. key.expr) found.0 keys found.2 in (found.0, found.1, ((found.0, refl, low.0), low.1))

-- slice
pub record SliceParts (tokens rest : List Token) (stage : Stage) : Type 0 where
  pub offset : ℤ
  pub count : ℕ
  pub stage_is : Slice offset count ≡ stage
  pub from : List Token
  pub digits : List ℕ
  pub split : tokens ≡ from ++ token.Digits digits ∷ rest
  pub is_offset : IsInteger from offset
  pub are_digits : IsToken (token.Digits digits)
  pub count_is : count ≡ number digits
  pub fits : number digits < 2 ^ 64

pub slice_parts : (tokens front rest : List Token) (stage : Stage) → tokens ≡ front ++ rest → BehindWord (codes "slice") front stage → SliceParts tokens rest stage
slice_parts tokens front rest (Slice offset count) is h = record {
  offset = offset;
  count = count;
  stage_is = refl;
  from = h.0.0;
  digits = h.0.1;
  split = is ∙ ap (λ f. f ++ rest) (sym (behind_word (codes "slice") front (h.0.0 ++ token.Digits h.0.1 ∷ []) h.0.2)) ∙ append_assoc h.0.0 (token.Digits h.0.1 ∷ []) rest;
  is_offset = h.0.3;
  are_digits = h.0.4;
  count_is = h.0.5;
  fits = h.0.6;
}
slice_parts tokens front rest stage is h = absurd (let same = stage_at (codes "slice") front stage h.0 in omega (arith, same))

pub slice_found : (tokens middle after : List Token) (digits : List ℕ) (offset : ℤ) (count : ℕ) → count < 2 ^ 64 → ((front : List Token) × (tokens ≡ front ++ middle) × IsInteger front offset) → middle ≡ token.Digits digits ∷ after → IsToken (token.Digits digits) → count ≡ number digits
    → (front : List Token) × (tokens ≡ front ++ after) × BehindWord (codes "slice") front (Slice offset count)
slice_found tokens middle after digits offset count fits found goes well is = (
  found.0 ++ token.Digits digits ∷ [],
  found.1 ∙ ap (λ m. found.0 ++ m) goes ∙ sym (append_assoc found.0 (token.Digits digits ∷ []) after),
  ((found.0, digits, refl, found.2, well, is, subst (λ n. n < 2 ^ 64) is fits), omega arith),
)

-- distinct
pub distinct_is : (ts : List Token) (stage : Stage) → BehindWord (codes "distinct") ts stage → (Distinct ≡ stage) × (ts ≡ [])
distinct_is ts Distinct h = (refl, let split : token.Word (codes "distinct") ∷ ts ≡ token.Word (codes "distinct") ∷ [] = h.0 in sym (behind_word (codes "distinct") ts [] split))
distinct_is ts stage h = absurd (let same = stage_at (codes "distinct") ts stage h.0 in omega (arith, same))

-- join
abbrev how_in : List ℕ → JoinType
how_in word =
    cond (bytes_eq word (codes "inner")) how.Inner
    (cond (bytes_eq word (codes "left")) how.Left
    (cond (bytes_eq word (codes "right")) how.Right
    (cond (bytes_eq word (codes "full")) how.Full
    (cond (bytes_eq word (codes "semi")) how.Semi
    (cond (bytes_eq word (codes "anti")) how.Anti how.Cross)))))

how_back : (kept : JoinType) → how_in (how_word kept) ≡ kept
how_back how.Inner = refl
how_back how.Left = refl
how_back how.Right = refl
how_back how.Full = refl
how_back how.Semi = refl
how_back how.Anti = refl
how_back how.Cross = refl

pub how_once : (kept other : JoinType) → how_word kept ≡ how_word other → kept ≡ other
how_once kept other e = sym (how_back kept) ∙ ap how_in e ∙ how_back other

pub record JoinParts (tokens rest : List Token) (stage : Stage) : Type 0 where
  pub kept : JoinType
  pub table : List ℕ
  pub names : List (List ℕ)
  pub stage_is : Join kept table names ≡ stage
  pub first : Token
  pub more : List Token
  pub split : tokens ≡ token.Word (how_word kept) ∷ first ∷ (more ++ rest)
  pub named : IsName first table
  pub is_on : IsOn kept more names

pub join_parts : (tokens front rest : List Token) (stage : Stage) → tokens ≡ front ++ rest → BehindWord (codes "join") front stage → JoinParts tokens rest stage
join_parts tokens front rest (Join kept table names) is h = record {
  kept = kept;
  table = table;
  names = names;
  stage_is = refl;
  first = h.0.0;
  more = h.0.1;
  split = is ∙ ap (λ f. f ++ rest) (sym (behind_word (codes "join") front (token.Word (how_word kept) ∷ h.0.0 ∷ h.0.1) h.0.2));
  named = h.0.3;
  is_on = h.0.4;
}
join_parts tokens front rest stage is h = absurd (let same = stage_at (codes "join") front stage h.0 in omega (arith, same))

-- where the reader found the word of the join, it is that join, and the table stands behind it
pub join_at : (tokens : List Token) (word : List ℕ) (behind rest : List Token) (stage : Stage) (parts : JoinParts tokens rest stage) → tokens ≡ token.Word word ∷ behind → (how_word parts.kept ≡ word) × (behind ≡ parts.first ∷ (parts.more ++ rest))
join_at tokens word behind rest stage parts begins =
    let all : token.Word word ∷ behind ≡ token.Word (how_word parts.kept) ∷ parts.first ∷ (parts.more ++ rest) = sym begins ∙ parts.split in
    let first : token.Word word ≡ token.Word (how_word parts.kept) = cc in
    let same : how_word parts.kept ≡ word = cc in
    let left : behind ≡ parts.first ∷ (parts.more ++ rest) = cc in
    (same, left)

pub join_found : (tokens : List Token) (word : List ℕ) (behind middle after : List Token) (kept : JoinType) (table : List ℕ) (names : List (List ℕ)) → tokens ≡ token.Word word ∷ behind → word ≡ how_word kept → ((front : List Token) × (behind ≡ front ++ middle) × IsColumn front table) → ((front : List Token) × (middle ≡ front ++ after) × IsOn kept front names)
    → (front : List Token) × (tokens ≡ front ++ after) × BehindWord (codes "join") front (Join kept table names)
join_found tokens word behind middle after kept table names begins named found more =
    let t : Token = found.2.0 in (
      token.Word (how_word kept) ∷ t ∷ more.0,
      begins ∙ ap (λ w. token.Word w ∷ behind) named ∙ ap (λ b. token.Word (how_word kept) ∷ b) (found.1 ∙ ap (λ f. f ++ middle) found.2.1 ∙ ap (λ m. t ∷ m) more.1),
      ((t, more.0, refl, found.2.2, more.2), omega arith),
    )

-- what stands behind the table of a join that isn't a cross
pub on_is : (kept : JoinType) (ts : List Token) (names : List (List ℕ)) → kept ≢ how.Cross → IsOn kept ts names → (rest : List Token) × (ts ≡ token.Word (codes "on") ∷ rest) × Listed IsColumn rest names
on_is how.Cross ts names other h = absurd (other refl)
on_is how.Inner ts names other h = h
on_is how.Left ts names other h = h
on_is how.Right ts names other h = h
on_is how.Full ts names other h = h
on_is how.Semi ts names other h = h
on_is how.Anti ts names other h = h

pub on_found : (kept : JoinType) (tokens behind after : List Token) (names : List (List ℕ)) → kept ≢ how.Cross → tokens ≡ token.Word (codes "on") ∷ behind → ((front : List Token) × (behind ≡ front ++ after) × Listed IsColumn front names)
    → (front : List Token) × (tokens ≡ front ++ after) × IsOn kept front names
on_found kept tokens behind after names other begins found = (token.Word (codes "on") ∷ found.0, begins ∙ ap (λ b. token.Word (codes "on") ∷ b) found.1, is kept other)
  where
    is : (kept : JoinType) → kept ≢ how.Cross → IsOn kept (token.Word (codes "on") ∷ found.0) names
    is how.Cross other = absurd (other refl)
    is how.Inner other = (found.0, refl, found.2)
    is how.Left other = (found.0, refl, found.2)
    is how.Right other = (found.0, refl, found.2)
    is how.Full other = (found.0, refl, found.2)
    is how.Semi other = (found.0, refl, found.2)
    is how.Anti other = (found.0, refl, found.2)

-- behind a word stands one thing
pub word_once : (tokens : List Token) (word : List ℕ) (rest after : List Token) → tokens ≡ token.Word word ∷ rest → tokens ≡ token.Word word ∷ after → rest ≡ after
word_once tokens word rest after is same =
    let all : token.Word word ∷ rest ≡ token.Word word ∷ after = sym is ∙ same in
    let left : rest ≡ after = cc in left

-- behind digits stands one thing, and these are the digits
pub digits_once : (tokens : List Token) (digits others : List ℕ) (rest after : List Token) → tokens ≡ token.Digits digits ∷ rest → tokens ≡ token.Digits others ∷ after → (digits ≡ others) × (rest ≡ after)
digits_once tokens digits others rest after is same =
    let all : token.Digits digits ∷ rest ≡ token.Digits others ∷ after = sym is ∙ same in
    let first : token.Digits digits ≡ token.Digits others = cc in
    let text : digits ≡ others = cc in
    let left : rest ≡ after = cc in
    (text, left)

-- a stage and its word
pub stage_found : (tokens : List Token) (word seen : List ℕ) (rest after : List Token) (stage : Stage) → tokens ≡ token.Word word ∷ rest → word ≡ seen → ((front : List Token) × (rest ≡ front ++ after) × BehindWord seen front stage) → (front : List Token) × (tokens ≡ front ++ after) × IsShallowStage front stage
stage_found tokens word seen rest after stage begins same found =
    (token.Word word ∷ found.0, begins ∙ ap (λ r. token.Word word ∷ r) found.1, subst (λ w. BehindWord w found.0 stage) (sym same) found.2)
