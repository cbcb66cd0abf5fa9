-- A text is one query at most.
use Rattle.std.proofs.Common.{◌≡◌, ℕ, ℤ, false, List, [], ◌∷◌, ◌++◌, inl, inr, sym, refl, ap, ◌∙◌, subst, arith}
use Rattle.std.specs.Prelude.{◌≢◌, if◌then◌else◌, codes}
use Rattle.std.specs.Str.{bytes_eq}
use Rattle.std.proofs.lemmas.List.{append_cancel_right}
use Rattle.ps_meaning.specs.declared.options.JoinType.{JoinType}
use Rattle.ps_meaning.specs.declared.options.JoinType.TheVariants as how
use Rattle.text_laws.proofs.OneExpression.{one_expression}
use Rattle.text_laws.proofs.Separators.{is_inner, name_inner, integer_inner, Lacks, expr_lacks, inner_lacks, lacks-append, lacks_none, Stops, stops_once}
use Rattle.text_queries.specs.Grammar.{IsName, IsInteger, IsWhole, Listed, IsItem, IsKey, IsColumn, IsOn, IsStage, AreStages, IsQuery, ReadsAs, how_word, number}
use Rattle.text_queries.specs.Queries.{Expr, Item, Key, Stage, Filter, Select, With, Group, Sort, Slice, Distinct, Join, Query}
use Rattle.text_tokens.proofs.OneCut.{one_cut}
use Rattle.text_tokens.specs.declared.token.Sign.TheVariants as sign
use Rattle.text_tokens.specs.declared.token.Token.{Token}
use Rattle.text_tokens.specs.declared.token.Token.TheVariants as token

abbrev comma : Token
comma = token.Sign sign.Comma

abbrev bar : Token
bar = token.Sign sign.Bar

abbrev agg : Token
agg = token.Word (codes "agg")

abbrev desc : Token
desc = token.Word (codes "desc")

name_once : (t : Token) (n m : List ℕ) → IsName t n → IsName t m → n ≡ m
name_once (token.Word word) n m h k = sym h.0 ∙ k.0
name_once (token.Name name) n m h k = sym h ∙ k
name_once _ n m h k = absurd h

whole_once : (ts : List Token) (e f : Expr) → IsWhole ts e → IsWhole ts f → e ≡ f
whole_once ts e f h k = one_expression h 100 1 f k

integer_once : (ts : List Token) (n m : ℤ) → IsInteger ts n → IsInteger ts m → n ≡ m
integer_once (token.Digits digits ∷ []) n m h k = h.1 ∙ sym k.1
integer_once (token.Sign sign.Minus ∷ token.Digits digits ∷ []) n m h k = h.1 ∙ sym k.1
integer_once _ n m h k = absurd h

-- entries with commas between
module _ {X : Type 0} (P : List Token → X → Type 0) (once : (ts : List Token) (x y : X) → P ts x → P ts y → x ≡ y) (no_comma : (ts : List Token) (x : X) → P ts x → Lacks comma ts) where
  pub listed_once : (ts : List Token) (xs ys : List X) → Listed P ts xs → Listed P ts ys → xs ≡ ys
  listed_once ts [] ys h k = absurd h
  listed_once ts (x ∷ xs) [] h k = absurd k
  listed_once ts (x ∷ []) (y ∷ []) h k = ap (λ z. z ∷ []) (once ts x y h k)
  listed_once ts (x ∷ []) (y ∷ z ∷ ys) h (first, rest, split, here, tail) = absurd (lacks_none comma ts first rest (no_comma ts x h) split)
  listed_once ts (x ∷ w ∷ xs) (y ∷ []) (first, rest, split, here, tail) k = absurd (lacks_none comma ts first rest (no_comma ts y k) split)
  listed_once ts (x ∷ w ∷ xs) (y ∷ z ∷ ys) (first, rest, split, here, tail) (own, behind, own_split, own_here, own_tail) =
      let cut = stops_once comma first own (comma ∷ rest) (comma ∷ behind) (no_comma first x here) (no_comma own y own_here) (inr (rest, refl)) (inr (behind, refl)) (sym split ∙ own_split) in
      let behinds : rest ≡ behind = let both : comma ∷ rest ≡ comma ∷ behind = cut.1 in cc in
      let heads : x ≡ y = once first x y here (subst (λ us. P us y) (sym cut.0) own_here) in
      let tails : w ∷ xs ≡ z ∷ ys = listed_once rest (w ∷ xs) (z ∷ ys) tail (subst (λ us. Listed P us (z ∷ ys)) (sym behinds) own_tail) in
      (λ i. heads i ∷ tails i)

  pub listed_lacks : (mark : Token) → comma ≢ mark → ((ts : List Token) (x : X) → P ts x → Lacks mark ts) → (ts : List Token) (xs : List X) → Listed P ts xs → Lacks mark ts
  listed_lacks mark other each ts [] h = absurd h
  listed_lacks mark other each ts (x ∷ []) h = each ts x h
  listed_lacks mark other each ts (x ∷ y ∷ xs) (first, rest, split, here, tail) =
      subst (Lacks mark) (sym split) (lacks-append mark first (comma ∷ rest) (each first x here) (other, listed_lacks mark other each rest (y ∷ xs) tail))

item_once : (ts : List Token) (x y : Item) → IsItem ts x → IsItem ts y → x ≡ y
item_once ts x y (t, rest, is, named, whole) (u, more, other, others, wholes) =
    let both : t ∷ token.Sign sign.Is ∷ rest ≡ u ∷ token.Sign sign.Is ∷ more = sym is ∙ other in
    let head : t ≡ u = cc in
    let tail : rest ≡ more = cc in
    let names : x.name ≡ y.name = name_once t x.name y.name named (subst (λ w. IsName w y.name) (sym head) others) in
    let exprs : x.expr ≡ y.expr = whole_once rest x.expr y.expr whole (subst (λ us. IsWhole us y.expr) (sym tail) wholes) in
    (λ i. record { name = names i; expr = exprs i })

item_lacks : (mark : Token) → is_inner mark ≡ false → token.Sign sign.Is ≢ mark → (ts : List Token) (x : Item) → IsItem ts x → Lacks mark ts
item_lacks mark outer other ts x (t, rest, is, named, whole) =
    subst (Lacks mark) (sym is) ((inner_lacks mark outer (t ∷ []) (name_inner t x.name named, tt)).0, (other, expr_lacks mark outer rest whole))

key_once : (ts : List Token) (x y : Key) → IsKey ts x → IsKey ts y → x ≡ y
key_once ts x y (inl h) (inl k) = (λ i. record { expr = whole_once ts x.expr y.expr h.1 k.1 i; desc = (h.0 ∙ sym k.0) i })
key_once ts x y (inl h) (inr (at, rest, is, whole)) = absurd (lacks_none desc ts rest [] (expr_lacks desc refl ts h.1) is)
key_once ts x y (inr (at, rest, is, whole)) (inl k) = absurd (lacks_none desc ts rest [] (expr_lacks desc refl ts k.1) is)
key_once ts x y (inr (at, rest, is, whole)) (inr (own_at, own, own_is, own_whole)) =
    let same : rest ≡ own = append_cancel_right rest own (desc ∷ []) (sym is ∙ own_is) in
    (λ i. record { expr = whole_once rest x.expr y.expr whole (subst (λ us. IsWhole us y.expr) (sym same) own_whole) i; desc = (at ∙ sym own_at) i })

key_lacks : (mark : Token) → is_inner mark ≡ false → desc ≢ mark → (ts : List Token) (x : Key) → IsKey ts x → Lacks mark ts
key_lacks mark outer other ts x (inl h) = expr_lacks mark outer ts h.1
key_lacks mark outer other ts x (inr (at, rest, is, whole)) = subst (Lacks mark) (sym is) (lacks-append mark rest (desc ∷ []) (expr_lacks mark outer rest whole) (other, tt))

column_once : (ts : List Token) (n m : List ℕ) → IsColumn ts n → IsColumn ts m → n ≡ m
column_once ts n m (t, is, named) (u, other, others) =
    let both : t ∷ [] ≡ u ∷ [] = sym is ∙ other in
    let same : t ≡ u = cc in
    name_once t n m named (subst (λ w. IsName w m) (sym same) others)

column_lacks : (mark : Token) → is_inner mark ≡ false → (ts : List Token) (n : List ℕ) → IsColumn ts n → Lacks mark ts
column_lacks mark outer ts n (t, is, named) = subst (Lacks mark) (sym is) (inner_lacks mark outer (t ∷ []) (name_inner t n named, tt))

items_once : (ts : List Token) (xs ys : List Item) → Listed IsItem ts xs → Listed IsItem ts ys → xs ≡ ys
items_once = listed_once IsItem item_once (item_lacks comma refl (λ e. cc))

items_lack : (mark : Token) → is_inner mark ≡ false → comma ≢ mark → token.Sign sign.Is ≢ mark → (ts : List Token) (xs : List Item) → Listed IsItem ts xs → Lacks mark ts
items_lack mark outer no_comma no_is = listed_lacks IsItem item_once (item_lacks comma refl (λ e. cc)) mark no_comma (item_lacks mark outer no_is)

keys_once : (ts : List Token) (xs ys : List Key) → Listed IsKey ts xs → Listed IsKey ts ys → xs ≡ ys
keys_once = listed_once IsKey key_once (key_lacks comma refl (λ e. cc))

keys_lack : (ts : List Token) (xs : List Key) → Listed IsKey ts xs → Lacks bar ts
keys_lack = listed_lacks IsKey key_once (key_lacks comma refl (λ e. cc)) bar (λ e. cc) (key_lacks bar refl (λ e. cc))

columns_once : (ts : List Token) (xs ys : List (List ℕ)) → Listed IsColumn ts xs → Listed IsColumn ts ys → xs ≡ ys
columns_once = listed_once IsColumn column_once (column_lacks comma refl)

columns_lack : (ts : List Token) (xs : List (List ℕ)) → Listed IsColumn ts xs → Lacks bar ts
columns_lack = listed_lacks IsColumn column_once (column_lacks comma refl) bar (λ e. cc) (column_lacks bar refl)

-- the names behind `on`
abbrev Named : List Token → List (List ℕ) → Type 0
Named ts on = (rest : List Token) × (ts ≡ token.Word (codes "on") ∷ rest) × Listed IsColumn rest on

named_once : (ts : List Token) (on other : List (List ℕ)) → Named ts on → Named ts other → on ≡ other
named_once ts on other (rest, is, listed) (more, own, others) =
    let both : token.Word (codes "on") ∷ rest ≡ token.Word (codes "on") ∷ more = sym is ∙ own in
    let same : rest ≡ more = cc in
    columns_once rest on other listed (subst (λ us. Listed IsColumn us other) (sym same) others)

named_lacks : (ts : List Token) (on : List (List ℕ)) → Named ts on → Lacks bar ts
named_lacks ts on (rest, is, listed) = subst (Lacks bar) (sym is) ((λ e. cc), columns_lack rest on listed)

on_once : (h : JoinType) (ts : List Token) (on other : List (List ℕ)) → IsOn h ts on → IsOn h ts other → on ≡ other
on_once how.Cross ts on other h k = h.1 ∙ sym k.1
on_once how.Inner ts on other h k = named_once ts on other h k
on_once how.Left ts on other h k = named_once ts on other h k
on_once how.Right ts on other h k = named_once ts on other h k
on_once how.Full ts on other h k = named_once ts on other h k
on_once how.Semi ts on other h k = named_once ts on other h k
on_once how.Anti ts on other h k = named_once ts on other h k

on_lacks : (h : JoinType) (ts : List Token) (on : List (List ℕ)) → IsOn h ts on → Lacks bar ts
on_lacks how.Cross ts on h = subst (Lacks bar) (sym h.0) tt
on_lacks how.Inner ts on h = named_lacks ts on h
on_lacks how.Left ts on h = named_lacks ts on h
on_lacks how.Right ts on h = named_lacks ts on h
on_lacks how.Full ts on h = named_lacks ts on h
on_lacks how.Semi ts on h = named_lacks ts on h
on_lacks how.Anti ts on h = named_lacks ts on h

-- the join that a word names, where it names one
abbrev how_in : Token → JoinType
how_in (token.Word word) =
    if bytes_eq word (codes "inner") then how.Inner
    else (if bytes_eq word (codes "left") then how.Left
    else (if bytes_eq word (codes "right") then how.Right
    else (if bytes_eq word (codes "full") then how.Full
    else (if bytes_eq word (codes "semi") then how.Semi
    else (if bytes_eq word (codes "anti") then how.Anti
    else how.Cross)))))
how_in _ = how.Cross

how_back : (h : JoinType) → how_in (token.Word (how_word h)) ≡ h
how_back how.Inner = refl
how_back how.Left = refl
how_back how.Right = refl
how_back how.Full = refl
how_back how.Semi = refl
how_back how.Anti = refl
how_back how.Cross = refl

-- which stage begins with the first token, and which stage one is
abbrev stage_at : List Token → ℕ
stage_at (token.Word word ∷ ts) =
    if bytes_eq word (codes "filter") then 1
    else (if bytes_eq word (codes "select") then 2
    else (if bytes_eq word (codes "with") then 3
    else (if bytes_eq word (codes "group") then 4
    else (if bytes_eq word (codes "sort") then 5
    else (if bytes_eq word (codes "slice") then 6
    else (if bytes_eq word (codes "distinct") then 7
    else 8))))))
stage_at _ = 0

abbrev stage_number : Stage → ℕ
stage_number (Filter predicate) = 1
stage_number (Select items) = 2
stage_number (With items) = 3
stage_number (Group keys aggs) = 4
stage_number (Sort keys) = 5
stage_number (Slice offset length) = 6
stage_number Distinct = 7
stage_number (Join kept table on) = 8

stage_begins : (ts : List Token) (stage : Stage) → IsStage ts stage → stage_at ts ≡ stage_number stage
stage_begins ts (Filter predicate) (rest, is, h) = ap stage_at is
stage_begins ts (Select items) (rest, is, h) = ap stage_at is
stage_begins ts (With items) (rest, is, h) = ap stage_at is
stage_begins ts (Group keys aggs) (first, rest, is, h, k) = ap stage_at is
stage_begins ts (Sort keys) (rest, is, h) = ap stage_at is
stage_begins ts (Slice offset length) (from, digits, is, h, token, n, low) = ap stage_at is
stage_begins ts Distinct is = ap stage_at is
stage_begins ts (Join kept table on) (t, rest, is, h, k) = ap stage_at is

-- two stages of the same tokens are of one sort
alike : (ts : List Token) (stage other : Stage) → IsStage ts stage → IsStage ts other → stage_number stage ≡ stage_number other
alike ts stage other h k = sym (stage_begins ts stage h) ∙ stage_begins ts other k

behind_word : {word : List ℕ} {rest more : List Token} {ts : List Token} → ts ≡ token.Word word ∷ rest → ts ≡ token.Word word ∷ more → rest ≡ more
behind_word {word = word} {rest = rest} {more = more} is other = let both : token.Word word ∷ rest ≡ token.Word word ∷ more = sym is ∙ other in cc

filter_once : (ts : List Token) (predicate : Expr) (other : Stage) → IsStage ts (Filter predicate) → IsStage ts other → Filter predicate ≡ other
filter_once ts predicate (Filter own) (rest, is, h) (more, same, k) = ap Filter (whole_once rest predicate own h (subst (λ us. IsWhole us own) (sym (behind_word is same)) k))
filter_once ts predicate other h k = absurd (omega (arith, alike ts (Filter predicate) other h k))

select_once : (ts : List Token) (items : List Item) (other : Stage) → IsStage ts (Select items) → IsStage ts other → Select items ≡ other
select_once ts items (Select own) (rest, is, h) (more, same, k) = ap Select (items_once rest items own h (subst (λ us. Listed IsItem us own) (sym (behind_word is same)) k))
select_once ts items other h k = absurd (omega (arith, alike ts (Select items) other h k))

with_once : (ts : List Token) (items : List Item) (other : Stage) → IsStage ts (With items) → IsStage ts other → With items ≡ other
with_once ts items (With own) (rest, is, h) (more, same, k) = ap With (items_once rest items own h (subst (λ us. Listed IsItem us own) (sym (behind_word is same)) k))
with_once ts items other h k = absurd (omega (arith, alike ts (With items) other h k))

group_once : (ts : List Token) (keys aggs : List Item) (other : Stage) → IsStage ts (Group keys aggs) → IsStage ts other → Group keys aggs ≡ other
group_once ts keys aggs (Group own others) (first, rest, is, h, k) (front, more, same, m, n) =
    let begun : first ++ agg ∷ rest ≡ front ++ agg ∷ more = behind_word is same in
    let cut = stops_once agg first front (agg ∷ rest) (agg ∷ more) (items_lack agg refl (λ e. cc) (λ e. cc) first keys h) (items_lack agg refl (λ e. cc) (λ e. cc) front own m) (inr (rest, refl)) (inr (more, refl)) begun in
    let behinds : rest ≡ more = behind_word refl cut.1 in
    let firsts : keys ≡ own = items_once first keys own h (subst (λ us. Listed IsItem us own) (sym cut.0) m) in
    let seconds : aggs ≡ others = items_once rest aggs others k (subst (λ us. Listed IsItem us others) (sym behinds) n) in
    (λ i. Group (firsts i) (seconds i))
group_once ts keys aggs other h k = absurd (omega (arith, alike ts (Group keys aggs) other h k))

sort_once : (ts : List Token) (keys : List Key) (other : Stage) → IsStage ts (Sort keys) → IsStage ts other → Sort keys ≡ other
sort_once ts keys (Sort own) (rest, is, h) (more, same, k) = ap Sort (keys_once rest keys own h (subst (λ us. Listed IsKey us own) (sym (behind_word is same)) k))
sort_once ts keys other h k = absurd (omega (arith, alike ts (Sort keys) other h k))

-- the last of some tokens
last_once : (xs ys : List Token) (t u : Token) → xs ++ t ∷ [] ≡ ys ++ u ∷ [] → (xs ≡ ys) × (t ≡ u)
last_once [] [] t u is = let same : t ≡ u = cc in (refl, same)
last_once [] (y ∷ []) t u is = let none : [] ≡ u ∷ [] = cc in cc
last_once [] (y ∷ z ∷ ys) t u is = let none : [] ≡ z ∷ (ys ++ u ∷ []) = cc in cc
last_once (x ∷ []) [] t u is = let none : t ∷ [] ≡ [] = cc in cc
last_once (x ∷ z ∷ xs) [] t u is = let none : z ∷ (xs ++ t ∷ []) ≡ [] = cc in cc
last_once (x ∷ xs) (y ∷ ys) t u is =
    let head : x ≡ y = cc in
    let tail : xs ++ t ∷ [] ≡ ys ++ u ∷ [] = cc in
    let rest = last_once xs ys t u tail in
    ((λ i. head i ∷ rest.0 i), rest.1)

slice_once : (ts : List Token) (offset : ℤ) (length : ℕ) (other : Stage) → IsStage ts (Slice offset length) → IsStage ts other → Slice offset length ≡ other
slice_once ts offset length (Slice own long) (from, digits, is, h, token_is, n, low) (front, figures, same, k, own_token, m, own_low) =
    let cut = last_once from front (token.Digits digits) (token.Digits figures) (behind_word is same) in
    let all : digits ≡ figures = let both : token.Digits digits ≡ token.Digits figures = cut.1 in cc in
    let offsets : offset ≡ own = integer_once from offset own h (subst (λ us. IsInteger us own) (sym cut.0) k) in
    let lengths : length ≡ long = n ∙ ap number all ∙ sym m in
    (λ i. Slice (offsets i) (lengths i))
slice_once ts offset length other h k = absurd (omega (arith, alike ts (Slice offset length) other h k))

distinct_once : (ts : List Token) (other : Stage) → IsStage ts Distinct → IsStage ts other → Distinct ≡ other
distinct_once ts Distinct h k = refl
distinct_once ts other h k = absurd (omega (arith, alike ts Distinct other h k))

join_once : (ts : List Token) (kept : JoinType) (table : List ℕ) (on : List (List ℕ)) (other : Stage) → IsStage ts (Join kept table on) → IsStage ts other → Join kept table on ≡ other
join_once ts kept table on (Join own name names) (t, rest, is, h, k) (u, more, same, m, n) =
    let begun : token.Word (how_word kept) ∷ t ∷ rest ≡ token.Word (how_word own) ∷ u ∷ more = behind_word is same in
    let word : token.Word (how_word kept) ≡ token.Word (how_word own) = cc in
    let tokens : t ≡ u = cc in
    let tail : rest ≡ more = cc in
    let hows : kept ≡ own = sym (how_back kept) ∙ ap how_in word ∙ how_back own in
    let tables : table ≡ name = name_once t table name h (subst (λ w. IsName w name) (sym tokens) m) in
    let ons : on ≡ names = on_once kept rest on names k (subst (λ us. IsOn kept us names) (sym tail) (subst (λ w. IsOn w more names) (sym hows) n)) in
    (λ i. Join (hows i) (tables i) (ons i))
join_once ts kept table on other h k = absurd (omega (arith, alike ts (Join kept table on) other h k))

stage_once : (ts : List Token) (stage other : Stage) → IsStage ts stage → IsStage ts other → stage ≡ other
stage_once ts (Filter predicate) other h k = filter_once ts predicate other h k
stage_once ts (Select items) other h k = select_once ts items other h k
stage_once ts (With items) other h k = with_once ts items other h k
stage_once ts (Group keys aggs) other h k = group_once ts keys aggs other h k
stage_once ts (Sort keys) other h k = sort_once ts keys other h k
stage_once ts (Slice offset length) other h k = slice_once ts offset length other h k
stage_once ts Distinct other h k = distinct_once ts other h k
stage_once ts (Join kept table on) other h k = join_once ts kept table on other h k

-- no `|` stands in a stage
stage_lacks : (ts : List Token) (stage : Stage) → IsStage ts stage → Lacks bar ts
stage_lacks ts (Filter predicate) (rest, is, h) = subst (Lacks bar) (sym is) ((λ e. cc), expr_lacks bar refl rest h)
stage_lacks ts (Select items) (rest, is, h) = subst (Lacks bar) (sym is) ((λ e. cc), items_lack bar refl (λ e. cc) (λ e. cc) rest items h)
stage_lacks ts (With items) (rest, is, h) = subst (Lacks bar) (sym is) ((λ e. cc), items_lack bar refl (λ e. cc) (λ e. cc) rest items h)
stage_lacks ts (Group keys aggs) (first, rest, is, h, k) =
    subst (Lacks bar) (sym is) ((λ e. cc), lacks-append bar first (agg ∷ rest) (items_lack bar refl (λ e. cc) (λ e. cc) first keys h) ((λ e. cc), items_lack bar refl (λ e. cc) (λ e. cc) rest aggs k))
stage_lacks ts (Sort keys) (rest, is, h) = subst (Lacks bar) (sym is) ((λ e. cc), keys_lack rest keys h)
stage_lacks ts (Slice offset length) (from, digits, is, h, token_is, n, low) =
    subst (Lacks bar) (sym is) ((λ e. cc), lacks-append bar from (token.Digits digits ∷ []) (inner_lacks bar refl from (integer_inner from offset h)) ((λ e. cc), tt))
stage_lacks ts Distinct is = subst (Lacks bar) (sym is) ((λ e. cc), tt)
stage_lacks ts (Join kept table on) (t, rest, is, h, k) =
    subst (Lacks bar) (sym is) ((λ e. cc), ((λ e. cc), ((inner_lacks bar refl (t ∷ []) (name_inner t table h, tt)).0, on_lacks kept rest on k)))

-- what is left of a query begins with `|`
stages_stop : (ts : List Token) (stages : List Stage) → AreStages ts stages → Stops bar ts
stages_stop ts [] is = inl is
stages_stop ts (stage ∷ stages) (first, rest, is, h, k) = inr (first ++ rest, is)

stages_once : (ts : List Token) (stages others : List Stage) → AreStages ts stages → AreStages ts others → stages ≡ others
stages_once ts [] [] h k = refl
stages_once ts [] (stage ∷ stages) h (first, rest, is, at, more) = let both : [] ≡ bar ∷ (first ++ rest) = sym h ∙ is in cc
stages_once ts (stage ∷ stages) [] (first, rest, is, at, more) k = let both : [] ≡ bar ∷ (first ++ rest) = sym k ∙ is in cc
stages_once ts (stage ∷ stages) (other ∷ others) (first, rest, is, at, more) (front, behind, own, own_at, own_more) =
    let both : bar ∷ (first ++ rest) ≡ bar ∷ (front ++ behind) = sym is ∙ own in
    let begun : first ++ rest ≡ front ++ behind = cc in
    let cut = stops_once bar first front rest behind (stage_lacks first stage at) (stage_lacks front other own_at) (stages_stop rest stages more) (stages_stop behind others own_more) begun in
    let heads : stage ≡ other = stage_once first stage other at (subst (λ us. IsStage us other) (sym cut.0) own_at) in
    let tails : stages ≡ others = stages_once rest stages others more (subst (λ us. AreStages us others) (sym cut.1) own_more) in
    (λ i. heads i ∷ tails i)

query_once : (ts : List Token) (query other : Query) → IsQuery ts query → IsQuery ts other → query ≡ other
query_once ts query other (t, rest, is, h, k) (u, more, same, m, n) =
    let begun : t ∷ rest ≡ u ∷ more = behind_word is same in
    let tokens : t ≡ u = cc in
    let tail : rest ≡ more = cc in
    let sources : query.source ≡ other.source = name_once t query.source other.source h (subst (λ w. IsName w other.source) (sym tokens) m) in
    let all : query.stages ≡ other.stages = stages_once rest query.stages other.stages k (subst (λ us. AreStages us other.stages) (sym tail) n) in
    (λ i. record { source = sources i; stages = all i })

pub one_reading : (text : List ℕ) (query other : Query) → ReadsAs text query → ReadsAs text other → query ≡ other
one_reading text query other h k =
    let tokens : h.tokens ≡ k.tokens = one_cut text h.tokens k.tokens h.cut k.cut in
    query_once h.tokens query other h.is_query (subst (λ ts. IsQuery ts other) (sym tokens) k.is_query)
