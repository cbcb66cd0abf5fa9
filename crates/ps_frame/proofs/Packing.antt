-- Few values that stand in many cells.
use Rattle.std.proofs.Common.{◌≡◌, ℕ, ◌+◌, ◌<◌, List, [], ◌∷◌, ◌++◌, length, take, drop, get_or, refl, sym, ◌∙◌, ap, Bool, true, false, Option, Result, Ok, Err, OnErr, append_assoc, arith, length-drop}
use Rattle.std.specs.Prelude.{if◌then◌else◌, map, slice_get, Some}
use Rattle.std.specs.List.{All, AllByRecursion}
use Rattle.std.proofs.lemmas.List.{get_or_append_left, get_or_at, map-append, take_more, take_all, take-append-drop}
use Rattle.std.proofs.lemmas.List.Elements.{recursion_from_All}
use Rattle.std.proofs.lemmas.Option.{get_or_from_slice_get}
use Rattle.ps_frame.proofs.Gathers.{below-places, take-value}
use Rattle.ps_frame.specs.Frames.{above}
use Rattle.ps_frame.specs.Gathered.{picked, value_or_null}
use Rattle.ps_frame.specs.Pushed.{with_value}
use Rattle.ps_frame.specs.Series.{Series}
use Rattle.ps_frame.specs.Zip.{below}
use Rattle.ps_frame.specs.declared.value.DataType.{DataType}
use Rattle.ps_frame.specs.declared.value.Value.{Value}
use Rattle.ps_frame.specs.declared.value.Value.TheVariants as val

module _ {A : Type 0} (d : A) where
  -- one more place
  pub through-push : (few : List A) (places new : List ℕ) (place : ℕ) (x : A) → get_or few place d ≡ x → new ≡ places ++ place ∷ [] → map (λ i. get_or few i d) new ≡ map (λ i. get_or few i d) places ++ x ∷ []
  through-push few places new place x there made =
      ap (map (λ i. get_or few i d)) made ∙ map-append (λ i. get_or few i d) places (place ∷ [])
      ∙ ap (λ y. map (λ i. get_or few i d) places ++ y ∷ []) there

  -- one more item behind those that are picked
  through-each : (few : List A) (x : A) (places : List ℕ) → AllByRecursion (λ i. i < length few) places → map (λ i. get_or (few ++ x ∷ []) i d) places ≡ map (λ i. get_or few i d) places
  through-each few x [] h = refl
  through-each few x (i ∷ places) h =
      ap (λ y. y ∷ map (λ i. get_or (few ++ x ∷ []) i d) places) (get_or_append_left few (x ∷ []) d i h.0)
      ∙ ap (λ ys. get_or few i d ∷ ys) (through-each few x places h.1)

  pub through-wider : (few wide : List A) (x : A) (places : List ℕ) → All (λ i. i < length few) places → wide ≡ few ++ x ∷ [] → map (λ i. get_or wide i d) places ≡ map (λ i. get_or few i d) places
  through-wider few wide x places h made =
      ap (λ xs. map (λ i. get_or xs i d) places) made ∙ through-each few x places (recursion_from_All (λ i. i < length few) places h)

  -- and its place
  pub through-new : (few wide : List A) (x : A) (places new : List ℕ) (n : ℕ) → All (λ i. i < length few) places → wide ≡ few ++ x ∷ [] → n ≡ length few → new ≡ places ++ n ∷ [] → map (λ i. get_or wide i d) new ≡ map (λ i. get_or few i d) places ++ x ∷ []
  through-new few wide x places new n h made is more =
      through-push wide places new n x (ap (λ xs. get_or xs n d) made ∙ get_or_at few x [] d n (sym is)) more
      ∙ ap (λ xs. xs ++ x ∷ []) (through-wider few wide x places h made)

-- what a refused call promises, and what a call does that is taken, and one that isn't
pub on_err : {T E P : Type 0} (r : Result T E) → P → OnErr r P
on_err (Ok x) p = tt
on_err (Err e) p = p

pub was_taken : (taken : Bool) (before after new : Series) → new ≡ (if taken then after else before) → taken ≡ true → new ≡ after
was_taken taken before after new h e = h ∙ ap (λ (t : Bool). if t then after else before) e

pub was_left : (taken : Bool) (before after new : Series) → new ≡ (if taken then after else before) → taken ≡ false → new ≡ before
was_left taken before after new h e = h ∙ ap (λ (t : Bool). if t then after else before) e

-- a column by its kind and values
abbrev typed : DataType → List Value → Series
typed k vs = record { kind = k; values = vs }

-- what is packed, once a value was pushed
module _ (k : DataType) (few : List Value) (places : List ℕ) (t : Series) (v : Value) where
  pub packed-again : (new : List ℕ) (place : ℕ) → typed k (picked (Some places) few) ≡ t → slice_get few place ≡ Some v → new ≡ places ++ place ∷ [] → typed k (picked (Some new) few) ≡ with_value t v
  packed-again new place view there made =
      ap (typed k) (through-push val.Null few places new place v (get_or_from_slice_get few place v val.Null there) made) ∙ ap (λ (c : Series). with_value c v) view

  pub packed-wider : (wide : List Value) → typed k (picked (Some places) few) ≡ t → All (λ i. i < length few) places → wide ≡ few ++ v ∷ [] → typed k (picked (Some places) wide) ≡ t
  packed-wider wide view h made = ap (typed k) (through-wider val.Null few wide v places h made) ∙ view

  pub packed-new : (wide : List Value) (new : List ℕ) (n : ℕ) → typed k (picked (Some places) few) ≡ t → All (λ i. i < length few) places → wide ≡ few ++ v ∷ [] → n ≡ length few → new ≡ places ++ n ∷ [] → typed k (picked (Some new) wide) ≡ with_value t v
  packed-new wide new n view h made is more = ap (typed k) (through-new val.Null few wide v places new n h made is more) ∙ ap (λ (c : Series). with_value c v) view

-- values that stand each at its own place
pub picked-in_order : (few : List Value) (places : List ℕ) → places ≡ below (length places) → length few ≡ length places → picked (Some places) few ≡ few
picked-in_order few places e h =
    ap (map (λ i. get_or few i val.Null)) (e ∙ ap below (sym h)) ∙ below-places few val.Null

-- one more value of many
pub pushed-more : (k : DataType) (vs : List Value) (i : ℕ) (v : Value) (t new : Series) → t ≡ typed k (take i vs) → new ≡ with_value t v → slice_get vs i ≡ Some v → new ≡ typed k (take (i + 1) vs)
pushed-more k vs i v t new before made here = made ∙ ap (λ (c : Series). with_value c v) before ∙ ap (typed k) (sym (take-value vs i v here))

-- one more value above which others stand
pub pushed-below : (start : Series) (vs : List Value) (i : ℕ) (v : Value) (t new : Series) → t ≡ typed start.kind (start.values ++ take i vs) → new ≡ with_value t v → slice_get vs i ≡ Some v
    → new ≡ typed start.kind (start.values ++ take (i + 1) vs)
pushed-below start vs i v t new before made here =
    made ∙ ap (λ (c : Series). with_value c v) before
    ∙ ap (typed start.kind) (append_assoc start.values (take i vs) (v ∷ []) ∙ ap (λ ws. start.values ++ ws) (sym (take-value vs i v here)))

-- one more row
pub pushed-row : (c : Series) (rows : List (Option ℕ)) (i : ℕ) (row d : Option ℕ) (t new : Series) → t ≡ typed c.kind (map (λ place. value_or_null c.values place) (take i rows)) → new ≡ with_value t (value_or_null c.values row)
    → i < length rows → row ≡ get_or rows i d → new ≡ typed c.kind (map (λ place. value_or_null c.values place) (take (i + 1) rows))
pushed-row c rows i row d t new before made there is =
    made ∙ ap (λ (u : Series). with_value u (value_or_null c.values row)) before
    ∙ ap (typed c.kind) (sym (
    ap (map (λ place. value_or_null c.values place)) (take_more rows i d there)
    ∙ map-append (λ place. value_or_null c.values place) (take i rows) (get_or rows i d ∷ [])
    ∙ ap (λ r. map (λ place. value_or_null c.values place) (take i rows) ++ value_or_null c.values r ∷ []) (sym is)
    ))

-- two columns one above the other, pushed one after the other
pub above-both : (upper lower none one two : Series) → none ≡ typed upper.kind [] → one ≡ above none upper → two ≡ above one lower → two ≡ above upper lower
above-both upper lower none one two e f g = g ∙ ap (λ (c : Series). above c lower) (f ∙ ap (λ (c : Series). above c upper) e)

-- the first values of a column put at the end, and then the others
pub above-parts : (start c one part : Series) (n len : ℕ) → one ≡ typed start.kind (start.values ++ take n c.values) → part ≡ typed c.kind (take len (drop n c.values)) → len ≡ length c.values → above one part ≡ above start c
above-parts start c one part n len e f g =
    (λ t. above (e t) (f t))
    ∙ ap (typed start.kind) (
    append_assoc start.values (take n c.values) (take len (drop n c.values))
    ∙ ap (λ vs. start.values ++ (take n c.values ++ vs)) (take_all len (drop n c.values) (omega (arith, length-drop n c.values)))
    ∙ ap (λ vs. start.values ++ vs) (take-append-drop n c.values)
    )
