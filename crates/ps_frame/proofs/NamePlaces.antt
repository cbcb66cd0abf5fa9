-- Where names stand, and a map that finds them.
use Rattle.std.proofs.Common.{◌≡◌, ℕ, zero, suc, ◌+◌, ◌<◌, ◌≤◌, take, get_or, length, List, [], ◌∷◌, ◌++◌, Bool, true, false, IsTrue, refl, sym, ◌∙◌, ap, subst, arith}
use Rattle.std.specs.Prelude.{not, ◌||◌, if◌then◌else◌, nat_lt, is_some, Option, Some, None, option_map, position}
use Rattle.std.specs.List.{position_or_len, list_any}
use Rattle.std.specs.Cmp.{nat_eq_equiv}
use Rattle.std.specs.Cmp.Lexicographic.{bytes_decides, lists_equiv}
use Rattle.std.specs.BTreeMap.{BTreeMap, get_by_text}
use Rattle.std.specs.Str.{bytes_eq}
use Rattle.std.specs.declared.string.String.{String}
use Rattle.std.proofs.lemmas.Bool.{lt-ltb}
use Rattle.std.proofs.lemmas.List.{length-append, length-take, take_more}
use Rattle.ps_frame.proofs.Lists.{both}
use Rattle.ps_frame.proofs.Names.{distinct-append, not-true, or-false, or-parts}
use Rattle.ps_frame.specs.Frames.{has_distinct_names, has_name}
use Rattle.ps_frame.specs.Places.{AreFound, FindsEach}
use Rattle.ps_frame.specs.Tables.{Fields, field_index}
use Rattle.ps_frame.specs.declared.value.DataType.{DataType}

-- where the first item that passes stands, from the front on
position-here : {A : Type 0} (p : A → Bool) (x : A) (xs : List A) → p x ≡ true → position p (x ∷ xs) ≡ Some 0
position-here p x xs e =
    let start : position_or_len p (x ∷ xs) ≡ 0 = ap (λ b. if not b then 1 + position_or_len p xs else 0) e in
    let lt : nat_lt (position_or_len p (x ∷ xs)) (length (x ∷ xs)) ≡ true = lt-ltb _ _ (omega arith) in
    ap (λ b. if b then Some (position_or_len p (x ∷ xs)) else None) lt ∙ ap (λ n. Some n) start

later : (m n i : ℕ) → i ≡ suc m → (if nat_lt i (suc n) then Some i else None) ≡ option_map (λ k. suc k) (if nat_lt m n then Some m else None)
later m n i e = grind arith

position-later : {A : Type 0} (p : A → Bool) (x : A) (xs : List A) → p x ≡ false → position p (x ∷ xs) ≡ option_map (λ k. suc k) (position p xs)
position-later p x xs e =
    let start : position_or_len p (x ∷ xs) ≡ 1 + position_or_len p xs = ap (λ b. if not b then 1 + position_or_len p xs else 0) e in
    later (position_or_len p xs) (length xs) (position_or_len p (x ∷ xs)) (omega arith)

-- one more item at the end that doesn't pass
front-step : {A : Type 0} (p : A → Bool) (x : A) (xs : List A) (y : A) (b : Bool) → p x ≡ b → position p (xs ++ y ∷ []) ≡ position p xs → position p (x ∷ (xs ++ y ∷ [])) ≡ position p (x ∷ xs)
front-step p x xs y true q rest = position-here p x (xs ++ y ∷ []) q ∙ sym (position-here p x xs q)
front-step p x xs y false q rest = position-later p x (xs ++ y ∷ []) q ∙ ap (option_map (λ k. suc k)) rest ∙ sym (position-later p x xs q)

position-front : {A : Type 0} (p : A → Bool) (xs : List A) (y : A) → p y ≡ false → position p (xs ++ y ∷ []) ≡ position p xs
position-front p [] y e = position-later p y [] e
position-front p (x ∷ xs) y e = front-step p x xs y (p x) refl (position-front p xs y e)

-- one more that is the first to pass
position-end : {A : Type 0} (p : A → Bool) (xs : List A) (y : A) → p y ≡ true → list_any p xs ≡ false → position p (xs ++ y ∷ []) ≡ Some (length xs)
position-end p [] y e n = position-here p y [] e
position-end p (x ∷ xs) y e n =
    position-later p x (xs ++ y ∷ []) (or-parts (p x) (list_any p xs) n).0 ∙ ap (option_map (λ k. suc k)) (position-end p xs y e (or-parts (p x) (list_any p xs) n).1)

-- an item that passes has a place
is_some-later : (o : Option ℕ) → is_some (option_map (λ k. suc k) o) ≡ is_some o
is_some-later None = refl
is_some-later (Some k) = refl

some-step : {A : Type 0} (p : A → Bool) (x : A) (xs : List A) (b : Bool) → p x ≡ b → is_some (position p xs) ≡ list_any p xs → is_some (position p (x ∷ xs)) ≡ (b || list_any p xs)
some-step p x xs true q rest = ap is_some (position-here p x xs q)
some-step p x xs false q rest = ap is_some (position-later p x xs q) ∙ is_some-later (position p xs) ∙ rest

pub is_some-position : {A : Type 0} (p : A → Bool) (xs : List A) → is_some (position p xs) ≡ list_any p xs
is_some-position p [] = refl
is_some-position p (x ∷ xs) = some-step p x xs (p x) refl (is_some-position p xs)

-- a map in which one more name has its place
pub finds-more : {A : Type 0} (fields : Fields) (f : List ℕ × DataType) (i : ℕ) (before after : BTreeMap (String A) ℕ)
    → FindsEach fields before → has_name f.0 fields ≡ false → i ≡ length fields
    → ((other : List ℕ) → get_by_text after other ≡ (if bytes_eq f.0 other then Some i else get_by_text before other)) → FindsEach (fields ++ f ∷ []) after
finds-more fields f i before after found absent last put name = put name ∙ by (bytes_eq f.0 name) refl
  where
    symmetric : bytes_eq name f.0 ≡ bytes_eq f.0 name
    symmetric = (lists_equiv nat_eq_equiv).symm name f.0

    by : (b : Bool) → bytes_eq f.0 name ≡ b → (if b then Some i else get_by_text before name) ≡ field_index name (fields ++ f ∷ [])
    by true q =
        let same : f.0 ≡ name = (bytes_decides f.0 name).0 q in
        ap (λ n. Some n) last ∙ sym (position-end (λ g. bytes_eq name g.0) fields f (symmetric ∙ q) (ap (λ (n : List ℕ). has_name n fields) (sym same) ∙ absent))
    by false q = found name ∙ sym (position-front (λ g. bytes_eq name g.0) fields f (symmetric ∙ q))

-- a name that isn't there differs from each that is
apart : (name : List ℕ) (fields : Fields) (i : ℕ) (f : List ℕ × DataType) → has_name name fields ≡ false → i < length fields → f ≡ get_or fields i f → bytes_eq name f.0 ≡ false
apart name [] i f e h is = absurd (omega arith)
apart name (x ∷ fields) zero f e h is = rw is (or-parts (bytes_eq name x.0) (has_name name fields) e).0
apart name (x ∷ fields) (suc i) f e h is = apart name fields i f (or-parts (bytes_eq name x.0) (has_name name fields) e).1 (omega arith) is

-- of names that differ, none stands before its own place
pub not-before : (fields : Fields) (i : ℕ) (f : List ℕ × DataType) → IsTrue (has_distinct_names fields) → i < length fields → f ≡ get_or fields i f → has_name f.0 (take i fields) ≡ false
not-before fields zero f d h is = refl
not-before [] (suc i) f d h is = absurd (omega arith)
not-before (x ∷ fields) (suc i) f d h is =
    let parts = both (not (has_name x.0 fields)) (has_distinct_names fields) d in
    let differs : bytes_eq f.0 x.0 ≡ false = (lists_equiv nat_eq_equiv).symm f.0 x.0 ∙ apart x.0 fields i f (not-true (has_name x.0 fields) parts.0) (omega arith) is in
    or-false (bytes_eq f.0 x.0) (has_name f.0 (take i fields)) differs (not-before fields i f parts.1 (omega arith) is)

-- one more of the names has its place
pub finds-step : {A : Type 0} (fields : Fields) (i : ℕ) (f : List ℕ × DataType) (name : List ℕ) (before after : BTreeMap (String A) ℕ)
    → IsTrue (has_distinct_names fields) → i < length fields → f ≡ get_or fields i f → name ≡ f.0 → FindsEach (take i fields) before
    → ((other : List ℕ) → get_by_text after other ≡ (if bytes_eq name other then Some i else get_by_text before other)) → FindsEach (take (i + 1) fields) after
finds-step fields i f name before after d h is named found put other =
    let last : i ≡ length (take i fields) = simp length-take (omega arith) in
    let more : take (i + 1) fields ≡ take i fields ++ f ∷ [] = take_more fields i f h ∙ ap (λ (g : List ℕ × DataType). take i fields ++ g ∷ []) (sym is) in
    finds-more (take i fields) f i before after found (not-before fields i f d h is) last
    (λ o. put o ∙ ap (λ (n : List ℕ). if bytes_eq n o then Some i else get_by_text before o) named) other
    ∙ sym (ap (field_index other) more)

-- many names with a map that finds them, and a few without one
pub found-many : {A : Type 0} (many : ℕ) (fields : Fields) (map : BTreeMap (String A) ℕ) → IsTrue (has_distinct_names fields) → many ≤ length fields → FindsEach fields map → AreFound many fields (Some map)
found-many many fields map d h found = record {
  distinct = d;
  mapped = (λ _. h, λ _. refl);
  found = λ other is. let same : map ≡ other = cc in subst (λ m. FindsEach fields m) same found;
}

pub found-few : {A : Type 0} (many : ℕ) (fields : Fields) → IsTrue (has_distinct_names fields) → length fields < many → AreFound {A = A} many fields None
found-few many fields d h = record {
  distinct = d;
  mapped = (λ is. cc, λ le. absurd (omega arith));
  found = λ other is. cc;
}

-- one more name, beside the map
pub found-more : {A : Type 0} (many : ℕ) (fields : Fields) (f : List ℕ × DataType) (before after : BTreeMap (String A) ℕ)
    → IsTrue (has_distinct_names fields) → has_name f.0 fields ≡ false → many ≤ length fields + 1 → FindsEach fields before
    → ((other : List ℕ) → get_by_text after other ≡ (if bytes_eq f.0 other then Some (length fields) else get_by_text before other)) → AreFound many (fields ++ f ∷ []) (Some after)
found-more many fields f before after d absent h found put =
    let enough : many ≤ length (fields ++ f ∷ []) = simp length-append (omega arith) in
    found-many many (fields ++ f ∷ []) after (distinct-append fields f d absent) enough (finds-more fields f (length fields) before after found absent refl put)

pub found-few-more : {A : Type 0} (many : ℕ) (fields : Fields) (f : List ℕ × DataType) → IsTrue (has_distinct_names fields) → has_name f.0 fields ≡ false → length fields + 1 < many → AreFound {A = A} many (fields ++ f ∷ []) None
found-few-more many fields f d absent h =
    let few : length (fields ++ f ∷ []) < many = simp length-append (omega arith) in found-few many (fields ++ f ∷ []) (distinct-append fields f d absent) few
