-- Schemas that are put together field by field.
use Rattle.std.proofs.Common.{◌≡◌, Ok, Err, Result, ltb-true, ℕ, zero, suc, ◌+◌, ◌<◌, ◌≤◌, Bool, true, false, cond, List, [], ◌∷◌, ◌++◌, refl, sym, ap, ◌∙◌, arith, length, take, drop, get_or, add-one, take_all}
use Rattle.std.specs.Prelude.{IsTrue, None, OnOk, nat_lt, not, Option, Some, option_map, slice_get, ◌&&◌}
use Rattle.std.specs.Cmp.Lexicographic.{bytes_decides}
use Rattle.std.specs.List.{position_or_len}
use Rattle.std.specs.Str.{bytes_eq}
use Rattle.std.proofs.lemmas.List.{append_assoc}
use Rattle.std.proofs.lemmas.Option.{same_Some}
use Rattle.ps_frame.specs.Tables.{Fields, field_index, field_kind}
use Rattle.ps_frame.specs.declared.refusal.PolarsError.{PolarsError}
use Rattle.ps_frame.specs.declared.value.DataType.{DataType}
use Rattle.ps_meaning.specs.Schemas.{both, named_fields, names_of}
use Rattle.ps_meaning.specs.Steps.{Name}
use Rattle.ps_rules.specs.Slots.{same_names}

-- names of another number are other names
other_length : (ns ms : List Name) → (length ns ≡ length ms → ⊥) → same_names ns ms ≡ false
other_length [] [] h = absurd (h refl)
other_length [] (m ∷ ms) h = refl
other_length (n ∷ ns) [] h = refl
other_length (n ∷ ns) (m ∷ ms) h = by (bytes_eq n m) (other_length ns ms (λ e. h (ap suc e)))
  where
    by : (b : Bool) → same_names ns ms ≡ false → (b && same_names ns ms) ≡ false
    by true rest = rest
    by false rest = refl

names_length : (s : Fields) → length (names_of s) ≡ length s
names_length [] = refl
names_length (f ∷ s) = ap suc (names_length s)

pub others : (ns : List Name) (s : Fields) → (length ns ≡ length s → ⊥) → false ≡ same_names ns (names_of s)
others ns s h = sym (other_length ns (names_of s) (λ e. h (e ∙ names_length s)))

-- the first names are compared, and then the others
pub same_step : (ns : List Name) (s : Fields) (i : ℕ) (n : Name) → i < length ns → option_map (λ (f : Name × DataType). f.0) (slice_get s i) ≡ Some n
    → same_names (drop i ns) (names_of (drop i s)) ≡ (bytes_eq (get_or ns i []) n && same_names (drop (i + 1) ns) (names_of (drop (i + 1) s)))
same_step ns s i n lt e = rw add-one (by ns s i lt e)
  where
    by : (ns : List Name) (s : Fields) (i : ℕ) → i < length ns → option_map (λ (f : Name × DataType). f.0) (slice_get s i) ≡ Some n
        → same_names (drop i ns) (names_of (drop i s)) ≡ (bytes_eq (get_or ns i []) n && same_names (drop (suc i) ns) (names_of (drop (suc i) s)))
    by [] s i lt e = absurd (omega arith)
    by (m ∷ ns) [] i lt e = cc
    by (m ∷ ns) (f ∷ s) zero lt e = ap (λ k. bytes_eq m k && same_names ns (names_of s)) (same_Some f.0 n e)
    by (m ∷ ns) (f ∷ s) (suc i) lt e = by ns s i (omega arith) e

-- one more field of a front
pub front_more : (s : Fields) (i : ℕ) (n : Name) (k : DataType) → option_map (λ (f : Name × DataType). f.0) (slice_get s i) ≡ Some n → option_map (λ (f : Name × DataType). f.1) (slice_get s i) ≡ Some k
    → take (i + 1) s ≡ take i s ++ (n, k) ∷ []
front_more s i n k e h = rw add-one (by s i e h)
  where
    by : (s : Fields) (i : ℕ) → option_map (λ (f : Name × DataType). f.0) (slice_get s i) ≡ Some n → option_map (λ (f : Name × DataType). f.1) (slice_get s i) ≡ Some k → take (suc i) s ≡ take i s ++ (n, k) ∷ []
    by [] i e h = cc
    by (f ∷ s) zero e h = λ j. (same_Some f.0 n e j, same_Some f.1 k h j) ∷ []
    by (f ∷ s) (suc i) e h = ap (λ more. f ∷ more) (by s i e h)

pub pushed_step : (old now next s : Fields) (i : ℕ) (n : Name) (k : DataType) → option_map (λ (f : Name × DataType). f.0) (slice_get s i) ≡ Some n → option_map (λ (f : Name × DataType). f.1) (slice_get s i) ≡ Some k
    → next ≡ now ++ (n, k) ∷ [] → now ≡ old ++ take i s → next ≡ old ++ take (i + 1) s
pushed_step old now next s i n k e h w g = w ∙ ap (λ fs. fs ++ (n, k) ∷ []) g ∙ append_assoc old (take i s) ((n, k) ∷ []) ∙ ap (λ fs. old ++ fs) (sym (front_more s i n k e h))

pub pushed_end : (old now s : Fields) (i : ℕ) → length s ≤ i → now ≡ old ++ take i s → now ≡ old ++ s
pushed_end old now s i le g = g ∙ ap (λ fs. old ++ fs) (take_all i s le)

-- the place of the first field of a name, or how many fields there are
abbrev first_of : Name → Fields → ℕ
first_of name s = position_or_len (λ (g : Name × DataType). bytes_eq name g.0) s

kind_at : (name : Name) (s : Fields) → first_of name s < length s → option_map (λ (f : Name × DataType). f.1) (slice_get s (first_of name s)) ≡ field_kind name s
kind_at name [] lt = absurd (omega arith)
kind_at name (f ∷ s) lt = by (bytes_eq name f.0) refl (kind_at name s)
  where
    by : (b : Bool) → bytes_eq name f.0 ≡ b → (first_of name s < length s → option_map (λ (f : Name × DataType). f.1) (slice_get s (first_of name s)) ≡ field_kind name s)
        → option_map (λ (f : Name × DataType). f.1) (slice_get (f ∷ s) (first_of name (f ∷ s))) ≡ field_kind name (f ∷ s)
    by true q go =
        ap (λ n. option_map (λ (f : Name × DataType). f.1) (slice_get (f ∷ s) n)) (ap (λ b. cond (not b) (1 + first_of name s) 0) q) ∙ sym (ap (λ b. cond b (Some f.1) (field_kind name s)) q)
    by false q go =
        let e : first_of name (f ∷ s) ≡ suc (first_of name s) = ap (λ b. cond (not b) (1 + first_of name s) 0) q ∙ omega arith in
        ap (λ n. option_map (λ (f : Name × DataType). f.1) (slice_get (f ∷ s) n)) e ∙ go (omega (arith, e)) ∙ sym (ap (λ b. cond b (Some f.1) (field_kind name s)) q)

found : (n m i : ℕ) (b : Bool) → nat_lt n m ≡ b → cond b (Some n) None ≡ Some i → (n < m) × (n ≡ i)
found n m i true q e = (ltb-true n m q, cc)
found n m i false q e = cc

-- the kind of a column that is found at a place
pub kind_there : (name : Name) (s : Fields) (i : ℕ) (k : DataType) → field_index name s ≡ Some i → option_map (λ (f : Name × DataType). f.1) (slice_get s i) ≡ Some k → field_kind name s ≡ Some k
kind_there name s i k e h =
    let at = found (first_of name s) (length s) i (nat_lt (first_of name s) (length s)) refl e in
    sym (kind_at name s at.0) ∙ ap (λ n. option_map (λ (f : Name × DataType). f.1) (slice_get s n)) at.1 ∙ h

-- whether two names are one
pub are_same : (r : Bool) (a b x y : Name) → (IsTrue r → a ≡ b) → (a ≡ b → IsTrue r) → a ≡ x → b ≡ y → bytes_eq x y ≡ r
are_same true a b x y f g p q = (bytes_decides x y).1 (sym p ∙ f refl ∙ q)
are_same false a b x y f g p q = by (bytes_eq x y) refl
  where
    by : (c : Bool) → bytes_eq x y ≡ c → bytes_eq x y ≡ false
    by false e = e
    by true e = let h : false ≡ true = g (p ∙ (bytes_decides x y).0 e ∙ sym q) in cc

pub same_front : (ns : List Name) (i : ℕ) (d : Name) → i < length ns → get_or ns i d ≡ get_or ns i []
same_front [] i d lt = absurd (omega arith)
same_front (n ∷ ns) zero d lt = refl
same_front (n ∷ ns) (suc i) d lt = same_front ns i d (omega arith)

-- one comparison more
pub compared : (ns : List Name) (s : Fields) (i : ℕ) (own n text : Name) (r : Bool) → i < length ns → option_map (λ (f : Name × DataType). f.0) (slice_get s i) ≡ Some n → own ≡ get_or ns i own → text ≡ n
    → (IsTrue r → own ≡ text) × (own ≡ text → IsTrue r) → same_names ns (names_of s) ≡ same_names (drop i ns) (names_of (drop i s))
    → same_names ns (names_of s) ≡ (r && same_names (drop (i + 1) ns) (names_of (drop (i + 1) s)))
compared ns s i own n text r lt e o w d h =
    h ∙ same_step ns s i n lt e ∙ ap (λ b. b && same_names (drop (i + 1) ns) (names_of (drop (i + 1) s))) (are_same r own text (get_or ns i []) n d.0 d.1 (o ∙ same_front ns i own lt) w)

fields_last : (ns : List Name) (n : Name) (s fs : Fields) (k : DataType) → named_fields ns s ≡ Some fs → field_kind n s ≡ Some k → named_fields (ns ++ n ∷ []) s ≡ Some (fs ++ (n, k) ∷ [])
fields_last [] n s fs k e h = ap (λ o. both (λ k fs. (n, k) ∷ fs) o (Some [])) h ∙ ap (λ gs. Some (gs ++ (n, k) ∷ [])) (same_Some [] fs e)
fields_last (m ∷ ns) n s fs k e h = by (field_kind m s) (named_fields ns s) refl e (λ gs q. fields_last ns n s gs k q h)
  where
    by : (o : Option DataType) (p : Option Fields) → named_fields ns s ≡ p → both (λ k fs. (m, k) ∷ fs) o p ≡ Some fs → ((gs : Fields) → named_fields ns s ≡ Some gs → named_fields (ns ++ n ∷ []) s ≡ Some (gs ++ (n, k) ∷ []))
        → both (λ k fs. (m, k) ∷ fs) o (named_fields (ns ++ n ∷ []) s) ≡ Some (fs ++ (n, k) ∷ [])
    by None p q e go = cc
    by (Some j) None q e go = cc
    by (Some j) (Some gs) q e go = ap (λ p. both (λ k fs. (m, k) ∷ fs) (Some j) p) (go gs q) ∙ ap (λ hs. Some (hs ++ (n, k) ∷ [])) (same_Some ((m, j) ∷ gs) fs e)

take_more : (ns : List Name) (i : ℕ) → i < length ns → take (i + 1) ns ≡ take i ns ++ get_or ns i [] ∷ []
take_more ns i lt = rw add-one (by ns i lt)
  where
    by : (ns : List Name) (i : ℕ) → i < length ns → take (suc i) ns ≡ take i ns ++ get_or ns i [] ∷ []
    by [] i lt = absurd (omega arith)
    by (n ∷ ns) zero lt = refl
    by (n ∷ ns) (suc i) lt = ap (λ more. n ∷ more) (by ns i (omega arith))

pub fields_step : (ns : List Name) (s now next : Fields) (i : ℕ) (k : DataType) (own : Name) → i < length ns → own ≡ get_or ns i own → field_kind own s ≡ Some k → next ≡ now ++ (own, k) ∷ [] → named_fields (take i ns) s ≡ Some now
    → named_fields (take (i + 1) ns) s ≡ Some next
fields_step ns s now next i k own lt o g v e =
    let same = o ∙ same_front ns i own lt in
    let h : field_kind (get_or ns i []) s ≡ Some k = ap (λ n. field_kind n s) (sym same) ∙ g in
    let w : next ≡ now ++ (get_or ns i [], k) ∷ [] = v ∙ ap (λ n. now ++ (n, k) ∷ []) same in
    ap (λ xs. named_fields xs s) (take_more ns i lt) ∙ fields_last (take i ns) (get_or ns i []) s now k e h ∙ ap (λ fs. Some fs) (sym w)

-- a column of another schema, pushed
pub column_pushed : (r : Result (Unit {0}) PolarsError) (name copy : Name) (place : ℕ) (k : DataType) (s old new : Fields) → field_index name s ≡ Some place → option_map (λ (f : Name × DataType). f.1) (slice_get s place) ≡ Some k → copy ≡ name
    → OnOk r (new ≡ old ++ (copy, k) ∷ []) → OnOk r ((x : DataType) × (field_kind name s ≡ Some x) × (new ≡ old ++ (name, x) ∷ []))
column_pushed (Ok x) name copy place k s old new i e c h = (k, kind_there name s place k i e, h ∙ ap (λ n. old ++ (n, k) ∷ []) c)
column_pushed (Err x) name copy place k s old new i e c h = tt
