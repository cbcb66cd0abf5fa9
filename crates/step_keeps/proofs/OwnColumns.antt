-- All columns of a table under their own names, in order, are the table.
use Rattle.std.proofs.Common.{◌≡◌, ℕ, zero, suc, ◌<◌, Bool, true, false, ◌&&◌, List, [], ◌∷◌, length, get_or, Option, Some, None, refl, sym, ap, ◌∙◌, arith}
use Rattle.std.proofs.lemmas.Option.{same_Some}
use Rattle.std.proofs.lemmas.Simd.{map-map}
use Rattle.std.proofs.lemmas.Slice.Eq.{bytes_eq-Decides}
use Rattle.std.specs.Prelude.{map, not, unwrap_or}
use Rattle.std.specs.List.{AllByRecursion}
use Rattle.std.specs.Str.{bytes_eq}
use Rattle.ps_frame.proofs.Lists.{both}
use Rattle.ps_frame.specs.Frames.{has_distinct_names, has_name}
use Rattle.ps_frame.specs.Tables.{Fields, Table, field_index, field_kind}
use Rattle.ps_frame.specs.Zip.{below}
use Rattle.ps_frame.specs.declared.value.DataType.{DataType}
use Rattle.ps_frame.specs.declared.value.DataType.TheVariants as kind
use Rattle.ps_frame.specs.declared.value.Value.{Value}
use Rattle.ps_frame.specs.declared.value.Value.TheVariants as val
use Rattle.ps_meaning.specs.Cases.{projected}
use Rattle.ps_meaning.specs.Distinct.{picked, places_in}
use Rattle.ps_meaning.specs.Schemas.{both as both_of, named_fields, names_of}
use Rattle.ps_meaning.specs.Steps.{Name}
use Rattle.ps_meaning.proofs.Begins.{map-below}
use Rattle.ps_meaning.proofs.EvalFits.{first-place, next-place}
use Rattle.ps_meaning.proofs.OneInput.{places-all}
use Rattle.ps_meaning.proofs.StepFits.{apart, not-true, or-parts, own-kinds, same-name}
use Rattle.ps_rules.specs.Slots.{same_names}

pub same_names_itself : (ns : List Name) → same_names ns ns ≡ true
same_names_itself [] = refl
same_names_itself (n ∷ ns) = ap (λ (b : Bool). b && same_names ns ns) (same-name n) ∙ same_names_itself ns

pub same_names_are : (ms ns : List Name) → same_names ms ns ≡ true → ms ≡ ns
same_names_are [] [] e = refl
same_names_are [] (n ∷ ns) e = cc
same_names_are (m ∷ ms) [] e = cc
same_names_are (m ∷ ms) (n ∷ ns) e =
    let b = both (bytes_eq m n) (same_names ms ns) e in
    let first : m ≡ n = (bytes_eq-Decides m n).0 b.0 in
    let rest = same_names_are ms ns b.1 in
    λ i. first i ∷ rest i

-- the names of named columns
pub named_names : (ns : List Name) (s fs : Fields) → named_fields ns s ≡ Some fs → names_of fs ≡ ns
named_names [] s fs e = ap names_of (sym (same_Some [] fs e))
named_names (n ∷ ns) s fs e = by (field_kind n s) (named_fields ns s) e (named_names ns s)
  where
    by : (o : Option DataType) (r : Option Fields) → both_of (λ (k : DataType) (gs : Fields). (n, k) ∷ gs) o r ≡ Some fs → ((gs : Fields) → r ≡ Some gs → names_of gs ≡ ns) → names_of fs ≡ n ∷ ns
    by None None e more = cc
    by None (Some gs) e more = cc
    by (Some k) None e more = cc
    by (Some k) (Some gs) e more = ap names_of (sym (same_Some ((n, k) ∷ gs) fs e)) ∙ ap (λ ms. n ∷ ms) (more gs refl)

abbrev Field : Type 0
Field = Name × DataType

abbrev no_field : Field
no_field = ([], kind.Int64)

-- a name that no field has isn't that of one
other_name : (name : Name) (fs : Fields) (i : ℕ) → i < length fs → has_name name fs ≡ false → bytes_eq name (get_or fs i no_field).0 ≡ false
other_name name [] i h e = absurd (omega arith)
other_name name (f ∷ fs) zero h e = (or-parts (bytes_eq name f.0) (has_name name fs) e).0
other_name name (f ∷ fs) (suc i) h e = other_name name fs i (omega arith) (or-parts (bytes_eq name f.0) (has_name name fs) e).1

-- each field stands where its name is found
own_place : (s : Fields) (i : ℕ) → has_distinct_names s ≡ true → i < length s → field_index (get_or s i no_field).0 s ≡ Some i
own_place [] i e h = absurd (omega arith)
own_place (f ∷ fs) zero e h = first-place f.0 f fs (same-name f.0)
own_place (f ∷ fs) (suc i) e h =
    let parts = both (not (has_name f.0 fs)) (has_distinct_names fs) e in
    let lt : i < length fs = omega arith in
    next-place (get_or fs i no_field).0 f fs i (apart f.0 (get_or fs i no_field).0 (other_name f.0 fs i lt (not-true (has_name f.0 fs) parts.0))) (own_place fs i parts.1 lt)

-- the values of a row at the places of all names
pub own_values : (s : Fields) (row : List Value) → has_distinct_names s ≡ true → length row ≡ length s → picked (places_in (names_of s) s) row ≡ row
own_values s row d wide =
    let place : Name → ℕ = λ n. unwrap_or (field_index n s) 0 in
    let value : ℕ → Value = λ k. get_or row k val.Null in
    let field : ℕ → Field = λ i. get_or s i no_field in
    let all = below (length s) in
    ap (λ (fs : Fields). map value (map place (map (λ (f : Field). f.0) fs))) (sym (places-all s no_field))
    ∙ ap (λ (ns : List Name). map value (map place ns)) (map-map (λ (f : Field). f.0) field all)
    ∙ ap (map value) (map-map place (λ i. (field i).0) all)
    ∙ map-map value (λ i. place (field i).0) all
    ∙ map-below (length s) (λ i. value (place (field i).0)) value (λ i h. ap (λ o. value (unwrap_or o 0)) (own_place s i d h))
    ∙ ap (λ n. map value (below n)) (sym wide)
    ∙ places-all row val.Null

own_rows : (s : Fields) (rows : List (List Value)) → has_distinct_names s ≡ true → AllByRecursion (λ (row : List Value). length row ≡ length s) rows → map (picked (places_in (names_of s) s)) rows ≡ rows
own_rows s [] d wide = refl
own_rows s (row ∷ rows) d wide = let first = own_values s row d wide.0 in let rest = own_rows s rows d wide.1 in λ i. first i ∷ rest i

pub own_table : (s : Fields) (t : Table) → t.schema ≡ s → has_distinct_names s ≡ true → AllByRecursion (λ (row : List Value). length row ≡ length s) t.rows → projected (names_of s) s t ≡ t
own_table s t e d wide =
    let rows : map (picked (places_in (names_of s) t.schema)) t.rows ≡ t.rows = ap (λ (fs : Fields). map (picked (places_in (names_of s) fs)) t.rows) e ∙ own_rows s t.rows d wide in
    λ i. record { schema = sym e i; rows = rows i; broken = t.broken }

-- all fields under their own names are the schema
pub own_fields : (given s : Fields) → AllByRecursion (λ (f : Field). field_kind f.0 given ≡ Some f.1) s → named_fields (names_of s) given ≡ Some s
own_fields given [] own = refl
own_fields given (f ∷ s) own =
    let k = own.0 in
    let rest = own_fields given s own.1 in
    λ i. both_of (λ (k : DataType) (fs : Fields). (f.0, k) ∷ fs) (k i) (rest i)

pub all_fields : (s : Fields) → has_distinct_names s ≡ true → named_fields (names_of s) s ≡ Some s
all_fields s d = own_fields s s (own-kinds s d)
