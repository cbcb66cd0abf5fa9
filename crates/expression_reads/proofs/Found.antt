-- The fields and the columns that were found, and one more of each.
use Rattle.std.proofs.Common.{◌≡◌, ℕ, ◌≤◌, Bool, true, false, List, [], ◌∷◌, ◌++◌, length, refl, sym, ap, subst, ◌∙◌}
use Rattle.std.specs.Prelude.{IsSome, IsTrue, Option, Some, None, is_some, map, slice_get, unwrap_or, ◌||◌}
use Rattle.std.specs.Cmp.Lexicographic.{bytes_decides}
use Rattle.std.specs.Str.{bytes_eq}
use Rattle.std.proofs.lemmas.List.{map-append}
use Rattle.std.proofs.lemmas.List.Folds.{list_any-append}
use Rattle.std.proofs.lemmas.Option.{same_Some}
use Rattle.ps_frame.proofs.NamePlaces.{is_some-position}
use Rattle.ps_frame.specs.Aggregates.{max_rows}
use Rattle.ps_frame.specs.Frames.{IsFrame, column_values, has_name, kinds_of}
use Rattle.ps_frame.specs.Series.{Series}
use Rattle.ps_frame.specs.Tables.{Fields, Frame, field_index, field_kind, rows_of, values_at}
use Rattle.ps_frame.specs.declared.value.DataType.{DataType}
use Rattle.ps_frame.specs.declared.value.Value.{Value}
use Rattle.ps_meaning.proofs.Fits.{all-append}
use Rattle.ps_meaning.specs.Distinct.{picked, places_in}
use Rattle.ps_meaning.specs.Schemas.{both as both_of, named_fields, names_of}
use Rattle.ps_meaning.specs.Steps.{Name}
use Rattle.ps_tables.proofs.Named.{kind-there}
use Rattle.ps_tables.proofs.Projected.{heights-at, rows-picked}
use Rattle.expression_reads.specs.Reads.{HasColumnsOf}
use Rattle.expression_reads.specs.Walks.{AllNamesPass, AreColumnsOf}
use Rattle.expression_reads.proofs.Narrowed.{kind_as}

-- one more named field
named-push : (ns : List Name) (s fs : Fields) (n : Name) (k : DataType) → named_fields ns s ≡ Some fs → field_kind n s ≡ Some k → named_fields (ns ++ n ∷ []) s ≡ Some (fs ++ (n, k) ∷ [])
named-push [] s fs n k e h =
    let none : [] ≡ fs = same_Some [] fs e in
    ap (λ o. both_of (λ (k : DataType) (fs : Fields). (n, k) ∷ fs) o (Some [])) h ∙ ap (λ (gs : Fields). Some (gs ++ (n, k) ∷ [])) none
named-push (m ∷ ns) s fs n k e h = by (field_kind m s) (named_fields ns s) refl e (λ gs q. named-push ns s gs n k q h)
  where
    by : (o : Option DataType) (r : Option Fields) → named_fields ns s ≡ r → both_of (λ (k : DataType) (fs : Fields). (m, k) ∷ fs) o r ≡ Some fs
        → ((gs : Fields) → named_fields ns s ≡ Some gs → named_fields (ns ++ n ∷ []) s ≡ Some (gs ++ (n, k) ∷ []))
        → both_of (λ (k : DataType) (fs : Fields). (m, k) ∷ fs) o (named_fields (ns ++ n ∷ []) s) ≡ Some (fs ++ (n, k) ∷ [])
    by None r q e more = cc
    by (Some j) None q e more = cc
    by (Some j) (Some gs) q e more =
        let all : (m, j) ∷ gs ≡ fs = same_Some ((m, j) ∷ gs) fs e in
        ap (both_of (λ (k : DataType) (fs : Fields). (m, k) ∷ fs) (Some j)) (more gs q) ∙ ap (λ (xs : Fields). Some (xs ++ (n, k) ∷ [])) all

-- nothing was found yet
pub none-found : (all : Frame) (fields : Fields) (columns : List Series) → fields ≡ [] → columns ≡ [] → AreColumnsOf all fields columns
none-found all fields columns e h =
    let start : AreColumnsOf all [] [] = record { fields_are = refl; kinds_are = refl; values_are = refl } in
    subst (λ cs. AreColumnsOf all fields cs) (sym h) (subst (λ fs. AreColumnsOf all fs []) (sym e) start)

-- one more column was found
pub found-more : (all : Frame) (fields now : Fields) (columns after : List Series) (name : Name) (i : ℕ) (c : Series) → field_index name all.schema ≡ Some i
    → slice_get (kinds_of all.schema) i ≡ Some c.kind → c.values ≡ values_at i all.rows → now ≡ fields ++ (name, c.kind) ∷ [] → after ≡ columns ++ c ∷ []
    → AreColumnsOf all fields columns → AreColumnsOf all now after
found-more all fields now columns after name i c stands kind values more grown h =
    let s = all.schema in
    let ns = names_of fields in
    let there : IsSome (field_kind name s) = kind_as name s ∙ sym (is_some-position (λ f. bytes_eq name f.0) s) ∙ ap is_some stands in
    let own : field_kind name s ≡ Some c.kind = kind-there name s i c.kind there stands kind in
    let names : names_of (fields ++ (name, c.kind) ∷ []) ≡ ns ++ name ∷ [] = map-append (λ (f : Name × DataType). f.0) fields ((name, c.kind) ∷ []) in
    let place : Name → ℕ = λ n. unwrap_or (field_index n s) 0 in
    let at : place name ≡ i = ap (λ o. unwrap_or o 0) stands in
    let read : List ℕ → List (List Value) = λ ks. map (λ k. values_at k all.rows) ks in
    let new : AreColumnsOf all (fields ++ (name, c.kind) ∷ []) (columns ++ c ∷ []) = record {
      fields_are = ap (λ ms. named_fields ms s) names ∙ named-push ns s fields name c.kind h.fields_are own;
      kinds_are =
          map-append (λ (x : Series). x.kind) columns (c ∷ [])
          ∙ ap (λ ks. ks ++ c.kind ∷ []) h.kinds_are
          ∙ sym (map-append (λ (f : Name × DataType). f.1) fields ((name, c.kind) ∷ []));
      values_are =
          map-append (λ (x : Series). x.values) columns (c ∷ [])
          ∙ (λ j. h.values_are j ++ values j ∷ [])
          ∙ ap (λ k. read (places_in ns s) ++ values_at k all.rows ∷ []) (sym at)
          ∙ sym (map-append (λ k. values_at k all.rows) (places_in ns s) (place name ∷ []))
          ∙ ap read (sym (map-append place ns (name ∷ [])))
          ∙ ap (λ ms. read (places_in ms s)) (sym names);
    } in
    subst (λ cs. AreColumnsOf all now cs) (sym grown) (subst (λ fs. AreColumnsOf all fs (columns ++ c ∷ [])) (sym more) new)

-- names that stand still stand, and the new one does
or-right : (p q : Bool) → q ≡ true → (p || q) ≡ true
or-right true q e = refl
or-right false q e = e

or-left : (p q : Bool) → p ≡ true → (p || q) ≡ true
or-left p q e = ap (λ b. b || q) e

pub still-stands : (fields now : Fields) (f : Name × DataType) (other : Name) → now ≡ fields ++ f ∷ [] → IsTrue (has_name other fields) → IsTrue (has_name other now)
still-stands fields now f other more h =
    ap (has_name other) more ∙ list_any-append (λ g. bytes_eq other g.0) fields (f ∷ []) ∙ or-left (has_name other fields) (has_name other (f ∷ [])) h

pub now-stands : (fields now : Fields) (name : Name) (k : DataType) → now ≡ fields ++ (name, k) ∷ [] → IsTrue (has_name name now)
now-stands fields now name k more =
    ap (has_name name) more ∙ list_any-append (λ g. bytes_eq name g.0) fields ((name, k) ∷ [])
    ∙ or-right (has_name name fields) (bytes_eq name name || false) (or-left (bytes_eq name name) false ((bytes_decides name name).1 refl))

pub not-there : (name : Name) (s : Fields) (now : Fields) → field_index name s ≡ None → IsTrue (has_name name s) → IsTrue (has_name name now)
not-there name s now e h = let f : is_some (field_index name s) ≡ true = is_some-position (λ f. bytes_eq name f.0) s ∙ h in let g : is_some (field_index name s) ≡ false = ap is_some e in cc

-- names that pass a test, and one more
pub all-pass : (p : Name → Bool) (fields now : Fields) (f : Name × DataType) → now ≡ fields ++ f ∷ [] → IsTrue (p f.0) → AllNamesPass p fields → AllNamesPass p now
all-pass p fields now f more own before = subst (AllNamesPass p) (sym more) (all-append (λ (g : Name × DataType). IsTrue (p g.0)) fields (f ∷ []) before (own, tt))

-- what was found is a table
pub found-frame : (all : Frame) (fields : Fields) (columns : List Series) (h : ℕ) → h ≡ length all.rows → h ≤ max_rows → AreColumnsOf all fields columns → IsFrame fields columns h
found-frame all fields columns h high small are = record {
  kinds = are.kinds_are;
  heights = heights-at all.rows (places_in (names_of fields) all.schema) columns h high are.values_are;
  small = small;
}

pub found-columns : (all few : Frame) (fields : Fields) (columns : List Series) (h : ℕ) → h ≡ length all.rows → AreColumnsOf all fields columns → few.schema ≡ fields → few.rows ≡ rows_of h (column_values columns) → HasColumnsOf all few
found-columns all few fields columns h high are schema rows = record {
  fields = ap (λ (s : Fields). named_fields (names_of s) all.schema) schema ∙ are.fields_are ∙ ap Some (sym schema);
  rows =
      rows ∙ (λ j. rows_of (high j) (are.values_are j)) ∙ rows-picked all.rows (places_in (names_of fields) all.schema)
      ∙ ap (λ (s : Fields). map (picked (places_in (names_of s) all.schema)) all.rows) (sym schema);
}
