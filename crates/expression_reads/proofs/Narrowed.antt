-- Expressions over a table that has some columns of another one.
use Rattle.std.proofs.Common.{◌≡◌, ℕ, ◌<◌, Bool, true, false, cond, List, [], ◌∷◌, length, get_or, refl, sym, ap, subst, ◌∙◌}
use Rattle.std.specs.Prelude.{IsTrue, Option, Some, None, is_some, map, unwrap_or, ◌||◌}
use Rattle.std.specs.Cmp.Lexicographic.{bytes_decides}
use Rattle.std.specs.Str.{bytes_eq}
use Rattle.std.proofs.lemmas.List.{get_or-map, length-map}
use Rattle.std.proofs.lemmas.List.Quantifiers.{position-Some}
use Rattle.std.proofs.lemmas.Option.{same_Some}
use Rattle.ps_frame.proofs.NamePlaces.{is_some-position}
use Rattle.ps_frame.specs.Causes.{value}
use Rattle.ps_frame.specs.Eval.{eval}
use Rattle.ps_frame.specs.Frames.{has_name}
use Rattle.ps_frame.specs.Tables.{Fields, Frame, field_index, field_kind, table_column, values_at, values_at_some, whole}
use Rattle.ps_frame.specs.Trees.{Tree}
use Rattle.ps_frame.specs.Typing.{kind_over}
use Rattle.ps_frame.specs.declared.value.DataType.{DataType}
use Rattle.ps_frame.specs.declared.value.DataType.TheVariants as kind
use Rattle.ps_frame.specs.declared.value.Value.{Value}
use Rattle.ps_frame.specs.declared.value.Value.TheVariants as val
use Rattle.ps_meaning.specs.Distinct.{picked, places_in}
use Rattle.ps_meaning.specs.Schemas.{both as both_of, named_fields, names_of}
use Rattle.ps_meaning.specs.Steps.{Name}
use Rattle.expression_reads.specs.Reads.{HasColumnsOf, HasWhatIsRead}
use Rattle.expression_reads.proofs.Agreeing.{IsSameIn, same_column, same_kind}

-- a name stands where it has a kind
pub kind_as : (name : Name) (s : Fields) → is_some (field_kind name s) ≡ has_name name s
kind_as name [] = refl
kind_as name (f ∷ s) = by (bytes_eq name f.0) (kind_as name s)
  where
    by : (b : Bool) → is_some (field_kind name s) ≡ has_name name s → is_some (cond b (Some f.1) (field_kind name s)) ≡ (b || has_name name s)
    by true e = refl
    by false e = e

place_of : (o : Option ℕ) → is_some o ≡ true → (k : ℕ) × (o ≡ Some k)
place_of None h = cc
place_of (Some k) h = (k, refl)

none_of : {A : Type 0} (o : Option A) → is_some o ≡ false → o ≡ None
none_of None h = refl
none_of (Some k) h = cc

-- named fields have the kinds that they have in the schema
kinds_same : (s t : Fields) (name : Name) → named_fields (names_of s) t ≡ Some s → has_name name s ≡ true → field_kind name s ≡ field_kind name t
kinds_same [] t name e h = cc
kinds_same (f ∷ s) t name e h = by (field_kind f.0 t) (named_fields (names_of s) t) refl refl e (bytes_eq name f.0) refl h (kinds_same s t name)
  where
    by : (o : Option DataType) (r : Option Fields) → field_kind f.0 t ≡ o → named_fields (names_of s) t ≡ r → both_of (λ (k : DataType) (fs : Fields). (f.0, k) ∷ fs) o r ≡ Some (f ∷ s)
        → (b : Bool) → bytes_eq name f.0 ≡ b → (b || has_name name s) ≡ true → (named_fields (names_of s) t ≡ Some s → has_name name s ≡ true → field_kind name s ≡ field_kind name t)
        → cond b (Some f.1) (field_kind name s) ≡ field_kind name t
    by None r p q e b i h more = cc
    by (Some k) None p q e b i h more = cc
    by (Some k) (Some fs) p q e true i h more =
        let all : (f.0, k) ∷ fs ≡ f ∷ s = same_Some ((f.0, k) ∷ fs) (f ∷ s) e in
        let first : (f.0, k) ≡ f = cc in
        let same : name ≡ f.0 = (bytes_decides name f.0).0 i in
        ap (λ (g : Name × DataType). Some g.1) (sym first) ∙ sym p ∙ ap (λ n. field_kind n t) (sym same)
    by (Some k) (Some fs) p q e false i h more =
        let all : (f.0, k) ∷ fs ≡ f ∷ s = same_Some ((f.0, k) ∷ fs) (f ∷ s) e in
        let rest : fs ≡ s = cc in
        more (q ∙ ap Some rest) h

module _ (all few : Frame) (has : HasColumnsOf all few) where
  abbrev places : List ℕ
  places = places_in (names_of few.schema) all.schema

  -- the column that stands at k among the kept ones and at j among all
  values_same : (j k : ℕ) → ((row : List Value) → get_or (picked places row) k val.Null ≡ get_or row j val.Null) → (rows : List (List Value)) → values_at k (map (picked places) rows) ≡ values_at j rows
  values_same j k same [] = refl
  values_same j k same (row ∷ rows) = let p = same row in let q = values_same j k same rows in λ i. p i ∷ q i

  pub height : length few.rows ≡ length all.rows
  height = ap length has.rows ∙ length-map all.rows (picked places)

  kept_column : (name : Name) → has_name name few.schema ≡ true → table_column name (whole few) ≡ table_column name (whole all)
  kept_column name there =
      let s = few.schema in
      let t = all.schema in
      let ns = names_of s in
      let K = place_of (field_index name s) (is_some-position (λ f. bytes_eq name f.0) s ∙ there) in
      let in_all : has_name name t ≡ true = sym (kind_as name t) ∙ ap is_some (sym (kinds_same s t name has.fields there)) ∙ kind_as name s ∙ there in
      let J = place_of (field_index name t) (is_some-position (λ f. bytes_eq name f.0) t ∙ in_all) in
      let k = K.0 in
      let none : Name × DataType = (name, kind.Boolean) in
      let p = position-Some (λ f. bytes_eq name f.0) s k none K.1 in
      let lt : k < length ns = subst (λ n. k < n) (sym (length-map s (λ f. f.0))) p.0 in
      let own : name ≡ (get_or s k none).0 = (bytes_decides name (get_or s k none).0).0 p.1 in
      let stands : get_or ns k name ≡ name = get_or-map (λ (f : Name × DataType). f.0) s k none name p.0 ∙ sym own in
      let place : get_or places k 0 ≡ J.0 =
      get_or-map (λ n. unwrap_or (field_index n t) 0) ns k name 0 lt ∙ ap (λ n. unwrap_or (field_index n t) 0) stands ∙ ap (λ o. unwrap_or o 0) J.1 in
      let lt' : k < length places = subst (λ n. k < n) (sym (length-map ns (λ n. unwrap_or (field_index n t) 0))) lt in
      let same : (row : List Value) → get_or (picked places row) k val.Null ≡ get_or row J.0 val.Null =
      λ row. get_or-map (λ m. get_or row m val.Null) places k 0 val.Null lt' ∙ ap (λ m. get_or row m val.Null) place in
      let cells =
      ap (λ o. map value (values_at_some o few.rows)) K.1
      ∙ ap (λ rows. map value (values_at k rows)) has.rows
      ∙ ap (map value) (values_same J.0 k same all.rows)
      ∙ sym (ap (λ o. map value (values_at_some o all.rows)) J.1) in
      λ i. record { cells = cells i; broken = []; lost = [] }

  -- a name that stands in neither has no column in either
  absent_column : (name : Name) → has_name name few.schema ≡ false → has_name name all.schema ≡ false → table_column name (whole few) ≡ table_column name (whole all)
  absent_column name h g =
      let p = none_of (field_index name few.schema) (is_some-position (λ f. bytes_eq name f.0) few.schema ∙ h) in
      let q = none_of (field_index name all.schema) (is_some-position (λ f. bytes_eq name f.0) all.schema ∙ g) in
      let cells = ap (λ o. map value (values_at_some o few.rows)) p ∙ sym (ap (λ o. map value (values_at_some o all.rows)) q) in
      λ i. record { cells = cells i; broken = []; lost = [] }

  same_in : (name : Name) → (IsTrue (has_name name all.schema) → IsTrue (has_name name few.schema)) → IsSameIn (whole few) (whole all) name
  same_in name h = by (has_name name few.schema) (has_name name all.schema) refl refl
    where
      by : (b c : Bool) → has_name name few.schema ≡ b → has_name name all.schema ≡ c → IsSameIn (whole few) (whole all) name
      by true c p q = record { column = kept_column name p; kind = kinds_same few.schema all.schema name has.fields p }
      by false true p q = let r = h q in cc
      by false false p q = record {
        column = absent_column name p q;
        kind = none_of (field_kind name few.schema) (kind_as name few.schema ∙ p) ∙ sym (none_of (field_kind name all.schema) (kind_as name all.schema ∙ q));
      }

pub read-column : (node : ℕ) (all few : Frame) (t : Tree) → HasWhatIsRead all few t → eval node (whole few) t ≡ eval node (whole all) t
read-column node all few t has =
    same_column (λ name. IsTrue (has_name name all.schema) → IsTrue (has_name name few.schema)) (whole few) (whole all) (same_in all few has.columns) node (height all few has.columns) refl t has.names

pub read-kind : (all few : Frame) (t : Tree) → HasWhatIsRead all few t → kind_over few.schema t ≡ kind_over all.schema t
read-kind all few t has =
    same_kind (λ name. IsTrue (has_name name all.schema) → IsTrue (has_name name few.schema)) (whole few) (whole all) (same_in all few has.columns) t has.names
