-- The rows of chosen columns.
use Rattle.std.proofs.Common.{◌≡◌, ℕ, suc, ◌+◌, ◌<◌, ◌≤◌, List, [], ◌∷◌, ◌++◌, length, take, get_or, replicate, refl, sym, ap, ◌∙◌, inl, add-one}
use Rattle.std.specs.Prelude.{Some, map, unwrap_or}
use Rattle.std.proofs.Math.Seq.{take-suc}
use Rattle.std.proofs.lemmas.List.{length-map, map-append}
use Rattle.ps_frame.specs.Aggregates.{max_rows}
use Rattle.ps_frame.specs.Frames.{AllOfHeight, HasKinds, IsFrame, column_values}
use Rattle.ps_frame.specs.Functions.{Functions}
use Rattle.ps_frame.specs.Tables.{Fields, Frame, beside, field_index, rows_of, values_at, whole}
use Rattle.ps_frame.specs.Series.{Series}
use Rattle.ps_frame.specs.declared.value.Value.{Value}
use Rattle.ps_frame.specs.declared.value.Value.TheVariants as val
use Rattle.ps_meaning.specs.Distinct.{picked, places_in}
use Rattle.ps_meaning.specs.Nodes.{GivesFrame}
use Rattle.ps_meaning.specs.Schemas.{named_fields}
use Rattle.ps_meaning.specs.Steps.{Name, project, scan}
use Rattle.ps_tables.proofs.Cuts.{table}

abbrev pub columns_at : List (List Value) → List ℕ → List (List Value)
columns_at rows ks = map (λ k. values_at k rows) ks

no-columns : (rows : List (List Value)) → replicate (length rows) [] ≡ map (picked []) rows
no-columns [] = refl
no-columns (r ∷ rows) = ap (λ more. [] ∷ more) (no-columns rows)

beside-picked : (k : ℕ) (ks : List ℕ) (rows : List (List Value)) → beside (values_at k rows) (map (picked ks) rows) ≡ map (picked (k ∷ ks)) rows
beside-picked k ks [] = refl
beside-picked k ks (r ∷ rows) = ap (λ more. picked (k ∷ ks) r ∷ more) (beside-picked k ks rows)

pub rows-picked : (rows : List (List Value)) (ks : List ℕ) → rows_of (length rows) (columns_at rows ks) ≡ map (picked ks) rows
rows-picked rows [] = no-columns rows
rows-picked rows (k ∷ ks) = ap (beside (values_at k rows)) (rows-picked rows ks) ∙ beside-picked k ks rows

pub heights-at : (rows : List (List Value)) (ks : List ℕ) (cs : List Series) (h : ℕ) → h ≡ length rows → column_values cs ≡ columns_at rows ks → AllOfHeight h cs
heights-at rows ks [] h high e = tt
heights-at rows [] (c ∷ cs) h high e = cc
heights-at rows (k ∷ ks) (c ∷ cs) h high e =
    let first : c.values ≡ values_at k rows = cc in
    let rest : column_values cs ≡ columns_at rows ks = cc in
    (ap length first ∙ length-map rows (λ row. get_or row k val.Null) ∙ sym high, heights-at rows ks cs h high rest)

-- the values of one more column
pub values-step : (rows : List (List Value)) (ns : List Name) (s : Fields) (i : ℕ) (n : Name) (c : Series) (cs new : List Series) → i < length ns → n ≡ get_or ns i n → c.values ≡ values_at (unwrap_or (field_index n s) 0) rows
    → column_values cs ≡ columns_at rows (places_in (take i ns) s) → new ≡ cs ++ c ∷ [] → column_values new ≡ columns_at rows (places_in (take (i + 1) ns) s)
values-step rows ns s i n c cs new h is values before grown =
    let place : Name → ℕ = λ n. unwrap_or (field_index n s) 0 in
    let more : columns_at rows (places_in (take (suc i) ns) s) ≡ columns_at rows (places_in (take i ns) s) ++ values_at (place n) rows ∷ [] =
    ap (λ ms. columns_at rows (places_in ms s)) (take-suc ns i n h ∙ ap (λ m. take i ns ++ m ∷ []) (sym is))
    ∙ ap (columns_at rows) (map-append place (take i ns) (n ∷ []))
    ∙ map-append (λ k. values_at k rows) (places_in (take i ns) s) (place n ∷ []) in
    rw add-one (ap column_values grown ∙ map-append (λ (c : Series). c.values) cs (c ∷ []) ∙ (λ i. before i ++ values i ∷ []) ∙ sym more)

-- Columns of names are a table, and its rows are those of the step.
module _ (t : Frame) (ns : List Name) (out : Fields) (cs : List Series) (found : named_fields ns t.schema ≡ Some out) (values : column_values cs ≡ columns_at t.rows (places_in ns t.schema)) (h : ℕ) (high : h ≡ length t.rows) where
  pub named-frame : h ≤ max_rows → HasKinds out cs → IsFrame out cs h
  named-frame small kinds = record { kinds = kinds; heights = heights-at t.rows (places_in ns t.schema) cs h high values; small = small }

  module _ (f : Frame) (schema : f.schema ≡ out) (rows : f.rows ≡ rows_of h (column_values cs)) where
    rows-are : f.rows ≡ map (picked (places_in ns t.schema)) t.rows
    rows-are = rows ∙ (λ i. rows_of (high i) (values i)) ∙ rows-picked t.rows (places_in ns t.schema)

    schema-is : f.schema ≡ unwrap_or (named_fields ns t.schema) []
    schema-is = schema ∙ ap (λ o. unwrap_or o []) (sym found)

    pub scan-gives : (F : Functions) (at : ℕ) → GivesFrame F at (scan t (Some ns)) [] f
    scan-gives F at = (whole f, inl (λ i. table (schema-is i) (rows-are i) []), refl)

    pub project-gives : (F : Functions) (at : ℕ) → GivesFrame F at (project ns) (t ∷ []) f
    project-gives F at = (whole f, inl (λ i. table (schema-is i) (rows-are i) []), refl)
