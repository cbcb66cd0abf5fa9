-- A filter's table and faults.
use Rattle.std.proofs.Common.{◌≡◌, ℕ, List, [], ◌∷◌, ◌++◌, length, take, get_or, replicate, Bool, true, false, refl, sym, ◌∙◌, ap, inl, inr, arith}
use Rattle.std.specs.Prelude.{Contains, map, filter as passing, if◌then◌else◌, slice_get, Some}
use Rattle.std.specs.List.{AllByRecursion}
use Rattle.ps_frame.specs.Causes.{Cause}
use Rattle.ps_frame.specs.Frames.{all_beside, kept, column_values}
use Rattle.ps_frame.specs.Functions.{Functions}
use Rattle.ps_frame.specs.Tables.{Frame, beside, rows_of, whole}
use Rattle.ps_frame.specs.Trees.{Tree}
use Rattle.ps_frame.specs.Series.{Series}
use Rattle.ps_frame.specs.Typing.{kind_over}
use Rattle.ps_frame.specs.Values.{is_true}
use Rattle.ps_frame.specs.declared.refusal.PolarsError.{PolarsError}
use Rattle.ps_frame.specs.declared.value.DataType.{DataType}
use Rattle.ps_frame.specs.declared.value.Value.{Value}
use Rattle.ps_frame.specs.declared.value.Value.TheVariants as val
use Rattle.ps_meaning.specs.Cases.{IsCaseBrokenBy, keyed, table_of, where_true, width}
use Rattle.ps_meaning.specs.Nodes.{GivesFrame, MayFault}
use Rattle.ps_meaning.specs.Steps.{filter}
use Rattle.ps_rows.proofs.Rows.{get-front, take-front}
use Rattle.ps_rows.proofs.Steps.{may-fault, table}
use Rattle.ps_rows.specs.Keyed.{IsTableWithKeys}
use Rattle.ps_zip.specs.Zips.{IsZipError, expr_kinds}

-- the rows beside which the mask is true
where-kept : (w : ℕ) (rows : List (List Value)) (ms : List Value) → AllByRecursion (λ row. length row ≡ w) rows → length ms ≡ length rows → where_true w (all_beside rows (beside ms (replicate (length rows) []))) ≡ kept ms rows
where-kept w [] [] a e = refl
where-kept w [] (m ∷ ms) a e = cc
where-kept w (row ∷ rows) [] a e = cc
where-kept w (row ∷ rows) (m ∷ ms) a e =
    ap (λ v. map (take w) (if is_true v then (row ++ m ∷ []) ∷ rest else rest)) (get-front row m val.Null w a.0)
    ∙ by (is_true m) (where-kept w rows ms a.1 (omega arith))
  where
    rest : List (List Value)
    rest = passing (λ row. is_true (get_or row w val.Null)) (all_beside rows (beside ms (replicate (length rows) [])))

    by : (b : Bool) → map (take w) rest ≡ kept ms rows → map (take w) (if b then (row ++ m ∷ []) ∷ rest else rest) ≡ (if b then row ∷ kept ms rows else kept ms rows)
    by true ih = λ i. take-front row (m ∷ []) w a.0 i ∷ ih i
    by false ih = ih

-- a single key is the mask
record IsMask (n : ℕ) (keys : List Series) (k : DataType) : Type 0 where
  mask : Series
  only : keys ≡ mask ∷ []
  kind : mask.kind ≡ k
  height : length mask.values ≡ n

only-mask : (n : ℕ) (keys : List Series) (k : DataType) → map (λ (c : Series). Some c.kind) keys ≡ Some k ∷ [] → AllByRecursion (λ (c : Series). length c.values ≡ n) keys → IsMask n keys k
only-mask n [] k e h = cc
only-mask n (c ∷ d ∷ keys) k e h = cc
only-mask n (c ∷ []) k e h = record { mask = c; only = refl; kind = cc; height = h.0 }

module _ (at : ℕ) (e : Tree) (t : Frame) (k : DataType) (is : kind_over t.schema e ≡ Some k) where
  pub mask-of : (m : Frame) (keys : List Series) → IsTableWithKeys (keyed at (e ∷ []) (whole t)) t.schema (expr_kinds t.schema (e ∷ [])) m keys
      → (mask : Series) × (keys ≡ mask ∷ []) × (mask.kind ≡ k) × (length mask.values ≡ length m.rows)
  mask-of m keys h = let o = only-mask (length m.rows) keys k (h.kinds_are ∙ ap (λ x. x ∷ []) is) h.heights in (o.mask, o.only, o.kind, o.height)

  pub filter-gives : (F : Functions) (m g : Frame) (keys : List Series) → IsTableWithKeys (keyed at (e ∷ []) (whole t)) t.schema (expr_kinds t.schema (e ∷ [])) m keys
      → g.schema ≡ m.schema → ((mask : Series) → slice_get keys 0 ≡ Some mask → g.rows ≡ kept mask.values m.rows) → GivesFrame F at (filter e) (t ∷ []) g
  filter-gives F m g keys h schema rows =
      let o = mask-of m keys h in
      let there : slice_get keys 0 ≡ Some o.0 = ap (λ (ks : List Series). slice_get ks 0) o.1 in
      let zip_rows = h.rows ∙ ap (λ (ks : List Series). all_beside m.rows (rows_of (length m.rows) (column_values ks))) o.1 in
      let rows_are = rows o.0 there ∙ sym (ap (where_true (length t.schema)) zip_rows ∙ where-kept (length t.schema) m.rows o.0.values h.widths o.3) in
      let schema_is = schema ∙ h.schema_is in
      (whole g, inl (λ i. table (schema_is i) (rows_are i) (sym h.whole_is i)), refl)

  pub filter-faults : (F : Functions) (x : PolarsError) → IsZipError at (e ∷ []) (whole t) (keyed at (e ∷ []) (whole t)) x → MayFault F at (filter e) (t ∷ []) x
  filter-faults F x h = may-fault F at (filter e) (t ∷ []) (e ∷ []) (whole t) (keyed at (e ∷ []) (whole t)) broken (λ l. l) x h
    where
      broken : (c : Cause) → Contains (keyed at (e ∷ []) (whole t)).broken c → IsCaseBrokenBy F at (filter e) (whole t ∷ []) c
      broken c m = (table_of t.schema (where_true (width (whole t))) (keyed at (e ∷ []) (whole t)), inr (inl refl), m)
