-- Columns that are gathered as a table are those that are gathered one by one.
use Rattle.std.proofs.Common.{◌≡◌, ℕ, zero, suc, ◌+◌, ◌<◌, ◌≤◌, List, [], ◌∷◌, ◌++◌, length, get_or, map, take, sym, ap, subst, ◌∙◌, arith}
use Rattle.std.specs.Prelude.{Some, option_map, slice_get}
use Rattle.std.specs.List.{All}
use Rattle.std.proofs.lemmas.List.{ext_get_or, length-map}
use Rattle.std.proofs.lemmas.Option.{same_Some}
use Rattle.ps_frame.proofs.Gathers.{frame-gathered, rows_of-gathered}
use Rattle.ps_frame.proofs.Rows.{kinds_agree, same_length, values_at-rows_of}
use Rattle.ps_frame.specs.Aggregates.{max_rows}
use Rattle.ps_frame.specs.Frames.{IsFrame, column_values}
use Rattle.ps_frame.specs.Gathered.{gathered, rows_at}
use Rattle.ps_frame.specs.Series.{Series}
use Rattle.ps_frame.specs.Tables.{Fields, Frame, rows_of, values_at}
use Rattle.ps_frame.specs.declared.value.DataType.{DataType}
use Rattle.ps_frame.specs.declared.value.DataType.TheVariants as kind

-- one field more
pub field-more : (s : Fields) (i : ℕ) (n : List ℕ) (k : DataType) → option_map (λ (f : List ℕ × DataType). f.0) (slice_get s i) ≡ Some n → option_map (λ (f : List ℕ × DataType). f.1) (slice_get s i) ≡ Some k
    → take i s ++ (n, k) ∷ [] ≡ take (i + 1) s
field-more [] i n k p q = cc
field-more (f ∷ s) zero n k p q =
    let first : f.0 ≡ n = same_Some f.0 n p in
    let second : f.1 ≡ k = same_Some f.1 k q in
    λ j. (sym first j, sym second j) ∷ []
field-more (f ∷ s) (suc i) n k p q = let z : suc i + 1 ≡ suc (i + 1) = omega arith in ap (λ fs. f ∷ fs) (field-more s i n k p q) ∙ ap (λ m. take m (f ∷ s)) (sym z)

-- columns of the same kinds and the same rows are the same
module _ (s : Fields) (cs ds : List Series) (h : ℕ) (p : IsFrame s cs h) (q : IsFrame s ds h) (same : rows_of h (column_values cs) ≡ rows_of h (column_values ds)) where
  abbrev none : Series
  none = record { kind = kind.Boolean; values = [] }

  kinds : map (λ (c : Series). c.kind) cs ≡ map (λ (c : Series). c.kind) ds
  kinds = p.kinds ∙ sym q.kinds

  as-many : length cs ≡ length ds
  as-many = same_length cs ds kinds

  values : (i : ℕ) → i < length cs → (get_or cs i none).values ≡ (get_or ds i none).values
  values i within =
      sym (values_at-rows_of h i cs none p.heights within) ∙ ap (values_at i) same ∙ values_at-rows_of h i ds none q.heights (omega (arith, as-many))

  columns-same : cs ≡ ds
  columns-same = ext_get_or none cs ds as-many (λ i within.
      let k = kinds_agree cs ds i none none kinds within in
      let v = values i within in
      λ j. record { kind = k j; values = v j })

pub gathered-are : (s : Fields) (columns cs : List Series) (h : ℕ) (rows : List ℕ) (t g : Frame) → IsFrame s columns h → All (λ i. i < h) rows → length rows ≤ max_rows → t.schema ≡ s → t.rows ≡ rows_of h (column_values columns)
    → g.schema ≡ t.schema → g.rows ≡ rows_at rows t.rows → IsFrame g.schema cs (length g.rows) → g.rows ≡ rows_of (length g.rows) (column_values cs) → cs ≡ map (gathered rows) columns
gathered-are s columns cs h rows t g fields there few schema own under picked frame back =
    let n : length g.rows ≡ length rows = ap length picked ∙ length-map rows (λ i. get_or t.rows i []) in
    let frame' : IsFrame s cs (length rows) = subst (λ m. IsFrame s cs m) n (subst (λ (r : Fields). IsFrame r cs (length g.rows)) (under ∙ schema) frame) in
    columns-same s cs (map (gathered rows) columns) (length rows) frame' (frame-gathered s rows columns h fields few)
    (ap (λ m. rows_of m (column_values cs)) (sym n) ∙ sym back ∙ picked ∙ ap (rows_at rows) own ∙ sym (rows_of-gathered rows h columns fields.heights there))
