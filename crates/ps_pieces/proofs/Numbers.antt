-- Past the greatest number no row has one, so all numbers from there on are alike as offsets.
use Rattle.std.proofs.Common.{◌≡◌, ◌-◌, ◌<◌, ◌≤◌, ◌⊎◌, ℕ, [], ◌∷◌, ◌++◌, Some, length, min, take, refl, sym, ap, ◌∙◌, inl, inr, arith}
use Rattle.std.specs.Prelude.{if◌then◌else◌, nat_lt}
use Rattle.std.proofs.lemmas.Bool.{cases_lt}
use Rattle.ps_frame.specs.Aggregates.{max_rows}
use Rattle.ps_frame.specs.Functions.{Functions}
use Rattle.ps_frame.specs.Tables.{Fields, Frame, Table, whole}
use Rattle.ps_frame.specs.declared.refusal.PolarsError.{PolarsError}
use Rattle.ps_frame.specs.declared.value.DataFault.TheVariants as fault
use Rattle.ps_meaning.specs.Cases.{GivesBeforeCut, numbered, with_row_index}
use Rattle.ps_meaning.specs.Nodes.{GivesFrame, MayFault}
use Rattle.ps_meaning.specs.Schemas.{schema_or_empty}
use Rattle.ps_meaning.specs.Steps.{Name, row_index}
use Rattle.ps_pieces.specs.Computed.{MayFail}
use Rattle.ps_pieces.proofs.Faults.{may-fail}

module _ (n : ℕ) (s : Fields) (t : Table) where
  -- the table with this offset, of which so many rows have a number
  abbrev from_to : (first rows : ℕ) → Table
  from_to x d = record { schema = s; rows = numbered x (take d t.rows); broken = t.broken ++ (if nat_lt d (length t.rows) then record { fault = fault.RowIndex; node = n } ∷ [] else []) }

  index-same : (first m : ℕ) → first ≡ min m max_rows → with_row_index n s first t ≡ with_row_index n s m t
  index-same first m e = by (cases_lt max_rows m)
    where
      by : (max_rows < m) ⊎ (m ≤ max_rows) → with_row_index n s first t ≡ with_row_index n s m t
      by (inl past) =
          let a : max_rows - first ≡ 0 = omega arith in
          let b : max_rows - m ≡ 0 = omega arith in
          ap (from_to first) a ∙ sym (ap (from_to m) b)
      by (inr few) = let same : first ≡ m = omega arith in ap (λ x. with_row_index n s x t) same

module _ (F : Functions) (n : ℕ) (name : Name) (t : Frame) (first m : ℕ) (e : first ≡ min m max_rows) where
  index-before : (U : Table) → GivesBeforeCut F n (row_index name (Some first)) (whole t ∷ []) U → GivesBeforeCut F n (row_index name (Some m)) (whole t ∷ []) U
  index-before U (inl g) = inl (g ∙ index-same n (schema_or_empty F (row_index name (Some first)) (t.schema ∷ [])) (whole t) first m e)
  index-before U (inr (V, g, lost, is)) = absurd (lost refl)

  pub index-gives : (f : Frame) → GivesFrame F n (row_index name (Some first)) (t ∷ []) f → GivesFrame F n (row_index name (Some m)) (t ∷ []) f
  index-gives f (U, before, is) = (U, index-before U before, is)

  pub index-fails : (x : PolarsError) → MayFault F n (row_index name (Some first)) (t ∷ []) x → MayFail F n (row_index name (Some m)) t x
  index-fails x h = by (may-fail F n (row_index name (Some first)) t (λ U. refl) (λ large. large) x h)
    where
      by : MayFail F n (row_index name (Some first)) t x → MayFail F n (row_index name (Some m)) t x
      by (inl memory) = inl memory
      by (inr (y, is, (U, before, why))) = inr (y, is, (U, index-before U before, why))
