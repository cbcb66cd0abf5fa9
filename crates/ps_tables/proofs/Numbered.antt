-- The numbers of rows, in front of the rows.
use Rattle.std.proofs.Common.{◌≡◌, ℕ, zero, suc, ◌+◌, ◌-◌, ◌<◌, ◌≤◌, List, [], ◌∷◌, ◌++◌, length, take, refl, sym, ap, subst, ◌∙◌, inl, inr, arith}
use Rattle.std.specs.Prelude.{Contains, IsTrue, Option, unwrap_or, map, if◌then◌else◌, nat_lt}
use Rattle.std.proofs.lemmas.Bool.{le-ltb, lt-ltb}
use Rattle.std.proofs.lemmas.List.{take_all}
use Rattle.ps_frame.specs.Aggregates.{max_rows}
use Rattle.ps_frame.specs.Causes.{Cause}
use Rattle.ps_frame.specs.Frames.{AllOfHeight, IsFrame, column_values}
use Rattle.ps_frame.specs.Functions.{Functions}
use Rattle.ps_frame.specs.Tables.{Fields, Frame, beside, rows_of, whole}
use Rattle.ps_frame.specs.Series.{Series, all_fit}
use Rattle.ps_frame.specs.declared.refusal.Bound.TheVariants as bound
use Rattle.ps_frame.specs.declared.refusal.PolarsError.TheVariants as error
use Rattle.ps_frame.specs.declared.value.DataFault.TheVariants as fault
use Rattle.ps_frame.specs.declared.value.DataType.TheVariants as kind
use Rattle.ps_frame.specs.declared.value.Value.{Value}
use Rattle.ps_frame.specs.declared.value.Value.TheVariants as val
use Rattle.ps_meaning.specs.Cases.{numbered, with_row_index}
use Rattle.ps_meaning.specs.Nodes.{GivesFrame, MayFault}
use Rattle.ps_meaning.specs.Steps.{Name, row_index}
use Rattle.ps_meaning.proofs.Containing.{contains-first}
use Rattle.ps_tables.specs.Numbers.{numbers_from}
use Rattle.ps_tables.proofs.Cuts.{table}

pub numbers-more : (first n : ℕ) → numbers_from first (suc n) ≡ numbers_from first n ++ val.IdxSize (first + n) ∷ []
numbers-more first zero = let e : first ≡ first + 0 = omega arith in ap (λ k. val.IdxSize k ∷ []) e
numbers-more first (suc n) =
    let e : first + 1 + n ≡ first + suc n = omega arith in
    ap (λ vs. val.IdxSize first ∷ vs) (numbers-more (first + 1) n ∙ ap (λ k. numbers_from (first + 1) n ++ val.IdxSize k ∷ []) e)

numbers-length : (first n : ℕ) → length (numbers_from first n) ≡ n
numbers-length first zero = refl
numbers-length first (suc n) = ap suc (numbers-length (first + 1) n)

numbered-beside : (first : ℕ) (rows : List (List Value)) → numbered first rows ≡ beside (numbers_from first (length rows)) rows
numbered-beside first [] = refl
numbered-beside first (r ∷ rows) = ap (λ more. (val.IdxSize first ∷ r) ∷ more) (numbered-beside (first + 1) rows)

abbrev no_number : ℕ → Cause
no_number at = record { fault = fault.RowIndex; node = at }

-- The columns of a table behind its numbers.
module _ (t : Frame) (cs all : List Series) (s : Fields) (name : Name) (c : Series) (o : Option ℕ) (h : ℕ) (high : h ≡ length t.rows) (fields : IsFrame t.schema cs (length t.rows)) (schema : s ≡ (name, kind.IdxSize) ∷ t.schema) (kinds : c.kind ≡ kind.IdxSize) (values : c.values ≡ numbers_from (unwrap_or o 0) h) (all-are : all ≡ c ∷ cs) where
  pub index-frame : IsFrame s all h
  index-frame = subst (λ all. IsFrame s all h) (sym all-are) (record {
    kinds = (λ i. kinds i ∷ fields.kinds i) ∙ sym (ap (map (λ field. field.1)) schema);
    heights = (ap length values ∙ numbers-length (unwrap_or o 0) h, subst (λ n. AllOfHeight n cs) (sym high) fields.heights);
    small = subst (λ n. n ≤ max_rows) (sym high) fields.small;
  })

  pub index-gives : (F : Functions) (at : ℕ) (f : Frame) → t.rows ≡ rows_of (length t.rows) (column_values cs) → length t.rows ≤ max_rows - unwrap_or o 0 → f.schema ≡ s → f.rows ≡ rows_of h (column_values all) → GivesFrame F at (row_index name o) (t ∷ []) f
  index-gives F at f rows few same made = (whole f, inl (λ i. table ((same ∙ schema) i) (rows-are i) (none i)), refl)
    where
      numbers-are : c.values ≡ numbers_from (unwrap_or o 0) (length t.rows)
      numbers-are = values ∙ ap (numbers_from (unwrap_or o 0)) high

      others-are : rows_of h (column_values cs) ≡ t.rows
      others-are = ap (λ n. rows_of n (column_values cs)) high ∙ sym rows

      rows-are : f.rows ≡ numbered (unwrap_or o 0) (take (max_rows - unwrap_or o 0) t.rows)
      rows-are =
          made ∙ ap (λ all. rows_of h (column_values all)) all-are ∙ (λ i. beside (numbers-are i) (others-are i)) ∙ sym (numbered-beside (unwrap_or o 0) t.rows)
          ∙ ap (numbered (unwrap_or o 0)) (sym (take_all (max_rows - unwrap_or o 0) t.rows few))

      none : [] ≡ (if nat_lt (max_rows - unwrap_or o 0) (length t.rows) then no_number at ∷ [] else [])
      none = ap (λ b. if b then no_number at ∷ [] else []) (sym (le-ltb _ _ few))

-- numbers are of their kind
pub numbers-fit : (first n : ℕ) → IsTrue (all_fit kind.IdxSize (numbers_from first n))
numbers-fit first zero = refl
numbers-fit first (suc n) = numbers-fit (first + 1) n

-- a row that has no number
pub index-faults : (F : Functions) (at : ℕ) (name : Name) (o : Option ℕ) (t : Frame) → max_rows - unwrap_or o 0 < length t.rows → MayFault F at (row_index name o) (t ∷ []) (error.OutOfBounds (record { 0 = at }) bound.RowIndex)
index-faults F at name o t many = inr (fault.RowIndex, refl, inl (with_row_index at ((name, kind.IdxSize) ∷ t.schema) (unwrap_or o 0) (whole t), inr (inl refl), there))
  where
    there : Contains (if nat_lt (max_rows - unwrap_or o 0) (length t.rows) then no_number at ∷ [] else []) (no_number at)
    there = subst (λ b. Contains (if b then no_number at ∷ [] else []) (no_number at)) (sym (lt-ltb _ _ many)) (contains-first (no_number at) [])
