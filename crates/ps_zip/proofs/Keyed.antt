-- A table's inputs and those of expressions over it, side by side, are its zip with these.
use Rattle.std.proofs.Common.{◌≡◌, ℕ, ◌≤◌, List, [], ◌∷◌, ◌++◌, length, refl, subst, sym, ◌∙◌, ap, inl, inr}
use Rattle.std.specs.Prelude.{◌⊎◌, map, Some, false}
use Rattle.std.specs.List.{AllByRecursion, AllZip}
use Rattle.std.proofs.lemmas.List.{map-append}
use Rattle.ps_expr_eval.proofs.Zips.{map-map}
use Rattle.ps_frame.specs.Aggregates.{max_rows}
use Rattle.ps_frame.specs.Frames.{kinds_of}
use Rattle.ps_frame.specs.Tables.{Frame, columns_of, whole}
use Rattle.ps_frame.specs.Trees.{Tree}
use Rattle.ps_frame.specs.Series.{Series}
use Rattle.ps_frame.specs.Zip.{zipped}
use Rattle.ps_frame.specs.declared.refusal.PolarsError.{PolarsError}
use Rattle.ps_frame.specs.declared.refusal.PolarsError.TheVariants as error
use Rattle.ps_frame.specs.declared.value.DataFault.{DataFault}
use Rattle.ps_frame.specs.declared.value.DataType.{DataType}
use Rattle.ps_meaning.proofs.Fits.{all-append}
use Rattle.ps_meaning.specs.Cases.{columns_at, keyed}
use Rattle.ps_meaning.specs.Errors.{fault_error}
use Rattle.ps_zip.proofs.CausesAt.{exprs-at, keyed-at}
use Rattle.ps_zip.proofs.Faulty.{is-fault}
use Rattle.ps_zip.proofs.LargeColumns.{large-exprs, large-keyed}
use Rattle.ps_zip.proofs.Standing.{keeps-zip}
use Rattle.ps_zip.proofs.Steps.{zip-append}
use Rattle.ps_zip.specs.Inputs.{AddsExprs, AreSideBySide, FitsItsKind, Holds, IsExprInput, IsFaultIn, kind_in}
use Rattle.ps_zip.specs.Zips.{IsZipError, KeepsZip, expr_kinds, keyed_kinds}
use Rattle.ps_zip.specs.declared.inputs.Input.{Input}

module _ (f : Frame) where
  exprs-hold : (at : ℕ) (ts : List Tree) (is : List Input) → AllZip (IsExprInput f) ts is → AllZip Holds is (columns_at at ts (whole f))
  exprs-hold at [] [] a = tt
  exprs-hold at [] (i ∷ is) a = absurd a
  exprs-hold at (t ∷ ts) [] a = absurd a
  exprs-hold at (t ∷ ts) (i ∷ is) a = (a.0.holds at, exprs-hold at ts is a.1)

  exprs-kinds : (ts : List Tree) (is : List Input) → AllZip (IsExprInput f) ts is → map (λ i. Some (kind_in i)) is ≡ expr_kinds f.schema ts
  exprs-kinds [] [] a = refl
  exprs-kinds [] (i ∷ is) a = absurd a
  exprs-kinds (t ∷ ts) [] a = absurd a
  exprs-kinds (t ∷ ts) (i ∷ is) a = let here = a.0.kind in let rest = exprs-kinds ts is a.1 in cc

  exprs-fit : (ts : List Tree) (is : List Input) → AllZip (IsExprInput f) ts is → AllByRecursion FitsItsKind is
  exprs-fit [] [] a = tt
  exprs-fit [] (i ∷ is) a = absurd a
  exprs-fit (t ∷ ts) [] a = absurd a
  exprs-fit (t ∷ ts) (i ∷ is) a = (a.0.fits, exprs-fit ts is a.1)

  pub added-fit : (ts : List Tree) (old new : List Input) → AllByRecursion FitsItsKind old → AddsExprs f ts old new → AllByRecursion FitsItsKind new
  added-fit ts old new h a = subst (AllByRecursion FitsItsKind) (sym a.1) (all-append FitsItsKind old a.0 h (exprs-fit ts a.0 a.2))

  module _ (at : ℕ) (ts : List Tree) (old new : List Input) (a : AddsExprs f ts old new) where
    -- expressions alone
    alone-hold : old ≡ [] → AllZip Holds new (columns_at at ts (whole f))
    alone-hold e = subst (λ is. AllZip Holds is (columns_at at ts (whole f))) (sym (a.1 ∙ ap (λ xs. xs ++ a.0) e)) (exprs-hold at ts a.0 a.2)

    alone-kinds : old ≡ [] → map (λ i. Some (kind_in i)) new ≡ expr_kinds f.schema ts
    alone-kinds e = ap (map (λ i. Some (kind_in i))) (a.1 ∙ ap (λ xs. xs ++ a.0) e) ∙ exprs-kinds ts a.0 a.2

    pub alone-keeps : old ≡ [] → (cs : List Series) (n : ℕ) → AreSideBySide new cs n → KeepsZip (zipped false at (columns_at at ts (whole f))) (expr_kinds f.schema ts) cs n
    alone-keeps e cs n s =
        subst (λ ks. KeepsZip (zipped false at (columns_at at ts (whole f))) ks cs n) (alone-kinds e) (keeps-zip at new (columns_at at ts (whole f)) cs n (alone-hold e) s)

    pub alone-error : old ≡ [] → (e : PolarsError) → (e ≡ error.OutOfMemory) ⊎ ((d : DataFault) × (e ≡ fault_error at d) × IsFaultIn new d) → IsZipError at ts (whole f) (zipped false at (columns_at at ts (whole f))) e
    alone-error o e (inl m) = inl m
    alone-error o e (inr (d, is, m)) =
        elim (is-fault at new (columns_at at ts (whole f)) d (alone-hold o) (exprs-at at f ts) m) [
          | inl c ↦ inr (d, is, inl c)
          | inr r ↦ inr (d, is, inr (r.0, large-exprs at ts f r.1))
        ]

    -- behind the columns of the table
    module _ (h : AllZip Holds old (columns_of (whole f))) where
      keyed-hold : AllZip Holds new (columns_of (whole f) ++ columns_at at ts (whole f))
      keyed-hold =
          subst (λ is. AllZip Holds is (columns_of (whole f) ++ columns_at at ts (whole f))) (sym a.1)
          (zip-append Holds old a.0 (columns_of (whole f)) (columns_at at ts (whole f)) h (exprs-hold at ts a.0 a.2))

      keyed-kinds : map kind_in old ≡ kinds_of f.schema → map (λ i. Some (kind_in i)) new ≡ keyed_kinds f.schema ts
      keyed-kinds k =
          ap (map (λ i. Some (kind_in i))) a.1 ∙ map-append (λ i. Some (kind_in i)) old a.0
          ∙ ap (λ ks. ks ++ map (λ i. Some (kind_in i)) a.0) (sym (map-map (λ (j : DataType). Some j) kind_in old) ∙ ap (map Some) k)
          ∙ ap (λ ks. map Some (kinds_of f.schema) ++ ks) (exprs-kinds ts a.0 a.2)

      pub keyed-keeps : map kind_in old ≡ kinds_of f.schema → (cs : List Series) (n : ℕ) → AreSideBySide new cs n → KeepsZip (keyed at ts (whole f)) (keyed_kinds f.schema ts) cs n
      keyed-keeps k cs n s = subst (λ ks. KeepsZip (keyed at ts (whole f)) ks cs n) (keyed-kinds k) (keeps-zip at new (columns_of (whole f) ++ columns_at at ts (whole f)) cs n keyed-hold s)

      pub keyed-error : length f.rows ≤ max_rows → (e : PolarsError) → (e ≡ error.OutOfMemory) ⊎ ((d : DataFault) × (e ≡ fault_error at d) × IsFaultIn new d) → IsZipError at ts (whole f) (keyed at ts (whole f)) e
      keyed-error small e (inl m) = inl m
      keyed-error small e (inr (d, is, m)) =
          elim (is-fault at new (columns_of (whole f) ++ columns_at at ts (whole f)) d keyed-hold (keyed-at at f ts) m) [
            | inl c ↦ inr (d, is, inl c)
            | inr r ↦ inr (d, is, inr (r.0, large-keyed at ts f small r.1))
          ]
