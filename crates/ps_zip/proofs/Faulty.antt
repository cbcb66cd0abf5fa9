-- A fault of inputs side by side is one of the causes that break the zip of their columns.
use Rattle.std.proofs.Common.{◌≡◌, ℕ, ◌<◌, List, [], ◌∷◌, ◌++◌, Bool, true, false, refl, subst, sym, ◌∙◌, ap, inl, inr}
use Rattle.std.specs.Prelude.{◌⊎◌, Contains, flat_map, map, not, ◌||◌, is_some, Some, if◌then◌else◌}
use Rattle.std.specs.List.{AllZip, list_any}
use Rattle.ps_expr_eval.proofs.KeptRows.{cell-causes, head-one_of, head-or}
use Rattle.ps_expr_eval.proofs.Zips.{early, early-some, first-bad, head_fault, one_of-left, one_of-right}
use Rattle.ps_expr_eval.specs.Held.{IsOneOf, first_bad}
use Rattle.ps_frame.specs.Aggregates.{max_rows}
use Rattle.ps_frame.specs.Causes.{Cause, Column, cell_causes, column_causes, is_empty}
use Rattle.ps_frame.specs.Evaluated.{IsFaultOf}
use Rattle.ps_frame.specs.Zip.{aligned, below, broadcasts, cell_in_row, ends_early, extent_of, extents, is_faulty_row, row_causes, zip_causes, zip_length, zip_rows, zipped}
use Rattle.ps_frame.specs.declared.value.DataFault.{DataFault}
use Rattle.ps_frame.specs.declared.value.DataFault.TheVariants as fault
use Rattle.ps_zip.proofs.CausesAt.{AllColumnsAt, fault-at, zip-at}
use Rattle.ps_zip.proofs.Standing.{all-end, cells-held, same-height}
use Rattle.ps_zip.proofs.WholeZips.{first_cells}
use Rattle.ps_zip.specs.Inputs.{Holds, IsFaultIn, SomeFaultAt, early_in, ending_in, height_in}
use Rattle.ps_zip.specs.declared.inputs.Input.{Input}

or-true : (b : Bool) → (b || true) ≡ true
or-true true = refl
or-true false = refl

-- what ends the inputs early
early-is : (at : ℕ) (is : List Input) (cs : List Column) (f : DataFault) → AllZip Holds is cs → early_in is ≡ Some f → IsFaultOf (zipped false at cs).broken f
early-is at is cs f k e =
    let es = all-end is cs k in
    let ended : ends_early false cs ≡ true = sym (early-some (map ending_in is) cs es) ∙ ap is_some e in
    let one : IsFaultOf (if ends_early false cs then zip_causes false at cs else []) f = subst (IsOneOf (aligned false at cs).broken) e (early at (map ending_in is) cs es) in
    rw ended (rw ended at one)

-- some column has a first faulty cell of this fault in these rows
abbrev SomeBad : List ℕ → List Column → DataFault → Type 0
SomeBad js [] f = ⊥
SomeBad js (c ∷ cs) f = (head_fault (row_causes (map (λ j. cell_in_row false j c) js)) ≡ Some f) ⊎ SomeBad js cs f

some-bad : (n : ℕ) (is : List Input) (cs : List Column) (f : DataFault) → AllZip Holds is cs → SomeFaultAt n is f → SomeBad (below n) cs f
some-bad n [] cs f k s = absurd s
some-bad n (i ∷ is) [] f k s = absurd k
some-bad n (i ∷ is) (c ∷ cs) f k (inl e) = inl (sym (ap first_bad (cells-held n i c k.0) ∙ first-bad (first_cells n c)) ∙ e)
some-bad n (i ∷ is) (c ∷ cs) f k (inr s) = inr (some-bad n is cs f k.1 s)

-- then some row is faulty, and the fault is that of a cause
head-row : (xs ys : List Cause) (f : DataFault) → head_fault xs ≡ Some f → not (is_empty (xs ++ ys)) ≡ true
head-row [] ys f e = cc
head-row (x ∷ xs) ys f e = refl

more-row : (xs ys : List Cause) → not (is_empty ys) ≡ true → not (is_empty (xs ++ ys)) ≡ true
more-row [] ys e = e
more-row (x ∷ xs) ys e = refl

first-rows : (c : Column) (cs : List Column) (js : List ℕ) (f : DataFault) → head_fault (row_causes (map (λ j. cell_in_row false j c) js)) ≡ Some f → list_any is_faulty_row (map (λ j. map (cell_in_row false j) (c ∷ cs)) js) ≡ true
first-rows c cs [] f e = cc
first-rows c cs (j ∷ js) f e =
    elim (head-or (cell_causes (cell_in_row false j c)) (row_causes (map (λ j. cell_in_row false j c) js)) f e) [
      | inl h ↦ ap (λ b. b || list_any is_faulty_row (map (λ j. map (cell_in_row false j) (c ∷ cs)) js)) (head-row (cell_causes (cell_in_row false j c)) (row_causes (map (cell_in_row false j) cs)) f h)
      | inr h ↦ ap (λ b. is_faulty_row (map (cell_in_row false j) (c ∷ cs)) || b) (first-rows c cs js f h) ∙ or-true (is_faulty_row (map (cell_in_row false j) (c ∷ cs)))
    ]

later-rows : (c : Column) (cs : List Column) (js : List ℕ) → list_any is_faulty_row (map (λ j. map (cell_in_row false j) cs) js) ≡ true → list_any is_faulty_row (map (λ j. map (cell_in_row false j) (c ∷ cs)) js) ≡ true
later-rows c cs [] e = e
later-rows c cs (j ∷ js) e = by (is_faulty_row (map (cell_in_row false j) cs)) refl e (later-rows c cs js)
  where
    by : (b : Bool) → is_faulty_row (map (cell_in_row false j) cs) ≡ b → (b || list_any is_faulty_row (map (λ j. map (cell_in_row false j) cs) js)) ≡ true
        → (list_any is_faulty_row (map (λ j. map (cell_in_row false j) cs) js) ≡ true → list_any is_faulty_row (map (λ j. map (cell_in_row false j) (c ∷ cs)) js) ≡ true)
        → list_any is_faulty_row (map (λ j. map (cell_in_row false j) (c ∷ cs)) (j ∷ js)) ≡ true
    by true q e rest = ap (λ b. b || list_any is_faulty_row (map (λ j. map (cell_in_row false j) (c ∷ cs)) js)) (more-row (cell_causes (cell_in_row false j c)) (row_causes (map (cell_in_row false j) cs)) q)
    by false q e rest = ap (λ b. is_faulty_row (map (cell_in_row false j) (c ∷ cs)) || b) (rest e) ∙ or-true (is_faulty_row (map (cell_in_row false j) (c ∷ cs)))

bad-rows : (js : List ℕ) (cs : List Column) (f : DataFault) → SomeBad js cs f → list_any is_faulty_row (map (λ j. map (cell_in_row false j) cs) js) ≡ true
bad-rows js [] f s = absurd s
bad-rows js (c ∷ cs) f (inl e) = first-rows c cs js f e
bad-rows js (c ∷ cs) f (inr s) = later-rows c cs js (bad-rows js cs f s)

head-cells : (c : Column) (js : List ℕ) (f : DataFault) → head_fault (row_causes (map (λ j. cell_in_row false j c) js)) ≡ Some f → IsFaultOf (flat_map cell_causes c.cells) f
head-cells c [] f e = cc
head-cells c (j ∷ js) f e =
    elim (head-or (cell_causes (cell_in_row false j c)) (row_causes (map (λ j. cell_in_row false j c) js)) f e) [
      | inl h ↦ cell-causes c.cells (if broadcasts false (extent_of c) then 0 else j) f (head-one_of (cell_causes (cell_in_row false j c)) f h)
      | inr h ↦ head-cells c js f h
    ]

bad-causes : (js : List ℕ) (cs : List Column) (f : DataFault) → SomeBad js cs f → IsFaultOf (flat_map column_causes cs) f
bad-causes js [] f s = absurd s
bad-causes js (c ∷ cs) f (inl e) = one_of-left (column_causes c) (flat_map column_causes cs) f (one_of-left (flat_map cell_causes c.cells) c.broken f (head-cells c js f e))
bad-causes js (c ∷ cs) f (inr s) = one_of-right (column_causes c) (flat_map column_causes cs) f (bad-causes js cs f s)

cell-is : (at : ℕ) (is : List Input) (cs : List Column) (f : DataFault) → AllZip Holds is cs → SomeFaultAt (height_in is) is f → IsFaultOf (zipped false at cs).broken f
cell-is at is cs f k s =
    let bad = some-bad (height_in is) is cs f k s in
    let rows : list_any is_faulty_row (zip_rows false (zip_length false (extents cs)) cs) ≡ true = subst (λ m. list_any is_faulty_row (zip_rows false m cs) ≡ true) (same-height is cs k) (bad-rows (below (height_in is)) cs f bad) in
    rw (rows, or-true (ends_early false cs)) (one_of-left (flat_map column_causes cs) _ f (bad-causes (below (height_in is)) cs f bad))

-- the cause is at the node
pub is-fault : (at : ℕ) (is : List Input) (cs : List Column) (f : DataFault) → AllZip Holds is cs → AllColumnsAt at cs → IsFaultIn is f
    → Contains (zipped false at cs).broken (record { fault = f; node = at }) ⊎ ((f ≡ fault.Rows) × (max_rows < zip_length false (extents cs)))
is-fault at is cs f k a (inl e) = inl (fault-at at (zipped false at cs).broken f (zip-at at false cs a) (early-is at is cs f k e))
is-fault at is cs f k a (inr (inl r)) = inr (r.0, subst (λ n. max_rows < n) (same-height is cs k) r.1)
is-fault at is cs f k a (inr (inr s)) = inl (fault-at at (zipped false at cs).broken f (zip-at at false cs a) (cell-is at is cs f k s.1))
