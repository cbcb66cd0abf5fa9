-- Rows that are read one by one, up to the first with a faulty cell.
use Rattle.std.proofs.Common.{◌≡◌, ℕ, zero, suc, ◌+◌, ◌<◌, ◌≤◌, List, [], ◌∷◌, ◌++◌, length, get_or, drop, Bool, true, false, refl, subst, sym, ◌∙◌, ap, inl, inr, arith, append-nil, append_assoc}
use Rattle.std.proofs.Math.Numerals.{one-add}
use native.Mathlib.Decide.{dec_lt}
use mathlib.Core.Logic.{dite}
use Rattle.std.specs.Prelude.{◌⊎◌, map, flat_map, filter, take_while, not, ◌||◌, is_some, Option, Some, None, if◌then◌else◌}
use Rattle.std.specs.List.{AllZip, list_any}
use Rattle.std.proofs.lemmas.List.{drop_more, drop_all, get_or_append_left, get_or_at, length-append}
use Rattle.ps_expr_eval.specs.Held.{IsOneOf, Keeps, ending_of, first_bad, held_cell, held_values, or_else}
use Rattle.ps_expr_eval.specs.Lengths.{ending_fault, extent_held}
use Rattle.ps_expr_eval.specs.Rows.{faulty_row, kept_of, kept_value, row_of, rows_of_parts, unless_bad, IsKept}
use Rattle.ps_expr_eval.specs.declared.computed.ComputedColumn.{ComputedColumn}
use Rattle.ps_expr_eval.proofs.Zips.{all_end, early-some, early, extents-end, first-bad, head_fault, map_same, map-map, one_of-left, one_of-right, row-held, values-held}
use Rattle.ps_frame.specs.Causes.{Cause, Cell, Column, cell_causes, cell_values, column_causes, is_empty, value}
use Rattle.ps_frame.specs.Eval.{at, kept}
use Rattle.ps_frame.specs.Evaluated.{IsFaultOf}
use Rattle.ps_frame.specs.Values.{is_true}
use Rattle.ps_frame.specs.Zip.{below, broadcasts, cell_in_row, ends_early, extent_of, extents, is_faulty_row, row_causes, rows_before_fault, zip_causes, zip_length, zip_rows, zipped}
use Rattle.ps_frame.specs.declared.value.Cell.{Cell as Held}
use Rattle.ps_frame.specs.declared.value.Cell.TheVariants as held
use Rattle.ps_frame.specs.declared.value.DataFault.{DataFault}
use Rattle.ps_frame.specs.declared.value.Value.{Value}
use Rattle.ps_frame.specs.declared.value.Value.TheVariants as val

-- the numbers below n
pub length-below : (n : ℕ) → length (below n) ≡ n
length-below zero = refl
length-below (suc n) = let e = length-below n in let f = length-append (below n) (n ∷ []) in omega arith

pub get_or-below : (n i d : ℕ) → i < n → get_or (below n) i d ≡ i
get_or-below zero i d h = absurd (omega arith)
get_or-below (suc n) i d h =
    dite (dec_lt i n)
    (λ l. get_or_append_left (below n) (n ∷ []) d i (let e = length-below n in omega arith) ∙ get_or-below n i d l)
    (λ g. let e : n ≡ i = omega arith in get_or_at (below n) n [] d i (length-below n ∙ e) ∙ e)

pub drop-below : (n i : ℕ) → i < n → drop i (below n) ≡ i ∷ drop (i + 1) (below n)
drop-below n i h = drop_more (below n) i 0 (let e = length-below n in omega arith) ∙ ap (λ k. k ∷ drop (i + 1) (below n)) (get_or-below n i 0 h)

-- the rows from row i on
abbrev pub rows_from : List ComputedColumn → ℕ → ℕ → List (List Held)
rows_from ps n i = map (row_of ps) (drop i (below n))

rows_from-more : (ps : List ComputedColumn) (n i : ℕ) → i < n → rows_from ps n i ≡ row_of ps i ∷ rows_from ps n (i + 1)
rows_from-more ps n i h = ap (map (row_of ps)) (drop-below n i h)

rows_from-end : (ps : List ComputedColumn) (n i : ℕ) → n ≤ i → rows_from ps n i ≡ []
rows_from-end ps n i h = ap (map (row_of ps)) (drop_all i (below n) (let e = length-below n in omega arith))

-- one more row without a fault
pub kept-more : (ps : List ComputedColumn) (n i : ℕ) (row : List Held) (vs ws all : List Value) → i < n → row ≡ row_of ps i → first_bad row ≡ None → ws ≡ vs ++ kept_value (held_values row)
    → vs ++ kept_of (rows_from ps n i) ≡ all → ws ++ kept_of (rows_from ps n (i + 1)) ≡ all
kept-more ps n i row vs ws all h is whole grown before =
    let rest = kept_of (rows_from ps n (i + 1)) in
    ap (λ xs. xs ++ rest) grown ∙ append_assoc vs (kept_value (held_values row)) rest
    ∙ sym (ap (λ o. vs ++ unless_bad o (kept_value (held_values row) ++ rest)) whole)
    ∙ ap (λ r. vs ++ unless_bad (first_bad r) (kept_value (held_values r) ++ rest)) is
    ∙ sym (ap (λ rs. vs ++ kept_of rs) (rows_from-more ps n i h)) ∙ before

pub fault-more : (ps : List ComputedColumn) (n i : ℕ) (row : List Held) (all : Option DataFault) → i < n → row ≡ row_of ps i → first_bad row ≡ None
    → faulty_row (rows_from ps n i) ≡ all → faulty_row (rows_from ps n (i + 1)) ≡ all
fault-more ps n i row all h is whole before =
    sym (ap faulty_row (rows_from-more ps n i h) ∙ ap (λ o. or_else o (faulty_row (rows_from ps n (i + 1)))) (ap first_bad (sym is) ∙ whole)) ∙ before

-- a row with a fault
pub kept-stop : (ps : List ComputedColumn) (n i : ℕ) (row : List Held) (f : DataFault) (vs all : List Value) → i < n → row ≡ row_of ps i → first_bad row ≡ Some f
    → vs ++ kept_of (rows_from ps n i) ≡ all → vs ≡ all
kept-stop ps n i row f vs all h is bad before =
    sym (append-nil vs)
    ∙ sym (ap (λ rs. vs ++ kept_of rs) (rows_from-more ps n i h) ∙ ap (λ o. vs ++ unless_bad o (kept_value (held_values (row_of ps i)) ++ kept_of (rows_from ps n (i + 1)))) (ap first_bad (sym is) ∙ bad))
    ∙ before

pub fault-stop : (ps : List ComputedColumn) (n i : ℕ) (row : List Held) (f : DataFault) (all : Option DataFault) → i < n → row ≡ row_of ps i → first_bad row ≡ Some f
    → faulty_row (rows_from ps n i) ≡ all → Some f ≡ all
fault-stop ps n i row f all h is bad before =
    sym (ap faulty_row (rows_from-more ps n i h) ∙ ap (λ o. or_else o (faulty_row (rows_from ps n (i + 1)))) (ap first_bad (sym is) ∙ bad)) ∙ before

-- no row is left
pub kept-end : (ps : List ComputedColumn) (n i : ℕ) (vs all : List Value) → n ≤ i → vs ++ kept_of (rows_from ps n i) ≡ all → vs ≡ all
kept-end ps n i vs all h before = sym (append-nil vs) ∙ sym (ap (λ rs. vs ++ kept_of rs) (rows_from-end ps n i h)) ∙ before

pub fault-end : (ps : List ComputedColumn) (n i : ℕ) (all : Option DataFault) → n ≤ i → faulty_row (rows_from ps n i) ≡ all → None ≡ all
fault-end ps n i all h before = sym (ap faulty_row (rows_from-end ps n i h)) ∙ before

-- the front that passes a test
module _ {A : Type 0} (p : A → Bool) where
  pub take_while-pass : (x : A) (xs : List A) → p x ≡ true → take_while p (x ∷ xs) ≡ x ∷ take_while p xs
  take_while-pass x xs e = rw (e, one-add) refl

  pub take_while-stop : (x : A) (xs : List A) → p x ≡ false → take_while p (x ∷ xs) ≡ []
  take_while-stop x xs e = rw e refl

-- what is kept of rows of cells
abbrev pub kept_here : List (List Value) → List Held
kept_here rs = map held_cell (map (λ row. value (at 0 row)) (filter (λ row. is_true (at 1 row)) rs))

kept-rows : (rows : List (List Cell)) → map held.Val (kept_of (map (map held_cell) rows)) ≡ map held_cell (map (λ row. value (at 0 row)) (filter (λ row. is_true (at 1 row)) (rows_before_fault rows)))
kept-rows [] = refl
kept-rows (row ∷ rows) = go (row_causes row) refl (kept-rows rows)
  where
    one : (b : Bool) (v : Value) (vs : List Value) (rs : List (List Value)) (r : List Value) → map held.Val vs ≡ kept_here rs → at 0 r ≡ v
        → map held.Val ((if b then v ∷ [] else []) ++ vs) ≡ map held_cell (map (λ row. value (at 0 row)) (if b then r ∷ filter (λ row. is_true (at 1 row)) rs else filter (λ row. is_true (at 1 row)) rs))
    one true v vs rs r ih e = rw e (ap (λ zs. held.Val v ∷ zs) ih)
    one false v vs rs r ih e = ih

    go : (xs : List Cause) → row_causes row ≡ xs → map held.Val (kept_of (map (map held_cell) rows)) ≡ kept_here (rows_before_fault rows)
        → map held.Val (unless_bad (first_bad (map held_cell row)) (kept_value (held_values (map held_cell row)) ++ kept_of (map (map held_cell) rows)))
        ≡ kept_here (map cell_values (take_while (λ r. not (is_faulty_row r)) (row ∷ rows)))
    go [] e ih =
        let bad = first-bad row ∙ ap head_fault e in
        let front = take_while-pass (λ r. not (is_faulty_row r)) row rows (ap (λ xs. not (not (is_empty xs))) e) in
        rw (bad, front, values-held row) (one (is_true (at 1 (cell_values row))) (at 0 (cell_values row)) (kept_of (map (map held_cell) rows)) (rows_before_fault rows) (cell_values row) ih refl)
    go (x ∷ xs) e ih =
        let bad = first-bad row ∙ ap head_fault e in
        let front = take_while-stop (λ r. not (is_faulty_row r)) row rows (ap (λ xs. not (not (is_empty xs))) e) in
        rw (bad, front) refl

-- a fault in a row is a cause of the columns
pub cell-causes : (cells : List Cell) (k : ℕ) (f : DataFault) → IsFaultOf (cell_causes (get_or cells k (value val.Null))) f → IsFaultOf (flat_map cell_causes cells) f
cell-causes [] k f h = absurd h
cell-causes (x ∷ cells) zero f h = one_of-left (cell_causes x) (flat_map cell_causes cells) f h
cell-causes (x ∷ cells) (suc k) f h = one_of-right (cell_causes x) (flat_map cell_causes cells) f (cell-causes cells k f h)

pub head-or : (xs ys : List Cause) (f : DataFault) → head_fault (xs ++ ys) ≡ Some f → (head_fault xs ≡ Some f) ⊎ (head_fault ys ≡ Some f)
head-or [] ys f e = inr e
head-or (x ∷ xs) ys f e = inl e

pub head-one_of : (xs : List Cause) (f : DataFault) → head_fault xs ≡ Some f → IsFaultOf xs f
head-one_of [] f e = cc
head-one_of (x ∷ xs) f e = let g : f ≡ x.fault = cc in inl g

row-cause : (i : ℕ) (cs : List Column) (f : DataFault) → head_fault (row_causes (map (cell_in_row false i) cs)) ≡ Some f → IsFaultOf (flat_map column_causes cs) f
row-cause i [] f e = cc
row-cause i (c ∷ cs) f e =
    elim (head-or (cell_causes (cell_in_row false i c)) (row_causes (map (cell_in_row false i) cs)) f e) [
      | inl h ↦ one_of-left (column_causes c) (flat_map column_causes cs) f
          (one_of-left (flat_map cell_causes c.cells) c.broken f
          (cell-causes c.cells (if broadcasts false (extent_of c) then 0 else i) f (head-one_of (cell_causes (cell_in_row false i c)) f h)))
      | inr h ↦ one_of-right (column_causes c) (flat_map column_causes cs) f (row-cause i cs f h)
    ]

-- the fault of the first faulty row, which there is where a row is faulty
abbrev pub RowFault : List Column → List (List Cell) → Option DataFault → Type 0
RowFault cs rows None = list_any is_faulty_row rows ≡ false
RowFault cs rows (Some f) = (list_any is_faulty_row rows ≡ true) × IsFaultOf (flat_map column_causes cs) f

row-more : (cs : List Column) (row : List Cell) (rows : List (List Cell)) → ((f : DataFault) → head_fault (row_causes row) ≡ Some f → IsFaultOf (flat_map column_causes cs) f)
    → (o : Option DataFault) → RowFault cs rows o → RowFault cs (row ∷ rows) (or_else (first_bad (map held_cell row)) o)
row-more cs row rows cause o h = go (row_causes row) refl o h
  where
    more : (o : Option DataFault) → is_faulty_row row ≡ false → RowFault cs rows o → RowFault cs (row ∷ rows) o
    more None e h = rw (e, h) refl
    more (Some f) e h = (rw (e, h.0) refl, h.1)

    go : (xs : List Cause) → row_causes row ≡ xs → (o : Option DataFault) → RowFault cs rows o → RowFault cs (row ∷ rows) (or_else (first_bad (map held_cell row)) o)
    go [] e o h = let bad = first-bad row ∙ ap head_fault e in rw bad (more o (ap (λ xs. not (is_empty xs)) e) h)
    go (x ∷ xs) e o h =
        let bad = first-bad row ∙ ap head_fault e in
        let is_bad : is_faulty_row row ≡ true = ap (λ xs. not (is_empty xs)) e in
        rw bad (rw is_bad refl, cause x.fault (ap head_fault e))

pub row-fault : (cs : List Column) (is : List ℕ) → RowFault cs (map (λ i. map (cell_in_row false i) cs) is) (faulty_row (map (λ i. map held_cell (map (cell_in_row false i) cs)) is))
row-fault cs [] = refl
row-fault cs (i ∷ is) = row-more cs (map (cell_in_row false i) cs) (map (λ i. map (cell_in_row false i) cs) is) (row-cause i cs) (faulty_row (map (λ i. map held_cell (map (cell_in_row false i) cs)) is)) (row-fault cs is)

-- the rows that are held
pub rows-held : (ps : List ComputedColumn) (cs : List Column) (n : ℕ) → AllZip Keeps ps cs → rows_of_parts ps n ≡ map (λ i. map held_cell (map (cell_in_row false i) cs)) (below n)
rows-held ps cs n k = map_same _ _ (λ i. row-held ps cs i k) (below n)

-- what ends a zip
pub zip-ends : (node : ℕ) (ps : List ComputedColumn) (cs : List Column) → AllZip Keeps ps cs
    → IsOneOf (zipped false node cs).broken (or_else (ending_fault (map ending_of ps)) (faulty_row (rows_of_parts ps (zip_length false (map extent_held (map ending_of ps))))))
zip-ends node ps cs k =
    let es = all_end ps cs k in
    let same = extents-end (map ending_of ps) cs es in
    let n = zip_length false (extents cs) in
    let rows = ap (λ x. rows_of_parts ps (zip_length false x)) same ∙ rows-held ps cs n k in
    subst (λ rs. IsOneOf (zipped false node cs).broken (or_else (ending_fault (map ending_of ps)) (faulty_row rs))) (sym rows)
    (go (ending_fault (map ending_of ps)) (early-some (map ending_of ps) cs es) (early node (map ending_of ps) cs es) (faulty_row (map (λ i. map held_cell (map (cell_in_row false i) cs)) (below n))) (row-fault cs (below n)))
  where
    row : (r : Option DataFault) → RowFault cs (zip_rows false (zip_length false (extents cs)) cs) r → IsOneOf (if list_any is_faulty_row (zip_rows false (zip_length false (extents cs)) cs) then zip_causes false node cs else []) r
    row None h = rw h refl
    row (Some f) h = rw h.0 (one_of-left (flat_map column_causes cs) _ f h.1)

    go : (o : Option DataFault) → is_some o ≡ ends_early false cs → IsOneOf (if ends_early false cs then zip_causes false node cs else []) o
        → (r : Option DataFault) → RowFault cs (zip_rows false (zip_length false (extents cs)) cs) r
        → IsOneOf (if ends_early false cs || list_any is_faulty_row (zip_rows false (zip_length false (extents cs)) cs) then zip_causes false node cs else []) (or_else o r)
    go (Some f) e h r g = let yes = sym e in rw yes (rw yes at h)
    go None e h r g = let no = sym e in rw no (row r g)

-- what is kept of columns is held of what the definition keeps
pub kept-keeps : (p q r : ComputedColumn) → IsKept (p ∷ q ∷ []) r → (node : ℕ) (c d : Column) → Keeps p c → Keeps q d → Keeps r (kept (zipped false node (c ∷ d ∷ [])))
kept-keeps p q r is node c d k l =
    let both : AllZip Keeps (p ∷ q ∷ []) (c ∷ d ∷ []) = (k, (l, tt)) in
    let same = extents-end (map ending_of (p ∷ q ∷ [])) (c ∷ d ∷ []) (all_end (p ∷ q ∷ []) (c ∷ d ∷ []) both) in
    let n = zip_length false (extents (c ∷ d ∷ [])) in
    let rows = ap (λ x. rows_of_parts (p ∷ q ∷ []) (zip_length false x)) same ∙ rows-held (p ∷ q ∷ []) (c ∷ d ∷ []) n both ∙ sym (map-map (map held_cell) (λ i. map (cell_in_row false i) (c ∷ d ∷ [])) (below n)) in
    record {
      cells = is.cells ∙ ap (λ rs. map held.Val (kept_of rs)) rows ∙ kept-rows (zip_rows false n (c ∷ d ∷ []));
      ended = subst (IsOneOf (zipped false node (c ∷ d ∷ [])).broken) (sym is.fault) (zip-ends node (p ∷ q ∷ []) (c ∷ d ∷ []) both);
    }
