-- Inputs in rows: what is held of them is what the definition gives.
use Rattle.std.proofs.Common.{◌≡◌, ℕ, zero, suc, ◌≤◌, List, [], ◌∷◌, ◌++◌, length, get_or, replicate, take, Bool, true, false, refl, subst, sym, ◌∙◌, ap, inl, inr, arith, add-one, eqb→eq}
use Rattle.std.proofs.Math.Seq.{take-length}
use Rattle.std.specs.Prelude.{◌⊎◌, map, not, ◌&&◌, ◌==◌, is_some, Option, Some, None, if◌then◌else◌}
use Rattle.std.specs.List.{AllByRecursion, AllZip}
use Rattle.std.proofs.lemmas.List.{length-map, map-append, take_more}
use Rattle.ps_expr_eval.proofs.KeptRows.{length-below}
use Rattle.ps_expr_eval.proofs.Zips.{Ends, early-some, extent-ends, extents-end, get_or-map_at, map-map, map_same}
use Rattle.ps_expr_eval.specs.Held.{cell_at, first_bad, held_cell, held_values}
use Rattle.ps_expr_eval.specs.Lengths.{ending_fault, extent_held, first_ended}
use Rattle.ps_expr_eval.specs.Rows.{cell_for}
use Rattle.ps_expr_eval.specs.declared.lengths.Ending.{Ending}
use Rattle.ps_frame.specs.Causes.{Cell, Column, faulty, value}
use Rattle.ps_frame.specs.Frames.{AllOfHeight, column_values}
use Rattle.ps_frame.specs.Series.{Series}
use Rattle.ps_frame.specs.Zip.{Extent, below, breaks_shape, broadcasts, cell_in_row, extent_of, extents, zip_length, zipped}
use Rattle.ps_frame.specs.declared.value.Cell.{Cell as Held}
use Rattle.ps_frame.specs.declared.value.Cell.TheVariants as held
use Rattle.ps_frame.specs.declared.value.DataFault.{DataFault}
use Rattle.ps_frame.specs.declared.value.DataFault.TheVariants as fault
use Rattle.ps_frame.specs.declared.value.Value.{Value}
use Rattle.ps_frame.specs.declared.value.Value.TheVariants as val
use Rattle.ps_zip.proofs.WholeZips.{Fills, Shows, first_cells, map-const, map-replicate, shown-length, whole-fills, whole-zip}
use Rattle.ps_zip.specs.Inputs.{AreSideBySide, CanStand, FitsItsKind, HasFaultAt, Holds, IsColumnAt, cells_in, early_in, ending_in, fault_in, height_in, held_in, kind_in}
use Rattle.ps_zip.specs.Zips.{KeepsZip}
use Rattle.ps_zip.specs.declared.inputs.Input.{Input}

-- ---- the ends

ends : (i : Input) (c : Column) → Holds i c → Ends (ending_in i) c
ends i c k = record { len = ap length k.cells ∙ length-map c.cells held_cell; ended = k.ended }

pub all-end : (is : List Input) (cs : List Column) → AllZip Holds is cs → AllZip Ends (map ending_in is) cs
all-end [] [] k = tt
all-end [] (c ∷ cs) k = absurd k
all-end (i ∷ is) [] k = absurd k
all-end (i ∷ is) (c ∷ cs) k = (ends i c k.0, all-end is cs k.1)

pub same-extents : (is : List Input) (cs : List Column) → AllZip Holds is cs → map extent_held (map ending_in is) ≡ extents cs
same-extents is cs k = extents-end (map ending_in is) cs (all-end is cs k)

pub same-height : (is : List Input) (cs : List Column) → AllZip Holds is cs → height_in is ≡ zip_length false (extents cs)
same-height is cs k = ap (zip_length false) (same-extents is cs k)

-- nothing ends the operands early
none-early : (es : List Ending) → ending_fault es ≡ None → (breaks_shape false (map extent_held es) ≡ false) × (first_ended es ≡ None)
none-early es e = by (breaks_shape false (map extent_held es)) refl e
  where
    by : (b : Bool) → breaks_shape false (map extent_held es) ≡ b → (if b then Some fault.Shape else first_ended es) ≡ None → (breaks_shape false (map extent_held es) ≡ false) × (first_ended es ≡ None)
    by true q e = cc
    by false q e = (q, e)

none-ended : (es : List Ending) → first_ended es ≡ None → AllByRecursion (λ (e : Ending). e.fault ≡ None) es
none-ended [] h = tt
none-ended (e ∷ es) h = by e.fault refl h (none-ended es)
  where
    by : (o : Option DataFault) → e.fault ≡ o → (if is_some o then o else first_ended es) ≡ None → (first_ended es ≡ None → AllByRecursion (λ (e : Ending). e.fault ≡ None) es) → AllByRecursion (λ (e : Ending). e.fault ≡ None) (e ∷ es)
    by None q h rest = (q, rest h)
    by (Some f) q h rest = cc

are-whole : (es : List Ending) → AllByRecursion (λ (e : Ending). e.fault ≡ None) es → AllByRecursion (λ (x : Extent). x.ended ≡ false) (map extent_held es)
are-whole [] h = tt
are-whole (e ∷ es) h = (ap is_some h.0, are-whole es h.1)

stand : (n : ℕ) (is : List Input) → AllByRecursion (λ (e : Ending). e.fault ≡ None) (map ending_in is) → AllByRecursion (Fills n) (map extent_held (map ending_in is)) → AllByRecursion FitsItsKind is → AllByRecursion (CanStand n) is
stand n [] w f k = tt
stand n (i ∷ is) w f k = (record { whole_is = w.0; fills = f.0; fits = k.0 }, stand n is w.1 f.1 k.1)

pub all-stand : (is : List Input) (n : ℕ) → early_in is ≡ None → n ≡ height_in is → AllByRecursion FitsItsKind is → AllByRecursion (CanStand n) is
all-stand is n e len k =
    let two = none-early (map ending_in is) e in
    let whole_es = none-ended (map ending_in is) two.1 in
    let fills = whole-fills (map extent_held (map ending_in is)) two.0 (are-whole (map ending_in is) whole_es) in
    subst (λ m. AllByRecursion (CanStand m) is) (sym len) (stand (height_in is) is whole_es fills k)

-- ---- one input in rows

all-places : (hs : List Held) (n : ℕ) → n ≤ length hs → map (cell_at hs) (below n) ≡ take n hs
all-places hs zero h = refl
all-places hs (suc n) h =
    map-append (cell_at hs) (below n) (n ∷ []) ∙ ap (λ xs. xs ++ cell_at hs n ∷ []) (all-places hs n (omega arith))
    ∙ sym (ap (λ m. take m hs) (sym (add-one n)) ∙ take_more hs n (held.Val val.Null) (omega arith))

-- its cells there: its only one in each row, or its own
cells-stand : (n : ℕ) (i : Input) → fault_in i ≡ None → (length (held_in i) ≡ n) ⊎ (length (held_in i) ≡ 1) → cells_in n i ≡ (if length (held_in i) == 1 then replicate n (cell_at (held_in i) 0) else held_in i)
cells-stand n i w f = ap (λ (o : Option DataFault). map (cell_for (held_in i) (not (is_some o) && (length (held_in i) == 1))) (below n)) w ∙ by (length (held_in i) == 1) refl f
  where
    by : (b : Bool) → (length (held_in i) == 1) ≡ b → (length (held_in i) ≡ n) ⊎ (length (held_in i) ≡ 1) → map (cell_for (held_in i) b) (below n) ≡ (if b then replicate n (cell_at (held_in i) 0) else held_in i)
    by true q f = map-const (cell_at (held_in i) 0) (below n) ∙ ap (λ m. replicate m (cell_at (held_in i) 0)) (length-below n)
    by false q (inl e) = all-places (held_in i) n (omega arith) ∙ ap (λ m. take m (held_in i)) (sym e) ∙ take-length (held_in i)
    by false q (inr e) = let yes : (length (held_in i) == 1) ≡ true = ap (λ m. m == 1) e in cc

-- values in rows: the only one in each, or those that there are
abbrev pub stretched : ℕ → List Value → List Value
stretched n vs = if length vs == 1 then replicate n (get_or vs 0 val.Null) else vs

pub values-stand : (n : ℕ) (i : Input) (vs : List Value) → held_in i ≡ map held.Val vs → CanStand n i → cells_in n i ≡ map held.Val (stretched n vs)
values-stand n i vs e s =
    cells-stand n i s.whole_is s.fills
    ∙ ap (λ (hs : List Held). if length hs == 1 then replicate n (cell_at hs 0) else hs) e
    ∙ ap (λ m. if m == 1 then replicate n (cell_at (map held.Val vs) 0) else map held.Val vs) (length-map vs held.Val)
    ∙ by (length vs == 1)
  where
    by : (b : Bool) → (if b then replicate n (cell_at (map held.Val vs) 0) else map held.Val vs) ≡ map held.Val (if b then replicate n (get_or vs 0 val.Null) else vs)
    by true = ap (replicate n) (get_or-map_at held.Val vs 0 val.Null) ∙ sym (map-replicate held.Val n (get_or vs 0 val.Null))
    by false = refl

pub clean : (hs : List Held) → first_bad hs ≡ None → hs ≡ map held.Val (held_values hs)
clean [] e = refl
clean (held.Val v ∷ hs) e = ap (λ xs. held.Val v ∷ xs) (clean hs e)
clean (held.Bad f ∷ hs) e = cc

bad-one : (h : Held) (hs : List Held) (f : DataFault) → first_bad (h ∷ []) ≡ Some f → first_bad (h ∷ hs) ≡ Some f
bad-one (held.Val v) hs f e = cc
bad-one (held.Bad g) hs f e = e

pub fault-stands : (n : ℕ) (i : Input) (f : DataFault) → CanStand n i → 1 ≤ n → first_bad (held_in i) ≡ Some f → HasFaultAt n i f
fault-stands n i f s one e = ap first_bad (cells-stand n i s.whole_is s.fills) ∙ by (length (held_in i) == 1) refl
  where
    only : (hs : List Held) (m : ℕ) → length hs ≡ 1 → first_bad hs ≡ Some f → first_bad (replicate (suc m) (cell_at hs 0)) ≡ Some f
    only [] m l e = cc
    only (h ∷ []) m l e = bad-one h (replicate m h) f e
    only (h ∷ g ∷ hs) m l e = absurd (omega arith)

    by : (b : Bool) → (length (held_in i) == 1) ≡ b → first_bad (if b then replicate n (cell_at (held_in i) 0) else held_in i) ≡ Some f
    by false q = e
    by true q = pred n one
      where
        pred : (n : ℕ) → 1 ≤ n → first_bad (replicate n (cell_at (held_in i) 0)) ≡ Some f
        pred zero h = absurd (omega arith)
        pred (suc m) h = only (held_in i) m (eqb→eq (length (held_in i)) 1 (rw q tt)) e

-- ---- the definition's cells

cell-held : (i : Input) (c : Column) (j : ℕ) → Holds i c → cell_for (held_in i) (broadcasts false (extent_held (ending_in i))) j ≡ held_cell (cell_in_row false j c)
cell-held i c j k =
    let e = extent-ends (ending_in i) c (ends i c k) in
    ap (λ hs. cell_for hs (broadcasts false (extent_held (ending_in i))) j) k.cells
    ∙ ap (λ (x : Extent). cell_for (map held_cell c.cells) (broadcasts false x) j) e
    ∙ get_or-map_at held_cell c.cells (if broadcasts false (extent_of c) then 0 else j) (value val.Null)

pub cells-held : (n : ℕ) (i : Input) (c : Column) → Holds i c → cells_in n i ≡ map held_cell (first_cells n c)
cells-held n i c k = map_same _ _ (λ j. cell-held i c j k) (below n) ∙ sym (map-map held_cell (λ j. cell_in_row false j c) (below n))

held-back : (cells : List Cell) (vs : List Value) → map held_cell cells ≡ map held.Val vs → cells ≡ map value vs
held-back [] [] e = refl
held-back [] (v ∷ vs) e = cc
held-back (c ∷ cells) [] e = cc
held-back (value w ∷ cells) (v ∷ vs) e =
    let same : w ≡ v = cc in
    let rest : map held_cell cells ≡ map held.Val vs = cc in
    let r = held-back cells vs rest in cc
held-back (faulty x xs ∷ cells) (v ∷ vs) e = cc

shows : (n : ℕ) (i : Input) (c : Column) (t : Series) → Holds i c → IsColumnAt n i t → Shows n c t.values
shows n i c t k s = held-back (first_cells n c) t.values (sym (cells-held n i c k) ∙ s.cells)

all-show : (n : ℕ) (is : List Input) (cs : List Column) (ts : List Series) → AllZip Holds is cs → AllZip (IsColumnAt n) is ts → AllZip (Shows n) cs (column_values ts)
all-show n [] [] [] k s = tt
all-show n [] [] (t ∷ ts) k s = absurd s
all-show n [] (c ∷ cs) ts k s = absurd k
all-show n (i ∷ is) [] ts k s = absurd k
all-show n (i ∷ is) (c ∷ cs) [] k s = absurd s
all-show n (i ∷ is) (c ∷ cs) (t ∷ ts) k s = (shows n i c t k.0 s.0, all-show n is cs ts k.1 s.1)

all-high : (n : ℕ) (cs : List Column) (ts : List Series) → AllZip (Shows n) cs (column_values ts) → AllOfHeight n ts
all-high n [] [] s = tt
all-high n (c ∷ cs) [] s = tt
all-high n [] (t ∷ ts) s = absurd s
all-high n (c ∷ cs) (t ∷ ts) s = (shown-length n c t.values s.0, all-high n cs ts s.1)

all-kinds : (n : ℕ) (is : List Input) (ts : List Series) → AllZip (IsColumnAt n) is ts → map (λ (t : Series). Some t.kind) ts ≡ map (λ i. Some (kind_in i)) is
all-kinds n [] [] s = refl
all-kinds n [] (t ∷ ts) s = absurd s
all-kinds n (i ∷ is) [] s = absurd s
all-kinds n (i ∷ is) (t ∷ ts) s = let here = s.0.kind in let rest = all-kinds n is ts s.1 in cc

-- inputs side by side keep the zip of their columns
pub keeps-zip : (at : ℕ) (is : List Input) (cs : List Column) (ts : List Series) (n : ℕ) → AllZip Holds is cs → AreSideBySide is ts n → KeepsZip (zipped false at cs) (map (λ i. Some (kind_in i)) is) ts n
keeps-zip at is cs ts n k s =
    let early_none = sym (early-some (map ending_in is) cs (all-end is cs k)) ∙ ap is_some s.whole_are in
    let shown = all-show n is cs ts k s.columns_are in
    let w = whole-zip at n cs (column_values ts) early_none (s.height_is ∙ same-height is cs k) shown in
    record { rows = w.rows; whole = w.whole; kinds_are = all-kinds n is ts s.columns_are; heights = all-high n cs ts shown; small = s.small }
