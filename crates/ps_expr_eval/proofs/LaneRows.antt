-- Columns in the order of others, by their values in the first rows.
use Rattle.std.proofs.Common.{◌≡◌, ℕ, zero, suc, ◌+◌, ◌<◌, ◌≤◌, min, List, [], ◌∷◌, ◌++◌, length, take, drop, get_or, Bool, true, false, refl, subst, sym, ◌∙◌, ap, inl, inr, arith, add-one, eqb→eq}
use Rattle.std.specs.Prelude.{map, flat_map, filter, fold, not, ◌||◌, ◌==◌, is_some, MatchResult, Option, Some, None, Result, Ok, Err, if◌then◌else◌}
use Rattle.std.specs.List.{AllZip, list_any, range_with_len}
use Rattle.std.specs.Ordering.{is_ne}
use Rattle.std.specs.declared.cmp.Ordering.{Ordering}
use Rattle.std.specs.declared.cmp.Ordering.TheVariants.{Equal}
use Rattle.std.proofs.lemmas.List.{map-append, take_more, drop_all, drop_more, get_or-map}
use Rattle.ps_compute.specs.Rows.{beside_keys, key_row}
use Rattle.ps_compute.proofs.KeyOrder.{key-decides, key-passes, keys-end, numbers-more}
use Rattle.ps_expr_eval.specs.Held.{IsOneOf, Keeps, cells_of, ending_of, first_bad, held_cell, or_else}
use Rattle.ps_expr_eval.specs.Lanes.{AllFill, AreLanes, key_columns, lane, lanes_fault, sorted_first, values_at_row}
use Rattle.ps_expr_eval.specs.Lengths.{ending_fault, extent_held}
use Rattle.ps_expr_eval.specs.Rows.{FillsRows, cell_for, faulty_row, repeats, row_of, rows_of_parts}
use Rattle.ps_expr_eval.specs.declared.computed.ComputedColumn.{ComputedColumn}
use Rattle.ps_expr_eval.proofs.KeptRows.{cell-causes, drop-below, head-or, head-one_of, length-below, get_or-below, row-fault, RowFault, rows-held, take_while-pass, zip-ends}
use Rattle.ps_expr_eval.proofs.Parts.{no_bad}
use Rattle.ps_expr_eval.proofs.Zips.{all_end, cell-held, extents-end, first-bad, get_or-map_at, head_fault, map_same, map-map, not_empty, one_of-left, one_of-right, row-held}
use Rattle.ps_frame.proofs.Lists.{both}
use Rattle.ps_frame.specs.Causes.{Cause, Cell, Column, cell_causes, cell_values, column_causes, faulty, is_empty, value, whole_column}
use Rattle.ps_frame.specs.Eval.{at, sorted_by_keys}
use Rattle.ps_frame.specs.Evaluated.{IsFaultOf}
use Rattle.ps_frame.specs.Sorting.{Direction, in_order_of_keys, key_cmp, keys_cmp}
use Rattle.ps_frame.specs.Series.{Series}
use Rattle.ps_frame.specs.Zip.{Extent, below, broadcasts, cell_in_row, ends_early, extent_of, extents, is_faulty_row, least_or, lengths_where, row_causes, rows_before_fault, zip_length, zip_rows, zipped}
use Rattle.ps_frame.specs.declared.value.Cell.{Cell as Held}
use Rattle.ps_frame.specs.declared.value.Cell.TheVariants as held
use Rattle.ps_frame.specs.declared.value.DataFault.{DataFault}
use Rattle.ps_frame.specs.declared.value.DataType.TheVariants as kind
use Rattle.ps_frame.specs.declared.value.Value.{Value}
use Rattle.ps_frame.specs.declared.value.Value.TheVariants as val

-- ---- the rows of operands fill

-- each number is at least n
abbrev AtLeast : ℕ → List ℕ → Type 0
AtLeast n [] = Unit {0}
AtLeast n (m ∷ ms) = (n ≤ m) × AtLeast n ms

at-least-of : (n m : ℕ) (ms : List ℕ) → n ≤ m → AtLeast m ms → AtLeast n ms
at-least-of n m [] h a = tt
at-least-of n m (k ∷ ms) h a = (let l = a.0 in omega arith, at-least-of n m ms h a.1)

fold-least : (acc : ℕ) (ms : List ℕ) → (fold min acc ms ≤ acc) × AtLeast (fold min acc ms) ms
fold-least acc [] = (omega arith, tt)
fold-least acc (m ∷ ms) = let r = fold-least (min acc m) ms in (let l = r.0 in omega arith, (let l = r.0 in omega arith, r.1))

least-least : (ms : List ℕ) → AtLeast (least_or 1 ms) ms
least-least [] = tt
least-least (m ∷ ms) = fold-least m ms

-- an operand that repeats has one cell
repeats-one : (p : ComputedColumn) → repeats p ≡ true → length (cells_of p.cells) ≡ 1
repeats-one p e = let one = (both (not (is_some p.fault)) (length (cells_of p.cells) == 1) e).1 in eqb→eq (length (cells_of p.cells)) 1 (rw one tt)

open-fill : (n : ℕ) (ps : List ComputedColumn) → AtLeast n (lengths_where (λ e. not (broadcasts false e)) (map extent_held (map ending_of ps))) → AllFill ps n
open-fill n [] h = tt
open-fill n (p ∷ ps) h = go (repeats p) refl h (open-fill n ps)
  where
    go : (b : Bool) → repeats p ≡ b
        → AtLeast n (map (λ (e : Extent). e.len) (if not b then extent_held (ending_of p) ∷ filter (λ e. not (broadcasts false e)) (map extent_held (map ending_of ps)) else filter (λ e. not (broadcasts false e)) (map extent_held (map ending_of ps))))
        → (AtLeast n (lengths_where (λ e. not (broadcasts false e)) (map extent_held (map ending_of ps))) → AllFill ps n) → AllFill (p ∷ ps) n
    go true e h rest = (subst (λ b. FillsRows (cells_of p.cells) b n) (sym e) (repeats-one p e), rest h)
    go false e h rest = (subst (λ b. FillsRows (cells_of p.cells) b n) (sym e) h.0, rest h.1)

pub all-fill : (ps : List ComputedColumn) → AllFill ps (zip_length false (map extent_held (map ending_of ps)))
all-fill ps = open-fill (zip_length false (map extent_held (map ending_of ps))) ps (least-least (lengths_where (λ e. not (broadcasts false e)) (map extent_held (map ending_of ps))))

pub fill-at : (n : ℕ) (ps : List ComputedColumn) (i : ℕ) (p : ComputedColumn) → i < length ps → p ≡ get_or ps i p → AllFill ps n → FillsRows (cells_of p.cells) (repeats p) n
fill-at n [] i p h e a = absurd (omega arith)
fill-at n (q ∷ ps) zero p h e a = subst (λ (x : ComputedColumn). FillsRows (cells_of x.cells) (repeats x) n) (sym e) a.0
fill-at n (q ∷ ps) (suc i) p h e a = fill-at n ps i p (omega arith) e a.1

-- ---- one column

abbrev pub cell_of : ComputedColumn → ℕ → Held
cell_of p i = cell_for (cells_of p.cells) (repeats p) i

pub lane-more : (p : ComputedColumn) (i : ℕ) (v : Value) (vs new : List Value) → map (cell_of p) (below i) ≡ map held.Val vs → held.Val v ≡ cell_of p i → new ≡ vs ++ v ∷ [] → map (cell_of p) (below (i + 1)) ≡ map held.Val new
lane-more p i v vs new before is grown =
    rw add-one (map-append (cell_of p) (below i) (i ∷ []) ∙ ap (λ hs. hs ++ cell_of p i ∷ []) before ∙ ap (λ h. map held.Val vs ++ h ∷ []) (sym is)
    ∙ sym (ap (map held.Val) grown ∙ map-append held.Val vs (v ∷ [])))

pub lane-rest : (p : ComputedColumn) (n i : ℕ) (v : Value) (all : Option DataFault) → i < n → held.Val v ≡ cell_of p i → first_bad (map (cell_of p) (drop i (below n))) ≡ all → first_bad (map (cell_of p) (drop (i + 1) (below n))) ≡ all
lane-rest p n i v all h is before =
    sym (ap (λ is. first_bad (map (cell_of p) is)) (drop-below n i h) ∙ ap (λ x. first_bad (x ∷ map (cell_of p) (drop (i + 1) (below n)))) (sym is)) ∙ before

pub lane-stop : (p : ComputedColumn) (n i : ℕ) (f : DataFault) (all : Option DataFault) → i < n → held.Bad f ≡ cell_of p i → first_bad (map (cell_of p) (drop i (below n))) ≡ all → all ≡ Some f
lane-stop p n i f all h is before =
    sym before ∙ ap (λ is. first_bad (map (cell_of p) is)) (drop-below n i h) ∙ ap (λ x. first_bad (x ∷ map (cell_of p) (drop (i + 1) (below n)))) (sym is)

pub lane-end : (p : ComputedColumn) (n i : ℕ) (all : Option DataFault) → n ≤ i → first_bad (map (cell_of p) (drop i (below n))) ≡ all → None ≡ all
lane-end p n i all h before =
    let past : length (below n) ≤ i = let l = length-below n in omega arith in sym (ap (λ is. first_bad (map (cell_of p) is)) (drop_all i (below n) past)) ∙ before

pub lane-all : (p : ComputedColumn) (n i : ℕ) (vs : List Value) → n ≤ i → i ≤ n → map (cell_of p) (below i) ≡ map held.Val vs → lane p n ≡ map held.Val vs
lane-all p n i vs g h e = let same : i ≡ n = omega arith in subst (λ k. map (cell_of p) (below k) ≡ map held.Val vs) same e

-- ---- several columns

lanes-push : (ps : List ComputedColumn) (p : ComputedColumn) (n : ℕ) (vss : List (List Value)) (vs : List Value) → AreLanes ps n vss → lane p n ≡ map held.Val vs → AreLanes (ps ++ p ∷ []) n (vss ++ vs ∷ [])
lanes-push [] p n [] vs a e = (e, tt)
lanes-push [] p n (ws ∷ vss) vs a e = absurd a
lanes-push (q ∷ ps) p n [] vs a e = absurd a
lanes-push (q ∷ ps) p n (ws ∷ vss) vs a e = (a.0, lanes-push ps p n vss vs a.1 e)

pub lanes-more : (ps : List ComputedColumn) (n i : ℕ) (p : ComputedColumn) (vss new : List (List Value)) (vs : List Value) → i < length ps → p ≡ get_or ps i p → AreLanes (take i ps) n vss → lane p n ≡ map held.Val vs → new ≡ vss ++ vs ∷ []
    → AreLanes (take (i + 1) ps) n new
lanes-more ps n i p vss new vs h at' a e grown =
    subst (λ xs. AreLanes xs n new) (sym (take_more ps i p h ∙ ap (λ x. take i ps ++ x ∷ []) (sym at')))
    (subst (AreLanes (take i ps ++ p ∷ []) n) (sym grown) (lanes-push (take i ps) p n vss vs a e))

drop-part : (ps : List ComputedColumn) (n i : ℕ) (p : ComputedColumn) → i < length ps → p ≡ get_or ps i p → lanes_fault (drop i ps) n ≡ or_else (first_bad (lane p n)) (lanes_fault (drop (i + 1) ps) n)
drop-part ps n i p h at' = ap (λ xs. lanes_fault xs n) (drop_more ps i p h ∙ ap (λ x. x ∷ drop (i + 1) ps) (sym at'))

pub lanes-rest : (ps : List ComputedColumn) (n i : ℕ) (p : ComputedColumn) (vs : List Value) (all : Option DataFault) → i < length ps → p ≡ get_or ps i p → lane p n ≡ map held.Val vs → lanes_fault (drop i ps) n ≡ all → lanes_fault (drop (i + 1) ps) n ≡ all
lanes-rest ps n i p vs all h at' e before =
    sym (drop-part ps n i p h at' ∙ ap (λ hs. or_else (first_bad hs) (lanes_fault (drop (i + 1) ps) n)) e ∙ ap (λ o. or_else o (lanes_fault (drop (i + 1) ps) n)) (no_bad vs)) ∙ before

pub lanes-stop : (ps : List ComputedColumn) (n i : ℕ) (p : ComputedColumn) (f : DataFault) (all : Option DataFault) → i < length ps → p ≡ get_or ps i p → first_bad (lane p n) ≡ Some f → lanes_fault (drop i ps) n ≡ all → all ≡ Some f
lanes-stop ps n i p f all h at' e before = sym before ∙ drop-part ps n i p h at' ∙ ap (λ o. or_else o (lanes_fault (drop (i + 1) ps) n)) e

-- ---- rows of values

map_below : {A : Type 0} (n : ℕ) (f g : ℕ → A) → ((i : ℕ) → i < n → f i ≡ g i) → map f (below n) ≡ map g (below n)
map_below zero f g h = refl
map_below (suc n) f g h =
    map-append f (below n) (n ∷ []) ∙ ap (λ xs. xs ++ f n ∷ []) (map_below n f g (λ i l. h i (omega arith))) ∙ ap (λ x. map g (below n) ++ x ∷ []) (h n (omega arith)) ∙ sym (map-append g (below n) (n ∷ []))

pub cell-at : (p : ComputedColumn) (n i : ℕ) (vs : List Value) → lane p n ≡ map held.Val vs → i < n → cell_of p i ≡ held.Val (at i vs)
cell-at p n i vs e h =
    let within : i < length (below n) = let l = length-below n in omega arith in
    sym (get_or-map (cell_of p) (below n) i 0 (held.Val val.Null) within ∙ ap (cell_of p) (get_or-below n i 0 h))
    ∙ ap (λ hs. get_or hs i (held.Val val.Null)) e ∙ get_or-map_at held.Val vs i val.Null

row-whole : (ps : List ComputedColumn) (n i : ℕ) (vss : List (List Value)) → AreLanes ps n vss → i < n → row_of ps i ≡ map held.Val (values_at_row vss i)
row-whole [] n i [] a h = refl
row-whole [] n i (vs ∷ vss) a h = absurd a
row-whole (p ∷ ps) n i [] a h = absurd a
row-whole (p ∷ ps) n i (vs ∷ vss) a h = let x = cell-at p n i vs a.0 h in let y = row-whole ps n i vss a.1 h in cc

no-fault : (f : ℕ → List Value) (is : List ℕ) → faulty_row (map (λ i. map held.Val (f i)) is) ≡ None
no-fault f [] = refl
no-fault f (i ∷ is) = ap (λ o. or_else o (faulty_row (map (λ i. map held.Val (f i)) is))) (no_bad (f i)) ∙ no-fault f is

held-values : (row : List Cell) (vs : List Value) → map held_cell row ≡ map held.Val vs → row ≡ map value vs
held-values [] [] e = refl
held-values [] (v ∷ vs) e = cc
held-values (c ∷ row) [] e = cc
held-values (value w ∷ row) (v ∷ vs) e =
    let same : w ≡ v = cc in
    let rest : map held_cell row ≡ map held.Val vs = cc in
    let r = held-values row vs rest in cc
held-values (faulty c cs ∷ row) (v ∷ vs) e = cc

no-causes : (vs : List Value) → row_causes (map value vs) ≡ []
no-causes [] = refl
no-causes (v ∷ vs) = no-causes vs

values-back : (vs : List Value) → cell_values (map value vs) ≡ vs
values-back [] = refl
values-back (v ∷ vs) = ap (λ ws. v ∷ ws) (values-back vs)

before-whole : (f : ℕ → List Value) (is : List ℕ) → rows_before_fault (map (λ i. map value (f i)) is) ≡ map f is
before-whole f [] = refl
before-whole f (i ∷ is) =
    ap (map cell_values) (take_while-pass (λ r. not (is_faulty_row r)) (map value (f i)) (map (λ i. map value (f i)) is) (ap (λ xs. not (not (is_empty xs))) (no-causes (f i))))
    ∙ ap (λ vs. vs ∷ rows_before_fault (map (λ i. map value (f i)) is)) (values-back (f i)) ∙ ap (λ rs. f i ∷ rs) (before-whole f is)

-- what is sorted of columns without a fault is held of what the definition sorts
pub sorted-keeps : (ds : List Direction) (ps : List ComputedColumn) (n : ℕ) (vss : List (List Value)) (q : ComputedColumn) → n ≡ zip_length false (map extent_held (map ending_of ps)) → ending_fault (map ending_of ps) ≡ None → AreLanes ps n vss
    → Keeps q (whole_column (sorted_first ds n vss)) → (node : ℕ) (cs : List Column) → AllZip Keeps ps cs → Keeps q (sorted_by_keys ds (zipped false node cs))
sorted-keeps ds ps n vss q length_is whole lanes kept node cs k =
    let same = length_is ∙ ap (zip_length false) (extents-end (map ending_of ps) cs (all_end ps cs k)) in
    let rows = map_below n (row_of ps) (λ i. map held.Val (values_at_row vss i)) (λ i h. row-whole ps n i vss lanes h) in
    let no_row = ap faulty_row rows ∙ no-fault (values_at_row vss) (below n) in
    let ended = zip-ends node ps cs k in
    let none : (zipped false node cs).broken ≡ [] =
    subst (λ o. IsOneOf (zipped false node cs).broken o)
    (ap (λ o. or_else o (faulty_row (rows_of_parts ps (zip_length false (map extent_held (map ending_of ps)))))) whole ∙ ap (λ m. faulty_row (rows_of_parts ps m)) (sym length_is) ∙ no_row) ended in
    let cells = map_below n (λ i. map (cell_in_row false i) cs) (λ i. map value (values_at_row vss i)) (λ i h. held-values (map (cell_in_row false i) cs) (values_at_row vss i) (sym (row-held ps cs i k) ∙ row-whole ps n i vss lanes h)) in
    let z : (zipped false node cs).rows ≡ map (values_at_row vss) (below n) =
    ap (λ m. rows_before_fault (zip_rows false m cs)) (sym same) ∙ ap rows_before_fault cells ∙ before-whole (values_at_row vss) (below n) in
    let items : in_order_of_keys ds (map (λ row. (drop 1 row, at 0 row)) (zipped false node cs).rows) ≡ sorted_first ds n vss =
    ap (λ rs. in_order_of_keys ds (map (λ row. (drop 1 row, at 0 row)) rs)) z ∙ ap (in_order_of_keys ds) (map-map (λ (row : List Value). (drop 1 row, at 0 row)) (values_at_row vss) (below n)) in
    record {
      cells = kept.cells ∙ ap (λ vs. map held_cell (map value vs)) (sym items) ∙ sym (ap (λ (b : List Cause). map held_cell (if is_empty b then map value (in_order_of_keys ds (map (λ row. (drop 1 row, at 0 row)) (zipped false node cs).rows)) else [])) none);
      ended = subst (λ b. IsOneOf b q.fault) (sym none) kept.ended;
    }

-- and of columns that end early, or with a faulty cell
sorted-broken : (ds : List Direction) (q : ComputedColumn) (f : DataFault) → cells_of q.cells ≡ [] → q.fault ≡ Some f → (node : ℕ) (cs : List Column) → IsFaultOf (zipped false node cs).broken f → Keeps q (sorted_by_keys ds (zipped false node cs))
sorted-broken ds q f cells ended node cs m = record {
  cells = cells ∙ sym (ap (λ b. map held_cell (if b then map value (in_order_of_keys ds (map (λ row. (drop 1 row, at 0 row)) (zipped false node cs).rows)) else [])) (not_empty (zipped false node cs).broken f m));
  ended = rw ended m;
}

pub sorted-early : (ds : List Direction) (ps : List ComputedColumn) (q : ComputedColumn) (f : DataFault) → ending_fault (map ending_of ps) ≡ Some f → cells_of q.cells ≡ [] → q.fault ≡ Some f → (node : ℕ) (cs : List Column) → AllZip Keeps ps cs
    → Keeps q (sorted_by_keys ds (zipped false node cs))
sorted-early ds ps q f e cells ended node cs k =
    sorted-broken ds q f cells ended node cs
    (subst (λ o. IsOneOf (zipped false node cs).broken o) (ap (λ o. or_else o (faulty_row (rows_of_parts ps (zip_length false (map extent_held (map ending_of ps)))))) e) (zip-ends node ps cs k))

or-none : (a b : Option DataFault) → or_else a b ≡ None → (a ≡ None) × (b ≡ None)
or-none None b e = (refl, e)
or-none (Some f) b e = cc

bad-head : (h : Held) (row : List Held) → first_bad (h ∷ row) ≡ None → (first_bad (h ∷ []) ≡ None) × (first_bad row ≡ None)
bad-head (held.Val v) row e = (refl, e)
bad-head (held.Bad f) row e = cc

bad-cons : (h : Held) (hs : List Held) → first_bad (h ∷ []) ≡ None → first_bad hs ≡ None → first_bad (h ∷ hs) ≡ None
bad-cons (held.Val v) hs e g = g
bad-cons (held.Bad f) hs e g = cc

columns-whole : (p : ComputedColumn) (ps : List ComputedColumn) (is : List ℕ) → faulty_row (map (row_of (p ∷ ps)) is) ≡ None → (first_bad (map (cell_of p) is) ≡ None) × (faulty_row (map (row_of ps) is) ≡ None)
columns-whole p ps [] e = (refl, refl)
columns-whole p ps (i ∷ is) e =
    let two = or-none (first_bad (row_of (p ∷ ps) i)) (faulty_row (map (row_of (p ∷ ps)) is)) e in
    let row = bad-head (cell_of p i) (row_of ps i) two.0 in
    let rest = columns-whole p ps is two.1 in
    (bad-cons (cell_of p i) (map (cell_of p) is) row.0 rest.0, ap (λ o. or_else o (faulty_row (map (row_of ps) is))) row.1 ∙ rest.1)

lanes-whole : (ps : List ComputedColumn) (n : ℕ) → faulty_row (rows_of_parts ps n) ≡ None → lanes_fault ps n ≡ None
lanes-whole [] n e = refl
lanes-whole (p ∷ ps) n e =
    let two = columns-whole p ps (below n) e in
    ap (λ o. or_else o (lanes_fault ps n)) two.0 ∙ lanes-whole ps n two.1

head-cells : (c : Column) (is : List ℕ) (f : DataFault) → head_fault (row_causes (map (λ i. cell_in_row false i c) is)) ≡ Some f → IsFaultOf (flat_map cell_causes c.cells) f
head-cells c [] f e = cc
head-cells c (i ∷ is) f e =
    elim (head-or (cell_causes (cell_in_row false i c)) (row_causes (map (λ i. cell_in_row false i c) is)) f e) [
      | inl h ↦ cell-causes c.cells (if broadcasts false (extent_of c) then 0 else i) f (head-one_of (cell_causes (cell_in_row false i c)) f h)
      | inr h ↦ head-cells c is f h
    ]

lane-cause : (p : ComputedColumn) (c : Column) (n : ℕ) (f : DataFault) → Keeps p c → first_bad (lane p n) ≡ Some f → IsFaultOf (column_causes c) f
lane-cause p c n f k e =
    one_of-left (flat_map cell_causes c.cells) c.broken f
    (head-cells c (below n) f
    (sym (ap first_bad (map_same _ _ (λ i. cell-held p c i k) (below n) ∙ sym (map-map held_cell (λ i. cell_in_row false i c) (below n))) ∙ first-bad (map (λ i. cell_in_row false i c) (below n))) ∙ e))

lanes-cause : (ps : List ComputedColumn) (cs : List Column) (n : ℕ) (f : DataFault) → AllZip Keeps ps cs → lanes_fault ps n ≡ Some f → IsFaultOf (flat_map column_causes cs) f
lanes-cause [] [] n f k e = cc
lanes-cause [] (c ∷ cs) n f k e = absurd k
lanes-cause (p ∷ ps) [] n f k e = absurd k
lanes-cause (p ∷ ps) (c ∷ cs) n f k e = go (first_bad (lane p n)) refl e (lanes-cause ps cs n f k.1)
  where
    go : (o : Option DataFault) → first_bad (lane p n) ≡ o → or_else o (lanes_fault ps n) ≡ Some f → (lanes_fault ps n ≡ Some f → IsFaultOf (flat_map column_causes cs) f) → IsFaultOf (flat_map column_causes (c ∷ cs)) f
    go None is e rest = one_of-right (column_causes c) (flat_map column_causes cs) f (rest e)
    go (Some g) is e rest = one_of-left (column_causes c) (flat_map column_causes cs) f (lane-cause p c n f k.0 (is ∙ e))

or-true : (b : Bool) → (b || true) ≡ true
or-true true = refl
or-true false = refl

pub sorted-faulty : (ds : List Direction) (ps : List ComputedColumn) (n : ℕ) (q : ComputedColumn) (f : DataFault) → n ≡ zip_length false (map extent_held (map ending_of ps)) → lanes_fault ps n ≡ Some f → cells_of q.cells ≡ [] → q.fault ≡ Some f → (node : ℕ) (cs : List Column) → AllZip Keeps ps cs
    → Keeps q (sorted_by_keys ds (zipped false node cs))
sorted-faulty ds ps n q f length_is e cells ended node cs k =
    let same = length_is ∙ ap (zip_length false) (extents-end (map ending_of ps) cs (all_end ps cs k)) in
    sorted-broken ds q f cells ended node cs
    (go (faulty_row (rows_of_parts ps n)) refl (subst (λ rs. RowFault cs (zip_rows false n cs) (faulty_row rs)) (sym (rows-held ps cs n k)) (row-fault cs (below n))) same)
  where
    go : (o : Option DataFault) → faulty_row (rows_of_parts ps n) ≡ o → RowFault cs (zip_rows false n cs) (faulty_row (rows_of_parts ps n)) → n ≡ zip_length false (extents cs) → IsFaultOf (zipped false node cs).broken f
    go None is r same = let no = sym e ∙ lanes-whole ps n is in cc
    go (Some g) is r same =
        let there : RowFault cs (zip_rows false n cs) (Some g) = subst (RowFault cs (zip_rows false n cs)) is r in
        let bad : list_any is_faulty_row (zip_rows false (zip_length false (extents cs)) cs) ≡ true = subst (λ m. list_any is_faulty_row (zip_rows false m cs) ≡ true) same there.0 in
        rw (bad, or-true (ends_early false cs)) (one_of-left (flat_map column_causes cs) _ f (lanes-cause ps cs n f k e))

-- ---- the order of rows by lists of keys

row-keys : (vss : List (List Value)) (i : ℕ) → key_row (key_columns vss) i ≡ values_at_row vss i
row-keys [] i = refl
row-keys (vs ∷ vss) i = ap (λ ws. at i vs ∷ ws) (row-keys vss i)

below-range : (n : ℕ) → below n ≡ range_with_len 0 n
below-range zero = refl
below-range (suc n) = ap (λ is. is ++ n ∷ []) (below-range n) ∙ sym (numbers-more n) ∙ ap (range_with_len 0) (add-one n)

pub sorted-first : (ds : List Direction) (n : ℕ) (vs : List Value) (vss : List (List Value)) → in_order_of_keys ds (beside_keys (key_columns vss) (λ i. at i vs) n) ≡ sorted_first ds n (vs ∷ vss)
sorted-first ds n vs vss =
    ap (in_order_of_keys ds)
    (map_same _ _ (λ i. ap (λ (ks : List Value). (ks, at i vs)) (row-keys vss i)) (range_with_len 0 n)
    ∙ ap (map (λ i. (values_at_row vss i, at i vs))) (sym (below-range n)))

-- ---- what the code has of a lane, of keys and of picked values

pub lane-ok : {V : Type 0} (p : ComputedColumn) (n : ℕ) (outcome : Result V DataFault) (v : V) (f : V → List Value) → MatchResult outcome (λ x. lane p n ≡ map held.Val (f x)) (λ e. first_bad (lane p n) ≡ Some e) → outcome ≡ Ok v → lane p n ≡ map held.Val (f v)
lane-ok p n outcome v f m is = let s : MatchResult (Ok v) (λ x. lane p n ≡ map held.Val (f x)) (λ e. first_bad (lane p n) ≡ Some e) = subst (λ o. MatchResult o (λ x. lane p n ≡ map held.Val (f x)) (λ e. first_bad (lane p n) ≡ Some e)) is m in s

pub lane-err : {V : Type 0} (p : ComputedColumn) (n : ℕ) (outcome : Result V DataFault) (e : DataFault) (f : V → List Value) → MatchResult outcome (λ x. lane p n ≡ map held.Val (f x)) (λ e. first_bad (lane p n) ≡ Some e) → outcome ≡ Err e → first_bad (lane p n) ≡ Some e
lane-err p n outcome e f m is = let s : MatchResult (Err e) (λ x. lane p n ≡ map held.Val (f x)) (λ e. first_bad (lane p n) ≡ Some e) = subst (λ o. MatchResult o (λ x. lane p n ≡ map held.Val (f x)) (λ e. first_bad (lane p n) ≡ Some e)) is m in s

pub lanes-ok : {V : Type 0} (ps : List ComputedColumn) (n : ℕ) (outcome : Result V DataFault) (v : V) (f : V → List (List Value)) → MatchResult outcome (λ x. AreLanes ps n (f x)) (λ e. lanes_fault ps n ≡ Some e) → outcome ≡ Ok v → AreLanes ps n (f v)
lanes-ok ps n outcome v f m is = let s : MatchResult (Ok v) (λ x. AreLanes ps n (f x)) (λ e. lanes_fault ps n ≡ Some e) = subst (λ o. MatchResult o (λ x. AreLanes ps n (f x)) (λ e. lanes_fault ps n ≡ Some e)) is m in s

pub lanes-err : {V : Type 0} (ps : List ComputedColumn) (n : ℕ) (outcome : Result V DataFault) (e : DataFault) (f : V → List (List Value)) → MatchResult outcome (λ x. AreLanes ps n (f x)) (λ e. lanes_fault ps n ≡ Some e) → outcome ≡ Err e → lanes_fault ps n ≡ Some e
lanes-err ps n outcome e f m is = let s : MatchResult (Err e) (λ x. AreLanes ps n (f x)) (λ e. lanes_fault ps n ≡ Some e) = subst (λ o. MatchResult o (λ x. AreLanes ps n (f x)) (λ e. lanes_fault ps n ≡ Some e)) is m in s

pub first-fault : (p : ComputedColumn) (ps : List ComputedColumn) (n : ℕ) (f : DataFault) → first_bad (lane p n) ≡ Some f → lanes_fault (p ∷ ps) n ≡ Some f
first-fault p ps n f e = ap (λ o. or_else o (lanes_fault ps n)) e

pub later-fault : (p : ComputedColumn) (ps : List ComputedColumn) (n : ℕ) (vs : List Value) (f : DataFault) → lane p n ≡ map held.Val vs → lanes_fault ps n ≡ Some f → lanes_fault (p ∷ ps) n ≡ Some f
later-fault p ps n vs f e g = ap (λ hs. or_else (first_bad hs) (lanes_fault ps n)) e ∙ ap (λ o. or_else o (lanes_fault ps n)) (no_bad vs) ∙ g

pub key-length : {V : Type 0} (keys : List V) (f : V → List Value) → length (key_columns (map f keys)) ≡ length keys
key-length [] f = refl
key-length (k ∷ keys) f = ap suc (key-length keys f)

pub key-there : {V : Type 0} (keys : List V) (f : V → List Value) (i : ℕ) (k : V) (vs : List Value) (d : Series) → i < length keys → k ≡ get_or keys i k → vs ≡ f k → record { kind = kind.Int64; values = vs } ≡ get_or (key_columns (map f keys)) i d
key-there [] f i k vs d h e v = absurd (omega arith)
key-there (x ∷ keys) f zero k vs d h e v = ap (λ (ws : List Value). let t : Series = record { kind = kind.Int64; values = ws } in t) (v ∙ ap f e)
key-there (x ∷ keys) f (suc i) k vs d h e v = key-there keys f i k vs d (omega arith) e v

pub rows-decided : {V : Type 0} (keys : List V) (f : V → List Value) (ds : List Direction) (a b i : ℕ) (d : Direction) (k : V) (vs : List Value) (o r : Ordering) → i < length ds → i < length keys → d ≡ get_or ds i d → k ≡ get_or keys i k → vs ≡ f k
    → r ≡ keys_cmp (drop i ds) (drop i (key_row (key_columns (map f keys)) a)) (drop i (key_row (key_columns (map f keys)) b)) → o ≡ key_cmp d (at a vs) (at b vs) → is_ne o ≡ true → o ≡ r
rows-decided keys f ds a b i d k vs o r g h e at' v before is ne =
    let key : Series = record { kind = kind.Int64; values = vs } in
    key-decides ds (key_columns (map f keys)) a b i d key o r g (let l = key-length keys f in omega arith) e (key-there keys f i k vs key h at' v) before is ne

pub rows-passed : {V : Type 0} (keys : List V) (f : V → List Value) (ds : List Direction) (a b i : ℕ) (d : Direction) (k : V) (vs : List Value) (o r : Ordering) → i < length ds → i < length keys → d ≡ get_or ds i d → k ≡ get_or keys i k → vs ≡ f k
    → r ≡ keys_cmp (drop i ds) (drop i (key_row (key_columns (map f keys)) a)) (drop i (key_row (key_columns (map f keys)) b)) → o ≡ key_cmp d (at a vs) (at b vs) → is_ne o ≡ false
    → r ≡ keys_cmp (drop (i + 1) ds) (drop (i + 1) (key_row (key_columns (map f keys)) a)) (drop (i + 1) (key_row (key_columns (map f keys)) b))
rows-passed keys f ds a b i d k vs o r g h e at' v before is ne =
    let key : Series = record { kind = kind.Int64; values = vs } in
    key-passes ds (key_columns (map f keys)) a b i d key o r g (let l = key-length keys f in omega arith) e (key-there keys f i k vs key h at' v) before is ne

pub rows-equal : {V : Type 0} (keys : List V) (f : V → List Value) (ds : List Direction) (a b i : ℕ) (r : Ordering) → min (length keys) (length ds) ≤ i
    → r ≡ keys_cmp (drop i ds) (drop i (key_row (key_columns (map f keys)) a)) (drop i (key_row (key_columns (map f keys)) b)) → Equal ≡ r
rows-equal keys f ds a b i r h before = keys-end ds (key_columns (map f keys)) a b i r (let l = key-length keys f in omega arith) before
