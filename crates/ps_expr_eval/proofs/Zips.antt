-- What is held of operands side by side is held of the definition's columns side by side.
use Rattle.std.proofs.Common.{◌≡◌, ℕ, zero, suc, List, [], ◌∷◌, ◌++◌, length, get_or, Bool, true, false, refl, subst, sym, ◌∙◌, ap, inl, inr, add-one, ◌+◌}
use Rattle.std.specs.Prelude.{map, flat_map, not, ◌||◌, is_some, Option, Some, None, if◌then◌else◌}
use Rattle.std.specs.List.{AllZip, list_any}
use Rattle.std.proofs.lemmas.List.{length-map, map-append}
use Rattle.ps_expr_eval.specs.Cellwise.{IsCellwise}
use Rattle.ps_expr_eval.specs.Held.{IsOneOf, Keeps, cells_of, ending_of, first_bad, held_cell, held_values}
use Rattle.ps_expr_eval.specs.Lengths.{ending_fault, extent_held, first_ended}
use Rattle.ps_expr_eval.specs.Rows.{bad_or, cell_for, cell_from, cells_from, repeats, row_of}
use Rattle.ps_expr_eval.specs.declared.lengths.Ending.{Ending}
use Rattle.ps_expr_eval.specs.declared.computed.ComputedColumn.{ComputedColumn}
use Rattle.ps_frame.specs.Causes.{Cause, Cell, Column, cell_causes, cell_values, column_causes, faulty, faulty_or, is_empty, is_ended, value}
use Rattle.ps_frame.specs.Eval.{cell_of_row, cellwise}
use Rattle.ps_frame.specs.Evaluated.{IsFaultOf}
use Rattle.ps_frame.specs.Zip.{Extent, aligned, below, breaks_shape, broadcasts, cell_in_row, ends_early, extent_of, extents, row_causes, zip_causes, zip_length}
use Rattle.ps_frame.specs.declared.value.Cell.{Cell as Held}
use Rattle.ps_frame.specs.declared.value.DataFault.{DataFault}
use Rattle.ps_frame.specs.declared.value.DataFault.TheVariants as fault
use Rattle.ps_frame.specs.declared.value.Value.{Value}
use Rattle.ps_frame.specs.declared.value.Value.TheVariants as val

-- lists
pub map_same : {A B : Type 0} (f g : A → B) → ((x : A) → f x ≡ g x) → (xs : List A) → map f xs ≡ map g xs
map_same f g h [] = refl
map_same f g h (x ∷ xs) = let p = h x in let q = map_same f g h xs in cc

pub map-map : {A B C : Type 0} (f : B → C) (g : A → B) (xs : List A) → map f (map g xs) ≡ map (λ x. f (g x)) xs
map-map f g [] = refl
map-map f g (x ∷ xs) = ap (λ zs. f (g x) ∷ zs) (map-map f g xs)

pub get_or-map_at : {A B : Type 0} (f : A → B) (xs : List A) (i : ℕ) (d : A) → get_or (map f xs) i (f d) ≡ f (get_or xs i d)
get_or-map_at f [] i d = refl
get_or-map_at f (x ∷ xs) zero d = refl
get_or-map_at f (x ∷ xs) (suc i) d = get_or-map_at f xs i d

-- members of joined sets
pub one_of-left : (xs ys : List Cause) (f : DataFault) → IsFaultOf xs f → IsFaultOf (xs ++ ys) f
one_of-left [] ys f h = absurd h
one_of-left (x ∷ xs) ys f (inl e) = inl e
one_of-left (x ∷ xs) ys f (inr h) = inr (one_of-left xs ys f h)

pub one_of-right : (xs ys : List Cause) (f : DataFault) → IsFaultOf ys f → IsFaultOf (xs ++ ys) f
one_of-right [] ys f h = h
one_of-right (x ∷ xs) ys f h = inr (one_of-right xs ys f h)

pub not_empty : (xs : List Cause) (f : DataFault) → IsFaultOf xs f → is_empty xs ≡ false
not_empty [] f h = absurd h
not_empty (x ∷ xs) f h = refl

-- a column ends as what is held of it does
pub record Ends (e : Ending) (c : Column) : Type 0 where
  pub len : e.len ≡ length c.cells
  pub ended : IsOneOf c.broken e.fault

pub ends : (p : ComputedColumn) (c : Column) → Keeps p c → Ends (ending_of p) c
ends p c k = record { len = ap length k.cells ∙ length-map c.cells held_cell; ended = k.ended }

pub all_end : (ps : List ComputedColumn) (cs : List Column) → AllZip Keeps ps cs → AllZip Ends (map ending_of ps) cs
all_end [] [] k = tt
all_end [] (c ∷ cs) k = absurd k
all_end (p ∷ ps) [] k = absurd k
all_end (p ∷ ps) (c ∷ cs) k = (ends p c k.0, all_end ps cs k.1)

pub some-ended : (causes : List Cause) (o : Option DataFault) → IsOneOf causes o → is_some o ≡ not (is_empty causes)
some-ended causes None e = rw e refl
some-ended causes (Some f) h = ap not (sym (not_empty causes f h))

pub extent-ends : (e : Ending) (c : Column) → Ends e c → extent_held e ≡ extent_of c
extent-ends e c k =
    ap (λ b. record { ended = b; len = e.len }) (some-ended c.broken e.fault k.ended) ∙ ap (λ n. record { ended = is_ended c; len = n }) k.len

pub extents-end : (es : List Ending) (cs : List Column) → AllZip Ends es cs → map extent_held es ≡ extents cs
extents-end [] [] k = refl
extents-end [] (c ∷ cs) k = absurd k
extents-end (e ∷ es) [] k = absurd k
extents-end (e ∷ es) (c ∷ cs) k = let p = extent-ends e c k.0 in let q = extents-end es cs k.1 in cc

-- the first operand that a fault ended
abbrev EndedBy : List Column → Option DataFault → Type 0
EndedBy cs None = list_any is_ended cs ≡ false
EndedBy cs (Some f) = (list_any is_ended cs ≡ true) × IsFaultOf (flat_map column_causes cs) f

first-ended : (es : List Ending) (cs : List Column) → AllZip Ends es cs → EndedBy cs (first_ended es)
first-ended [] [] k = refl
first-ended [] (c ∷ cs) k = absurd k
first-ended (e ∷ es) [] k = absurd k
first-ended (e ∷ es) (c ∷ cs) k = go e.fault k.0.ended (first_ended es) (first-ended es cs k.1)
  where
    more : (o : Option DataFault) → is_empty c.broken ≡ true → EndedBy cs o → EndedBy (c ∷ cs) o
    more None e h = rw (e, h) refl
    more (Some f) e h = (rw (e, h.0) refl, one_of-right (column_causes c) (flat_map column_causes cs) f h.1)

    go : (o : Option DataFault) → IsOneOf c.broken o → (rest : Option DataFault) → EndedBy cs rest → EndedBy (c ∷ cs) (if is_some o then o else rest)
    go None e rest h = more rest (ap is_empty e) h
    go (Some f) m rest h =
        (let n = not_empty c.broken f m in rw n refl, one_of-left (column_causes c) (flat_map column_causes cs) f (one_of-right (flat_map cell_causes c.cells) c.broken f m))

-- what ends operands early is one of the causes that the definition gives
or-true : (b : Bool) → (b || true) ≡ true
or-true true = refl
or-true false = refl

or-nil : (b : Bool) → (b || false) ≡ b
or-nil true = refl
or-nil false = refl

pub early : (node : ℕ) (es : List Ending) (cs : List Column) → AllZip Ends es cs → IsOneOf (aligned false node cs).broken (ending_fault es)
early node es cs k =
    let same = extents-end es cs k in
    subst (λ (x : List Extent). IsOneOf (aligned false node cs).broken (if breaks_shape false x then Some fault.Shape else first_ended es)) (sym same) (go (breaks_shape false (extents cs)) refl)
  where
    any : (o : Option DataFault) → EndedBy cs o
        → IsOneOf (if list_any is_ended cs || false then flat_map column_causes cs ++ [] else []) o
    any None h = rw h refl
    any (Some f) h = rw h.0 (one_of-left (flat_map column_causes cs) [] f h.1)

    go : (b : Bool) → breaks_shape false (extents cs) ≡ b
        → IsOneOf (if list_any is_ended cs || breaks_shape false (extents cs) then zip_causes false node cs else []) (if breaks_shape false (extents cs) then Some fault.Shape else first_ended es)
    go true e = rw (e, or-true (list_any is_ended cs)) (one_of-right (flat_map column_causes cs) _ fault.Shape (inl refl))
    go false e = rw e (any (first_ended es) (first-ended es cs k))

-- a row of what is held
pub cell-held : (p : ComputedColumn) (c : Column) (i : ℕ) → Keeps p c → cell_for (cells_of p.cells) (repeats p) i ≡ held_cell (cell_in_row false i c)
cell-held p c i k =
    let e = extent-ends (ending_of p) c (ends p c k) in
    ap (λ hs. cell_for hs (repeats p) i) k.cells
    ∙ ap (λ (x : Extent). cell_for (map held_cell c.cells) (broadcasts false x) i) e
    ∙ get_or-map_at held_cell c.cells (if broadcasts false (extent_of c) then 0 else i) (value val.Null)

pub row-held : (ps : List ComputedColumn) (cs : List Column) (i : ℕ) → AllZip Keeps ps cs → row_of ps i ≡ map held_cell (map (cell_in_row false i) cs)
row-held [] [] i k = refl
row-held [] (c ∷ cs) i k = absurd k
row-held (p ∷ ps) [] i k = absurd k
row-held (p ∷ ps) (c ∷ cs) i k = let x = cell-held p c i k.0 in let y = row-held ps cs i k.1 in cc

-- the first fault of a set of causes
abbrev pub head_fault : List Cause → Option DataFault
head_fault [] = None
head_fault (x ∷ xs) = Some x.fault

pub first-bad : (row : List Cell) → first_bad (map held_cell row) ≡ head_fault (row_causes row)
first-bad [] = refl
first-bad (value v ∷ row) = first-bad row
first-bad (faulty c cs ∷ row) = refl

pub values-held : (row : List Cell) → held_values (map held_cell row) ≡ cell_values row
values-held [] = refl
values-held (value v ∷ row) = ap (λ vs. v ∷ vs) (values-held row)
values-held (faulty c cs ∷ row) = values-held row

held-faulty_or : (xs : List Cause) (c : Cell) → held_cell (faulty_or xs c) ≡ bad_or (head_fault xs) (held_cell c)
held-faulty_or [] c = refl
held-faulty_or (x ∷ xs) c = refl

cell-from : (f : List Value → Cell) (row : List Cell) → cell_from (λ vs. held_cell (f vs)) (map held_cell row) ≡ held_cell (cell_of_row f row)
cell-from f row =
    ap (λ o. bad_or o (held_cell (f (held_values (map held_cell row))))) (first-bad row)
    ∙ ap (λ vs. bad_or (head_fault (row_causes row)) (held_cell (f vs))) (values-held row)
    ∙ sym (held-faulty_or (row_causes row) (f (cell_values row)))

-- what an elementwise operator gives of what is held is held of what the definition gives
pub cellwise-keeps : (g : List Value → Held) (f : List Value → Cell) → ((vs : List Value) → g vs ≡ held_cell (f vs)) → (ps : List ComputedColumn) (q : ComputedColumn) → IsCellwise g ps q → (node : ℕ) (cs : List Column) → AllZip Keeps ps cs → Keeps q (cellwise node f cs)
cellwise-keeps g f same_cell ps q is node cs k =
    let es = all_end ps cs k in
    let same = extents-end (map ending_of ps) cs es in
    let n = zip_length false (extents cs) in
    record {
      cells = is.cells ∙ ap (λ x. cells_from g ps (zip_length false x)) same
          ∙ map_same _ _ (λ i. ap (cell_from g) (row-held ps cs i k) ∙ ap (bad_or (first_bad (map held_cell (map (cell_in_row false i) cs)))) (same_cell (held_values (map held_cell (map (cell_in_row false i) cs)))) ∙ cell-from f (map (cell_in_row false i) cs)) (below n)
          ∙ sym (ap (map held_cell) (map-map (cell_of_row f) (λ i. map (cell_in_row false i) cs) (below n)) ∙ map-map held_cell (λ i. cell_of_row f (map (cell_in_row false i) cs)) (below n));
      ended = subst (IsOneOf (aligned false node cs).broken) (sym is.fault) (early node (map ending_of ps) cs es);
    }

-- one more row
pub cells-more : (f : List Value → Held) (ps : List ComputedColumn) (i : ℕ) (row : List Held) (cell : Held) (old new : List Held) → old ≡ cells_from f ps i → row ≡ row_of ps i → cell ≡ cell_from f row → new ≡ old ++ cell ∷ []
    → new ≡ cells_from f ps (i + 1)
cells-more f ps i row cell old new before is made grown =
    rw add-one (grown ∙ ap (λ hs. hs ++ cell ∷ []) before
    ∙ ap (λ h. cells_from f ps i ++ h ∷ []) (made ∙ ap (cell_from f) is)
    ∙ sym (map-append (λ j. cell_from f (row_of ps j)) (below i) (i ∷ [])))

-- the cell of an operand that repeats as is told
pub operand-cell : (p : ComputedColumn) (i : ℕ) (r : Bool) (a : Held) → r ≡ repeats p → a ≡ cell_for (cells_of p.cells) r i → a ≡ cell_for (cells_of p.cells) (repeats p) i
operand-cell p i r a e is = is ∙ ap (λ b. cell_for (cells_of p.cells) b i) e

pub two_cells : (a x b y : Held) → a ≡ x → b ≡ y → (a ∷ b ∷ []) ≡ x ∷ y ∷ []
two_cells a x b y e g = cc

pub three_cells : (a x b y c z : Held) → a ≡ x → b ≡ y → c ≡ z → (a ∷ b ∷ c ∷ []) ≡ x ∷ y ∷ z ∷ []
three_cells a x b y c z e g h = cc

-- and there is such a fault exactly where the definition has the zip end early
pub early-some : (es : List Ending) (cs : List Column) → AllZip Ends es cs → is_some (ending_fault es) ≡ ends_early false cs
early-some es cs k =
    let same = extents-end es cs k in
    ap (λ (x : List Extent). is_some (if breaks_shape false x then Some fault.Shape else first_ended es)) same
    ∙ go (breaks_shape false (extents cs)) (first_ended es) (first-ended es cs k)
  where
    go : (b : Bool) (o : Option DataFault) → EndedBy cs o → is_some (if b then Some fault.Shape else o) ≡ (list_any is_ended cs || b)
    go true o h = sym (or-true (list_any is_ended cs))
    go false None h = sym (or-nil (list_any is_ended cs) ∙ h)
    go false (Some f) h = sym (or-nil (list_any is_ended cs) ∙ h.0)
