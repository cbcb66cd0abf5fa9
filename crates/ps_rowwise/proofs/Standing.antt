-- Columns that stand for functions of a row, and what becomes of them side by side.
use Rattle.std.proofs.Common.{◌≡◌, ℕ, zero, suc, ◌<◌, min, List, [], ◌∷◌, ◌++◌, length, get_or, refl, sym, ap, ◌∙◌, arith}
use Rattle.std.proofs.lemmas.Bool.{eqb-true}
use Rattle.std.proofs.lemmas.List.{get_or-map, length-map}
use Rattle.std.proofs.lemmas.Simd.{map-map}
use Rattle.std.specs.Prelude.{Bool, true, false, not, ◌&&◌, ◌||◌, ◌==◌, cond, map, filter, flat_map, fold, nat_le, nat_lt, if◌then◌else◌}
use Rattle.std.specs.List.{AllByRecursion, list_all, list_any}
use Rattle.ps_frame.specs.Causes.{Cell, Column, value, column_causes, is_empty, is_ended}
use Rattle.ps_frame.specs.Eval.{cell_of_row, cellwise}
use Rattle.ps_frame.specs.Zip.{Extent, aligned, all_same, below, breaks_shape, broadcasts, cell_in_row, ended_lengths, ends_early, extent_of, extents, least_or, lengths_where, open_lengths, outgrows, unseen_causes, zip_causes, zip_length, zip_rows}
use Rattle.ps_frame.specs.declared.value.Value.{Value}
use Rattle.ps_frame.specs.declared.value.Value.TheVariants as val
use Rattle.ps_meaning.proofs.Begins.{append-empty_left, map-below}
use Rattle.ps_meaning.proofs.OneInput.{places-all}
use Rattle.ps_meaning.proofs.Under.{causes-nonempty, nonempty}

-- an operand: whether it has one cell for all rows, its column, and the cell that it gives to a row
pub record Operand : Type 0 where
  pub lone : Bool
  pub column : Column
  pub cell : List Value → Cell

-- a whole column of one cell
abbrev pub lone_column : Cell → Column
lone_column c = record { cells = c ∷ []; broken = []; lost = [] }

-- the extent of a whole column of one cell
abbrev one : Extent
one = record { ended = false; len = 1 }

-- the lengths that pass a test
pub lengths-same : (test : Extent → Bool) (n : ℕ) (es : List Extent) → AllByRecursion (λ (e : Extent). test e ≡ true → e.len ≡ n) es → AllByRecursion (λ m. m ≡ n) (lengths_where test es)
lengths-same test n [] all = tt
lengths-same test n (e ∷ es) all = by (lengths-same test n es all.1) (test e) refl
  where
    by : AllByRecursion (λ m. m ≡ n) (lengths_where test es) → (b : Bool) → test e ≡ b → AllByRecursion (λ m. m ≡ n) (map (λ (e : Extent). e.len) (cond b (e ∷ filter test es) (filter test es)))
    by more true q = (all.0 q, more)
    by more false q = more

fold-least : (n : ℕ) (ns : List ℕ) → AllByRecursion (λ m. m ≡ n) ns → fold min n ns ≡ n
fold-least n [] all = refl
fold-least n (m ∷ ms) all = let e : min n m ≡ n = (let q = all.0 in omega arith) in ap (λ k. fold min k ms) e ∙ fold-least n ms all.1

pub least-same : (n : ℕ) (ns : List ℕ) → AllByRecursion (λ m. m ≡ n) ns → (ns ≡ [] → n ≡ 1) → least_or 1 ns ≡ n
least-same n [] all h = sym (h refl)
least-same n (m ∷ ms) all h = ap (λ k. fold min k ms) all.0 ∙ fold-least n ms all.1

equal : (m n : ℕ) → m ≡ n → (m == n) ≡ true
equal m n q = grind arith

not-less : (m n : ℕ) → m ≡ n → nat_lt m n ≡ false
not-less m n q = grind arith

same-all : (n : ℕ) (ns : List ℕ) → AllByRecursion (λ m. m ≡ n) ns → list_all (λ m. m == n) ns ≡ true
same-all n [] all = refl
same-all n (m ∷ ms) all = ap (λ b. b && list_all (λ m. m == n) ms) (equal m n all.0) ∙ same-all n ms all.1

all-same : (n : ℕ) (ns : List ℕ) → AllByRecursion (λ m. m ≡ n) ns → all_same ns ≡ true
all-same n [] all = refl
all-same n (m ∷ ms) all = ap (λ k. list_all (λ j. j == k) ms) all.0 ∙ same-all n ms all.1

none-less : (n : ℕ) (ns : List ℕ) → AllByRecursion (λ m. m ≡ n) ns → list_any (λ m. nat_lt m n) ns ≡ false
none-less n [] all = refl
none-less n (m ∷ ms) all = ap (λ b. b || list_any (λ m. nat_lt m n) ms) (not-less m n all.0) ∙ none-less n ms all.1

and-false : (a b : Bool) → b ≡ false → (a && b) ≡ false
and-false true b e = e
and-false false b e = refl

none-outgrows : (n : ℕ) (ns ms : List ℕ) → AllByRecursion (λ m. m ≡ n) ns → AllByRecursion (λ m. m ≡ n) ms → list_any (outgrows ns) ms ≡ false
none-outgrows n ns [] all each = refl
none-outgrows n ns (m ∷ ms) all each =
    ap (λ b. b || list_any (outgrows ns) ms) (ap (outgrows ns) each.0 ∙ and-false (nat_le 2 n) (list_any (λ m. nat_lt m n) ns) (none-less n ns all)) ∙ none-outgrows n ns ms all each.1

-- what doesn't broadcast
abbrev steady : Extent → Bool
steady e = not (broadcasts false e)

one-long : (e : Extent) → broadcasts false e ≡ true → e.len ≡ 1
one-long e h = eqb-true e.len 1 (by e.ended (e.len == 1) h)
  where
    by : (a b : Bool) → (not a && b) ≡ true → b ≡ true
    by true b h = cc
    by false b h = h

not-true : (b : Bool) → not b ≡ false → b ≡ true
not-true true h = refl
not-true false h = cc

module _ (rows : List (List Value)) (ended : Bool) where
  -- one cell for all rows, or a cell for each, ended as the rows are; where there are rows, nothing is lost
  abbrev pub Stands : Bool → Column → (List Value → Cell) → Type 0
  Stands true c g = (c ≡ lone_column (g [])) × ((row : List Value) → g row ≡ g [])
  Stands false c g = (c.cells ≡ map g rows) × (is_ended c ≡ ended) × ((rows ≡ [] → ⊥) → c.lost ≡ [])

  abbrev pub AllStand : List Operand → Type 0
  AllStand os = AllByRecursion (λ (o : Operand). Stands o.lone o.column o.cell) os

  abbrev pub columns : List Operand → List Column
  columns os = map (λ (o : Operand). o.column) os

  abbrev pub all_lone : List Operand → Bool
  all_lone os = list_all (λ (o : Operand). o.lone) os

  -- the cells that the operands give to a row
  abbrev pub cells_for : List Operand → List Value → List Cell
  cells_for os row = map (λ (o : Operand). o.cell row) os

  fits : (test : Extent → Bool) → test one ≡ false → (b : Bool) (c : Column) (g : List Value → Cell) → Stands b c g → test (extent_of c) ≡ true → length c.cells ≡ length rows
  fits test none true c g s h = let e = ap (λ (c : Column). test (extent_of c)) s.0 in cc
  fits test none false c g s h = ap length s.0 ∙ length-map rows g

  all-fit : (test : Extent → Bool) → test one ≡ false → (os : List Operand) → AllStand os → AllByRecursion (λ (e : Extent). test e ≡ true → e.len ≡ length rows) (extents (columns os))
  all-fit test none [] all = tt
  all-fit test none (o ∷ os) all = (fits test none o.lone o.column o.cell all.0, all-fit test none os all.1)

  lengths-fit : (test : Extent → Bool) → test one ≡ false → (os : List Operand) → AllStand os → AllByRecursion (λ m. m ≡ length rows) (lengths_where test (extents (columns os)))
  lengths-fit test none os all = lengths-same test (length rows) (extents (columns os)) (all-fit test none os all)

  -- the lengths agree
  pub agrees : (os : List Operand) → AllStand os → breaks_shape false (extents (columns os)) ≡ false
  agrees os all =
      let open_fit = lengths-fit (λ e. not e.ended && not (e.len == 1)) refl os all in
      let ended_fit = lengths-fit (λ e. e.ended) refl os all in
      ap (λ b. not b || list_any (outgrows (open_lengths (extents (columns os)))) (ended_lengths (extents (columns os)))) (all-same (length rows) (open_lengths (extents (columns os))) open_fit)
      ∙ none-outgrows (length rows) (open_lengths (extents (columns os))) (ended_lengths (extents (columns os))) open_fit ended_fit

  -- where all that isn't lone broadcasts, there is one row
  one-row : (b : Bool) (c : Column) (g : List Value → Cell) → Stands b c g → broadcasts false (extent_of c) ≡ true → b ≡ false → length rows ≡ 1
  one-row true c g s h lone = cc
  one-row false c g s h lone = sym (length-map rows g) ∙ ap length (sym s.0) ∙ one-long (extent_of c) h

  all-broadcast : (os : List Operand) → AllStand os → all_lone os ≡ false → lengths_where steady (extents (columns os)) ≡ [] → length rows ≡ 1
  all-broadcast [] all some e = cc
  all-broadcast (o ∷ os) all some e = by (all-broadcast os all.1) (broadcasts false (extent_of o.column)) refl e
    where
      rest : (all_lone os ≡ false → length rows ≡ 1) → (b : Bool) → o.lone ≡ b → broadcasts false (extent_of o.column) ≡ true → length rows ≡ 1
      rest later true q h = later (ap (λ b. b && all_lone os) (sym q) ∙ some)
      rest later false q h = one-row o.lone o.column o.cell all.0 h q

      by : (all_lone os ≡ false → lengths_where steady (extents (columns os)) ≡ [] → length rows ≡ 1) → (t : Bool) → broadcasts false (extent_of o.column) ≡ t
          → map (λ (e : Extent). e.len) (cond (not t) (extent_of o.column ∷ filter steady (extents (columns os))) (filter steady (extents (columns os)))) ≡ [] → length rows ≡ 1
      by later true h e = rest (λ some. later some e) o.lone refl h
      by later false h e = cc

  pub spread-length : (os : List Operand) → AllStand os → all_lone os ≡ false → zip_length false (extents (columns os)) ≡ length rows
  spread-length os all some = least-same (length rows) (lengths_where steady (extents (columns os))) (lengths-fit steady refl os all) (all-broadcast os all some)

  -- the cells of a row side by side
  here : (i : ℕ) (c : Column) (b : Bool) → broadcasts false (extent_of c) ≡ b → length c.cells ≡ length rows → i < length rows → (if b then 0 else i) ≡ i
  here i c true q len lt = let one = one-long (extent_of c) q in omega arith
  here i c false q len lt = refl

  cell-is : (i : ℕ) (b : Bool) (c : Column) (g : List Value → Cell) → Stands b c g → i < length rows → cell_in_row false i c ≡ g (get_or rows i [])
  cell-is i true c g s lt = ap (cell_in_row false i) s.0 ∙ sym (s.1 (get_or rows i []))
  cell-is i false c g s lt =
      let len : length c.cells ≡ length rows = ap length s.0 ∙ length-map rows g in
      ap (λ k. get_or c.cells k (value val.Null)) (here i c (broadcasts false (extent_of c)) refl len lt)
      ∙ ap (λ cs. get_or cs i (value val.Null)) s.0
      ∙ get_or-map g rows i [] (value val.Null) lt

  row-is : (i : ℕ) (os : List Operand) → AllStand os → i < length rows → map (cell_in_row false i) (columns os) ≡ cells_for os (get_or rows i [])
  row-is i [] all lt = refl
  row-is i (o ∷ os) all lt =
      ap (λ x. x ∷ map (cell_in_row false i) (columns os)) (cell-is i o.lone o.column o.cell all.0 lt) ∙ ap (λ xs. o.cell (get_or rows i []) ∷ xs) (row-is i os all.1 lt)

  pub spread-rows : (os : List Operand) → AllStand os → all_lone os ≡ false → zip_rows false (zip_length false (extents (columns os))) (columns os) ≡ map (cells_for os) rows
  spread-rows os all some =
      ap (λ n. zip_rows false n (columns os)) (spread-length os all some)
      ∙ map-below (length rows) (λ i. map (cell_in_row false i) (columns os)) (λ i. cells_for os (get_or rows i [])) (λ i lt. row-is i os all lt)
      ∙ sym (map-map (cells_for os) (λ i. get_or rows i []) (below (length rows)))
      ∙ ap (map (cells_for os)) (places-all rows [])

  -- one of them is ended where the rows are
  joins-ended : (b e : Bool) → (e || (not b && e)) ≡ e
  joins-ended b true = refl
  joins-ended true false = refl
  joins-ended false false = refl

  end-is : (b : Bool) (c : Column) (g : List Value → Cell) → Stands b c g → is_ended c ≡ (not b && ended)
  end-is true c g s = ap is_ended s.0
  end-is false c g s = s.1

  either-ended : (a b e : Bool) → ((not a && e) || (not b && e)) ≡ (not (a && b) && e)
  either-ended true b e = refl
  either-ended false b e = joins-ended b e

  any-ended : (os : List Operand) → AllStand os → list_any is_ended (columns os) ≡ (not (all_lone os) && ended)
  any-ended [] all = refl
  any-ended (o ∷ os) all =
      ap (λ b. b || list_any is_ended (columns os)) (end-is o.lone o.column o.cell all.0)
      ∙ ap (λ b. (not o.lone && ended) || b) (any-ended os all.1)
      ∙ either-ended o.lone (all_lone os) ended

  or-none : (a b : Bool) → b ≡ false → (a || b) ≡ a
  or-none true b e = refl
  or-none false b e = e

  pub ends-is : (os : List Operand) → AllStand os → all_lone os ≡ false → ends_early false (columns os) ≡ ended
  ends-is os all some =
      or-none (list_any is_ended (columns os)) (breaks_shape false (extents (columns os))) (agrees os all)
      ∙ any-ended os all ∙ ap (λ b. not b && ended) some

  broken-is : (node : ℕ) (os : List Operand) → AllStand os → all_lone os ≡ false → not (is_empty (aligned false node (columns os)).broken) ≡ ended
  broken-is node os all some = by ended refl
    where
      ends : ends_early false (columns os) ≡ ended
      ends = ends-is os all some

      any : list_any is_ended (columns os) ≡ ended
      any = any-ended os all ∙ ap (λ b. not b && ended) some

      by : (b : Bool) → ended ≡ b → not (is_empty (cond (ends_early false (columns os)) (zip_causes false node (columns os)) [])) ≡ ended
      by true q =
          ap (λ b. not (is_empty (cond b (zip_causes false node (columns os)) []))) (ends ∙ q)
          ∙ nonempty (zip_causes false node (columns os)) (λ e. causes-nonempty (columns os) (any ∙ q) (append-empty_left (flat_map column_causes (columns os)) _ e)) ∙ sym q
      by false q = ap (λ b. not (is_empty (cond b (zip_causes false node (columns os)) []))) (ends ∙ q) ∙ sym q

  -- where there are rows, nothing is lost
  lost-is : (b : Bool) (c : Column) (g : List Value → Cell) → Stands b c g → (rows ≡ [] → ⊥) → c.lost ≡ []
  lost-is true c g s some = ap (λ (c : Column). c.lost) s.0
  lost-is false c g s some = s.2 some

  pub none-lost : (os : List Operand) → AllStand os → (rows ≡ [] → ⊥) → flat_map (λ (c : Column). c.lost) (columns os) ≡ []
  none-lost [] all some = refl
  none-lost (o ∷ os) all some = ap (λ cs. cs ++ flat_map (λ (c : Column). c.lost) (columns os)) (lost-is o.lone o.column o.cell all.0 some) ∙ none-lost os all.1 some

  pub none-unseen : (n : ℕ) (rs : List (List Value)) (cs : List Column) → n ≡ length rs → (rs ≡ [] → ⊥) → unseen_causes false n cs ≡ []
  none-unseen n [] cs e some = absurd (some refl)
  none-unseen zero (r ∷ rs) cs e some = absurd (omega (arith, e))
  none-unseen (suc n) (r ∷ rs) cs e some = refl

  -- cell by cell over operands of which one isn't lone
  spread-cellwise : (node : ℕ) (f : List Value → Cell) (os : List Operand) → AllStand os → all_lone os ≡ false → Stands false (cellwise node f (columns os)) (λ row. cell_of_row f (cells_for os row))
  spread-cellwise node f os all some = (
    ap (map (cell_of_row f)) (spread-rows os all some) ∙ map-map (cell_of_row f) (cells_for os) rows,
    broken-is node os all some,
    λ h. ap (λ cs. cs ++ unseen_causes false (zip_length false (extents (columns os))) (columns os)) (none-lost os all h) ∙ none-unseen (zip_length false (extents (columns os))) rows (columns os) (spread-length os all some) h,
  )

  -- the columns of lone operands
  abbrev lone_columns : List Operand → List Column
  lone_columns os = map (λ (o : Operand). lone_column (o.cell [])) os

  and-parts : (a b : Bool) → (a && b) ≡ true → (a ≡ true) × (b ≡ true)
  and-parts true b h = (refl, h)
  and-parts false b h = cc

  pub lone-is : (b : Bool) (c : Column) (g : List Value → Cell) → Stands b c g → b ≡ true → (c ≡ lone_column (g [])) × ((row : List Value) → g row ≡ g [])
  lone-is true c g s q = s
  lone-is false c g s q = cc

  all-lone : (os : List Operand) → AllStand os → all_lone os ≡ true → columns os ≡ lone_columns os
  all-lone [] all h = refl
  all-lone (o ∷ os) all h =
      let p = and-parts o.lone (all_lone os) h in
      ap (λ c. c ∷ columns os) (lone-is o.lone o.column o.cell all.0 p.0).0 ∙ ap (λ cs. lone_column (o.cell []) ∷ cs) (all-lone os all.1 p.1)

  lone-cells : (os : List Operand) → AllStand os → all_lone os ≡ true → (row : List Value) → cells_for os row ≡ cells_for os []
  lone-cells [] all h row = refl
  lone-cells (o ∷ os) all h row =
      let p = and-parts o.lone (all_lone os) h in
      ap (λ c. c ∷ cells_for os row) ((lone-is o.lone o.column o.cell all.0 p.0).1 row) ∙ ap (λ cs. o.cell [] ∷ cs) (lone-cells os all.1 p.1 row)

  lone-steady : (test : Extent → Bool) → test one ≡ false → (os : List Operand) → lengths_where test (extents (lone_columns os)) ≡ []
  lone-steady test none [] = refl
  lone-steady test none (o ∷ os) =
      ap (λ b. map (λ (e : Extent). e.len) (cond b (one ∷ filter test (extents (lone_columns os))) (filter test (extents (lone_columns os))))) none ∙ lone-steady test none os

  lone-ended : (os : List Operand) → list_any is_ended (lone_columns os) ≡ false
  lone-ended [] = refl
  lone-ended (o ∷ os) = lone-ended os

  lone-lost : (os : List Operand) → flat_map (λ (c : Column). c.lost) (lone_columns os) ≡ []
  lone-lost [] = refl
  lone-lost (o ∷ os) = lone-lost os

  lone-row : (os : List Operand) → map (cell_in_row false 0) (lone_columns os) ≡ cells_for os []
  lone-row [] = refl
  lone-row (o ∷ os) = ap (λ cs. o.cell [] ∷ cs) (lone-row os)

  lone-cellwise : (node : ℕ) (f : List Value → Cell) (os : List Operand) → cellwise node f (lone_columns os) ≡ lone_column (cell_of_row f (cells_for os []))
  lone-cellwise node f os = λ i. record { cells = cells i; broken = broken i; lost = lost i }
    where
      n : zip_length false (extents (lone_columns os)) ≡ 1
      n = ap (least_or 1) (lone-steady steady refl os)

      cells : map (cell_of_row f) (zip_rows false (zip_length false (extents (lone_columns os))) (lone_columns os)) ≡ cell_of_row f (cells_for os []) ∷ []
      cells = ap (λ n. map (cell_of_row f) (zip_rows false n (lone_columns os))) n ∙ ap (λ row. cell_of_row f row ∷ []) (lone-row os)

      shape : breaks_shape false (extents (lone_columns os)) ≡ false
      shape =
          ap (λ ns. not (all_same ns) || list_any (outgrows ns) (ended_lengths (extents (lone_columns os)))) (lone-steady (λ e. not e.ended && not (e.len == 1)) refl os)
          ∙ ap (λ ns. list_any (outgrows []) ns) (lone-steady (λ e. e.ended) refl os)

      ends : ends_early false (lone_columns os) ≡ false
      ends = or-none (list_any is_ended (lone_columns os)) (breaks_shape false (extents (lone_columns os))) shape ∙ lone-ended os

      broken : (cellwise node f (lone_columns os)).broken ≡ []
      broken = ap (λ b. cond b (zip_causes false node (lone_columns os)) []) ends

      lost : (cellwise node f (lone_columns os)).lost ≡ []
      lost = ap (λ cs. cs ++ unseen_causes false (zip_length false (extents (lone_columns os))) (lone_columns os)) (lone-lost os) ∙ ap (λ n. unseen_causes false n (lone_columns os)) n

  -- cell by cell over operands that stand for functions of a row
  pub stands-cellwise : (node : ℕ) (f : List Value → Cell) (os : List Operand) → AllStand os → Stands (all_lone os) (cellwise node f (columns os)) (λ row. cell_of_row f (cells_for os row))
  stands-cellwise node f os all = by (all_lone os) refl
    where
      by : (b : Bool) → all_lone os ≡ b → Stands b (cellwise node f (columns os)) (λ row. cell_of_row f (cells_for os row))
      by true q = (ap (cellwise node f) (all-lone os all q) ∙ lone-cellwise node f os, λ row. ap (cell_of_row f) (lone-cells os all q row))
      by false q = spread-cellwise node f os all q
