-- Columns that go row by row, over rows that stand in front of others.
use Rattle.std.proofs.Common.{◌≡◌, ℕ, List, [], ◌∷◌, ◌++◌, length, refl, sym, ap, subst, ◌∙◌}
use Rattle.std.specs.Prelude.{Bool, true, false, not, ◌&&◌, cond, filter, flat_map, map}
use Rattle.std.specs.List.{AllByRecursion, list_all}
use Rattle.ps_frame.specs.Causes.{Cause, Cell, Column, cell_causes, cell_values, column_causes, faulty_or, is_empty}
use Rattle.ps_frame.specs.Eval.{cell_of_row, cellwise}
use Rattle.ps_frame.specs.Zip.{aligned, broadcasts, ends_early, extent_of, extents, row_causes, unseen_causes, zip_causes, zip_length}
use Rattle.ps_frame.specs.declared.value.DataFault.TheVariants as fault
use Rattle.ps_frame.specs.declared.value.Value.{Value}
use Rattle.ps_meaning.proofs.Begins.{append-empty_left, append-empty_right}
use Rattle.ps_rowwise.proofs.Standing.{AllStand, Operand, Stands, agrees, ends-is, lone_column, lone-is, none-unseen, spread-length, stands-cellwise}

-- what goes row by row: whether it has one cell for all rows, the cell that it gives to a row, and its column over rows that these causes end
pub record Goer : Type 0 where
  pub lone : Bool
  pub cell : List Value → Cell
  pub over : List (List Value) → List Cause → Column

-- it has no cause over a row
abbrev pub IsClean : (List Value → Cell) → List Value → Type 0
IsClean cell r = cell_causes (cell r) ≡ []

pub record Goes (g : Goer) : Type 0 where
  pub stands : (rows : List (List Value)) (causes : List Cause) → Stands rows (not (is_empty causes)) g.lone (g.over rows causes) g.cell
  -- rows in front over which it has no cause leave what ended its column
  pub keeps : (a rows : List (List Value)) (causes : List Cause) → AllByRecursion (IsClean g.cell) a → (g.over (a ++ rows) causes).broken ≡ (g.over rows causes).broken
  -- where it has no cause over some row, it loses none
  pub loses : (r : List Value) → IsClean g.cell r → (rows : List (List Value)) (causes : List Cause) → (g.over rows causes).lost ≡ []

abbrev pub AllGo : List Goer → Type 0
AllGo gs = AllByRecursion Goes gs

-- as operands over rows, their columns, and the cells that they give to a row
abbrev pub operand_of : List (List Value) → List Cause → Goer → Operand
operand_of rows causes g = record { lone = g.lone; column = g.over rows causes; cell = g.cell }

abbrev pub operands : List (List Value) → List Cause → List Goer → List Operand
operands rows causes gs = map (operand_of rows causes) gs

abbrev pub columns : List (List Value) → List Cause → List Goer → List Column
columns rows causes gs = map (λ (o : Operand). o.column) (operands rows causes gs)

abbrev pub cells_of : List Goer → List Value → List Cell
cells_of gs r = map (λ (g : Goer). g.cell r) gs

abbrev pub all_lone : List Goer → Bool
all_lone gs = list_all (λ (g : Goer). g.lone) gs

-- no cell of a row has a cause
abbrev pub AreClean : List Goer → List Value → Type 0
AreClean gs r = row_causes (cells_of gs r) ≡ []

pub all-stand : (rows : List (List Value)) (causes : List Cause) (gs : List Goer) → AllGo gs → AllStand rows (not (is_empty causes)) (operands rows causes gs)
all-stand rows causes [] all = tt
all-stand rows causes (g ∷ gs) all = (all.0.stands rows causes, all-stand rows causes gs all.1)

pub same-lone : (rows : List (List Value)) (causes : List Cause) (gs : List Goer) → list_all (λ (o : Operand). o.lone) (operands rows causes gs) ≡ all_lone gs
same-lone rows causes [] = refl
same-lone rows causes (g ∷ gs) = ap (λ b. g.lone && b) (same-lone rows causes gs)

pub same-cells : (rows : List (List Value)) (causes : List Cause) (gs : List Goer) (r : List Value) → map (λ (o : Operand). o.cell r) (operands rows causes gs) ≡ cells_of gs r
same-cells rows causes [] r = refl
same-cells rows causes (g ∷ gs) r = ap (λ cs. g.cell r ∷ cs) (same-cells rows causes gs r)

-- what is clean row by row
pub first-clean : (g : Goer) (gs : List Goer) (a : List (List Value)) → AllByRecursion (AreClean (g ∷ gs)) a → AllByRecursion (IsClean g.cell) a
first-clean g gs [] h = tt
first-clean g gs (r ∷ a) h = (append-empty_left (cell_causes (g.cell r)) (row_causes (cells_of gs r)) h.0, first-clean g gs a h.1)

pub rest-clean : (g : Goer) (gs : List Goer) (a : List (List Value)) → AllByRecursion (AreClean (g ∷ gs)) a → AllByRecursion (AreClean gs) a
rest-clean g gs [] h = tt
rest-clean g gs (r ∷ a) h = (append-empty_right (cell_causes (g.cell r)) (row_causes (cells_of gs r)) h.0, rest-clean g gs a h.1)

-- the causes of a column are those over the rest
cells-causes : (cell : List Value → Cell) (a rows : List (List Value)) → AllByRecursion (IsClean cell) a → flat_map cell_causes (map cell (a ++ rows)) ≡ flat_map cell_causes (map cell rows)
cells-causes cell [] rows h = refl
cells-causes cell (r ∷ a) rows h = ap (λ cs. cs ++ flat_map cell_causes (map cell (a ++ rows))) h.0 ∙ cells-causes cell a rows h.1

column-causes : (b e : Bool) (cell : List Value → Cell) (c d : Column) (a rows : List (List Value)) → AllByRecursion (IsClean cell) a → Stands (a ++ rows) e b c cell → Stands rows e b d cell → c.broken ≡ d.broken → column_causes c ≡ column_causes d
column-causes true e cell c d a rows h s t k = ap column_causes (s.0 ∙ sym t.0)
column-causes false e cell c d a rows h s t k = (λ i. flat_map cell_causes (s.0 i) ++ k i) ∙ (λ i. cells-causes cell a rows h i ++ d.broken) ∙ (λ i. flat_map cell_causes (sym t.0 i) ++ d.broken)

pub causes-kept : (a rows : List (List Value)) (causes : List Cause) (gs : List Goer) → AllGo gs → AllByRecursion (AreClean gs) a → flat_map column_causes (columns (a ++ rows) causes gs) ≡ flat_map column_causes (columns rows causes gs)
causes-kept a rows causes [] all h = refl
causes-kept a rows causes (g ∷ gs) all h =
    let c = first-clean g gs a h in
    λ i. column-causes g.lone (not (is_empty causes)) g.cell (g.over (a ++ rows) causes) (g.over rows causes) a rows c (all.0.stands (a ++ rows) causes) (all.0.stands rows causes) (all.0.keeps a rows causes c) i
    ++ causes-kept a rows causes gs all.1 (rest-clean g gs a h) i

module _ (node : ℕ) where
  abbrev misfit : List Cause
  misfit = record { fault = fault.Shape; node = node } ∷ []

  -- the lengths agree, so that the zip has no causes but theirs
  pub zip-kept : (a rows : List (List Value)) (causes : List Cause) (gs : List Goer) → AllGo gs → AllByRecursion (AreClean gs) a → zip_causes false node (columns (a ++ rows) causes gs) ≡ zip_causes false node (columns rows causes gs)
  zip-kept a rows causes gs all h =
      let e = not (is_empty causes) in
      let c = agrees (a ++ rows) e (operands (a ++ rows) causes gs) (all-stand (a ++ rows) causes gs all) in
      let d = agrees rows e (operands rows causes gs) (all-stand rows causes gs all) in
      ap (λ b. flat_map column_causes (columns (a ++ rows) causes gs) ++ cond b misfit []) c
      ∙ ap (λ cs. cs ++ []) (causes-kept a rows causes gs all h)
      ∙ ap (λ b. flat_map column_causes (columns rows causes gs) ++ cond b misfit []) (sym d)

  pub ends-kept : (rows : List (List Value)) (causes : List Cause) (gs : List Goer) → AllGo gs → all_lone gs ≡ false → ends_early false (columns rows causes gs) ≡ not (is_empty causes)
  ends-kept rows causes gs all some = ends-is rows (not (is_empty causes)) (operands rows causes gs) (all-stand rows causes gs all) (same-lone rows causes gs ∙ some)

  -- what is lost where there are no rows
  none-here : (b : Bool) (cell : List Value → Cell) (e : Bool) (c : Column) (r : List Value) → IsClean cell r → Stands [] e b c cell → flat_map cell_causes c.cells ≡ []
  none-here true cell e c r h s = (λ i. flat_map cell_causes (s.0 i).cells) ∙ ap (λ x. cell_causes x ++ []) (sym (s.1 r)) ∙ ap (λ cs. cs ++ []) h
  none-here false cell e c r h s = ap (λ cs. flat_map cell_causes cs) s.0

  none-broadcast : (causes : List Cause) (gs : List Goer) → AllGo gs → (r : List Value) → AreClean gs r → unseen_causes false 0 (columns [] causes gs) ≡ []
  none-broadcast causes [] all r h = refl
  none-broadcast causes (g ∷ gs) all r h = by (broadcasts false (extent_of (g.over [] causes))) (none-broadcast causes gs all.1 r (append-empty_right (cell_causes (g.cell r)) (row_causes (cells_of gs r)) h))
    where
      here : flat_map cell_causes (g.over [] causes).cells ≡ []
      here = none-here g.lone g.cell (not (is_empty causes)) (g.over [] causes) r (append-empty_left (cell_causes (g.cell r)) (row_causes (cells_of gs r)) h) (all.0.stands [] causes)

      rest : List Column
      rest = filter (λ c. broadcasts false (extent_of c)) (columns [] causes gs)

      by : (b : Bool) → flat_map (λ (c : Column). flat_map cell_causes c.cells) rest ≡ [] → flat_map (λ (c : Column). flat_map cell_causes c.cells) (cond b (g.over [] causes ∷ rest) rest) ≡ []
      by true q = ap (λ cs. cs ++ flat_map (λ (c : Column). flat_map cell_causes c.cells) rest) here ∙ q
      by false q = q

  none-lost : (rows : List (List Value)) (causes : List Cause) (gs : List Goer) → AllGo gs → (r : List Value) → AreClean gs r → flat_map (λ (c : Column). c.lost) (columns rows causes gs) ≡ []
  none-lost rows causes [] all r h = refl
  none-lost rows causes (g ∷ gs) all r h =
      ap (λ cs. cs ++ flat_map (λ (c : Column). c.lost) (columns rows causes gs)) (all.0.loses r (append-empty_left (cell_causes (g.cell r)) (row_causes (cells_of gs r)) h) rows causes)
      ∙ none-lost rows causes gs all.1 r (append-empty_right (cell_causes (g.cell r)) (row_causes (cells_of gs r)) h)

  -- side by side they lose nothing, where no cell of some row has a cause
  pub zip-loses : (rows : List (List Value)) (causes : List Cause) (gs : List Goer) → AllGo gs → all_lone gs ≡ false → (r : List Value) → AreClean gs r → (aligned false node (columns rows causes gs)).lost ≡ []
  zip-loses rows causes gs all some r h = ap (λ cs. cs ++ unseen_causes false (zip_length false (extents (columns rows causes gs))) (columns rows causes gs)) (none-lost rows causes gs all r h) ∙ by rows
    where
      long : (rows : List (List Value)) → zip_length false (extents (columns rows causes gs)) ≡ length rows
      long rows = spread-length rows (not (is_empty causes)) (operands rows causes gs) (all-stand rows causes gs all) (same-lone rows causes gs ∙ some)

      by : (rows : List (List Value)) → unseen_causes false (zip_length false (extents (columns rows causes gs))) (columns rows causes gs) ≡ []
      by [] = ap (λ n. unseen_causes false n (columns [] causes gs)) (long []) ∙ none-broadcast causes gs all r h
      by (x ∷ xs) = none-unseen (x ∷ xs) (not (is_empty causes)) (zip_length false (extents (columns (x ∷ xs) causes gs))) (x ∷ xs) (columns (x ∷ xs) causes gs) (long (x ∷ xs)) (λ e. cc)

  -- an elementwise operator over these
  abbrev pub combined : (List Value → Cell) → List Goer → Goer
  combined f gs = record { lone = all_lone gs; cell = λ r. cell_of_row f (cells_of gs r); over = λ rows causes. cellwise node f (columns rows causes gs) }

  clean-or : (xs : List Cause) (c : Cell) → cell_causes (faulty_or xs c) ≡ [] → xs ≡ []
  clean-or [] c h = refl
  clean-or (x ∷ xs) c h = cc

  clean-operands : (f : List Value → Cell) (gs : List Goer) (a : List (List Value)) → AllByRecursion (IsClean (combined f gs).cell) a → AllByRecursion (AreClean gs) a
  clean-operands f gs [] h = tt
  clean-operands f gs (r ∷ a) h = (clean-or (row_causes (cells_of gs r)) (f (cell_values (cells_of gs r))) h.0, clean-operands f gs a h.1)

  pub combined-goes : (f : List Value → Cell) (gs : List Goer) → AllGo gs → Goes (combined f gs)
  combined-goes f gs all = record { stands = standing; keeps = kept; loses = lost }
    where
      raw : (rows : List (List Value)) (causes : List Cause) → Stands rows (not (is_empty causes)) (list_all (λ (o : Operand). o.lone) (operands rows causes gs)) (cellwise node f (columns rows causes gs)) (λ r. cell_of_row f (map (λ (o : Operand). o.cell r) (operands rows causes gs)))
      raw rows causes = stands-cellwise rows (not (is_empty causes)) node f (operands rows causes gs) (all-stand rows causes gs all)

      standing : (rows : List (List Value)) (causes : List Cause) → Stands rows (not (is_empty causes)) (all_lone gs) (cellwise node f (columns rows causes gs)) (λ r. cell_of_row f (cells_of gs r))
      standing rows causes =
          subst (λ (c : List Value → Cell). Stands rows (not (is_empty causes)) (all_lone gs) (cellwise node f (columns rows causes gs)) c) (λ i r. cell_of_row f (same-cells rows causes gs r i))
          (subst (λ b. Stands rows (not (is_empty causes)) b (cellwise node f (columns rows causes gs)) (λ r. cell_of_row f (map (λ (o : Operand). o.cell r) (operands rows causes gs)))) (same-lone rows causes gs) (raw rows causes))

      alone : (rows : List (List Value)) (causes : List Cause) → all_lone gs ≡ true → cellwise node f (columns rows causes gs) ≡ lone_column (cell_of_row f (cells_of gs []))
      alone rows causes q = (lone-is rows (not (is_empty causes)) (all_lone gs) (cellwise node f (columns rows causes gs)) (λ r. cell_of_row f (cells_of gs r)) (standing rows causes) q).0

      kept : (a rows : List (List Value)) (causes : List Cause) → AllByRecursion (IsClean (combined f gs).cell) a → (cellwise node f (columns (a ++ rows) causes gs)).broken ≡ (cellwise node f (columns rows causes gs)).broken
      kept a rows causes h = by (all_lone gs) refl
        where
          by : (b : Bool) → all_lone gs ≡ b → (cellwise node f (columns (a ++ rows) causes gs)).broken ≡ (cellwise node f (columns rows causes gs)).broken
          by true q = ap (λ (c : Column). c.broken) (alone (a ++ rows) causes q ∙ sym (alone rows causes q))
          by false q = λ i. cond ((ends-kept (a ++ rows) causes gs all q ∙ sym (ends-kept rows causes gs all q)) i) (zip-kept a rows causes gs all (clean-operands f gs a h) i) []

      lost : (r : List Value) → IsClean (combined f gs).cell r → (rows : List (List Value)) (causes : List Cause) → (cellwise node f (columns rows causes gs)).lost ≡ []
      lost r h rows causes = by (all_lone gs) refl
        where
          by : (b : Bool) → all_lone gs ≡ b → (cellwise node f (columns rows causes gs)).lost ≡ []
          by true q = ap (λ (c : Column). c.lost) (alone rows causes q)
          by false q = zip-loses rows causes gs all q r (clean-or (row_causes (cells_of gs r)) (f (cell_values (cells_of gs r))) h)
