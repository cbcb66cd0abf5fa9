-- The zip of columns that go row by row, over rows in front of others.
use Rattle.std.proofs.Common.{◌≡◌, ℕ, List, [], ◌∷◌, ◌++◌, refl, sym, ap, ◌∙◌}
use Rattle.std.proofs.lemmas.List.Sums.{take_while-cons}
use Rattle.std.specs.Prelude.{false, not, ◌||◌, cond, map, take_while}
use Rattle.std.specs.List.{AllByRecursion, list_any}
use Rattle.ps_frame.specs.Causes.{Cause, Cell, cell_values, is_empty}
use Rattle.ps_frame.specs.Zip.{Zipped, aligned, is_faulty_row, row_causes, rows_before_fault, zip_causes, zipped}
use Rattle.ps_frame.specs.declared.value.Value.{Value}
use Rattle.ps_rowwise.proofs.OneCell.{or-parts, zip-clean}
use Rattle.ps_rowwise.proofs.Standing.{Operand, spread-rows}
use Rattle.passing_laws.proofs.Goers.{AllGo, AreClean, Goer, all-stand, all_lone, cells_of, columns, ends-kept, operands, same-cells, same-lone, zip-kept, zip-loses}

-- rows without a faulty cell come first
pub while-clean : (r : List Cell) (rest : List (List Cell)) → row_causes r ≡ [] → rows_before_fault (r ∷ rest) ≡ cell_values r ∷ rows_before_fault rest
while-clean r rest h =
    ap (map cell_values) (take_while-cons (λ (row : List Cell). not (is_faulty_row row)) r rest ∙ ap (λ cs. cond (not (not (is_empty cs))) (r ∷ take_while (λ (row : List Cell). not (is_faulty_row row)) rest) []) h)

pub any-clean : (r : List Cell) (rest : List (List Cell)) → row_causes r ≡ [] → list_any is_faulty_row (r ∷ rest) ≡ list_any is_faulty_row rest
any-clean r rest h = ap (λ cs. not (is_empty cs) || list_any is_faulty_row rest) h

no-causes : (r : List Cell) → is_faulty_row r ≡ false → row_causes r ≡ []
no-causes r h = by (row_causes r) h
  where
    by : (cs : List Cause) → not (is_empty cs) ≡ false → cs ≡ []
    by [] h = refl
    by (c ∷ cs) h = cc

module _ (node : ℕ) (gs : List Goer) (all : AllGo gs) (some : all_lone gs ≡ false) where
  abbrev pub zip_over : List (List Value) → List Cause → Zipped
  zip_over rows causes = zipped false node (columns rows causes gs)

  abbrev pub cells : List (List Value) → List (List Cell)
  cells rows = map (cells_of gs) rows

  same-rows : (rows xs : List (List Value)) (causes : List Cause) → map (λ r. map (λ (o : Operand). o.cell r) (operands rows causes gs)) xs ≡ cells xs
  same-rows rows [] causes = refl
  same-rows rows (x ∷ xs) causes = λ i. same-cells rows causes gs x i ∷ same-rows rows xs causes i

  pub all-cells : (rows : List (List Value)) (causes : List Cause) → (aligned false node (columns rows causes gs)).rows ≡ cells rows
  all-cells rows causes = spread-rows rows (not (is_empty causes)) (operands rows causes gs) (all-stand rows causes gs all) (same-lone rows causes gs ∙ some) ∙ same-rows rows rows causes

  pub zip-rows : (rows : List (List Value)) (causes : List Cause) → (zip_over rows causes).rows ≡ rows_before_fault (cells rows)
  zip-rows rows causes = ap rows_before_fault (all-cells rows causes)

  pub zip-broken : (rows : List (List Value)) (causes : List Cause) → (zip_over rows causes).broken ≡ cond (not (is_empty causes) || list_any is_faulty_row (cells rows)) (zip_causes false node (columns rows causes gs)) []
  zip-broken rows causes = λ i. cond (ends-kept node rows causes gs all some i || list_any is_faulty_row (all-cells rows causes i)) (zip_causes false node (columns rows causes gs)) []

  -- over no rows nothing breaks it
  pub zip-none : ((zip_over [] []).rows ≡ []) × ((zip_over [] []).broken ≡ [])
  zip-none = (zip-rows [] [], zip-broken [] [])

  -- a zip that nothing broke has no faulty cell
  each-clean : (a : List (List Value)) → list_any is_faulty_row (cells a) ≡ false → AllByRecursion (AreClean gs) a
  each-clean [] h = tt
  each-clean (r ∷ a) h = let p = or-parts (is_faulty_row (cells_of gs r)) (list_any is_faulty_row (cells a)) h in (no-causes (cells_of gs r) p.0, each-clean a p.1)

  pub whole-clean : (a : List (List Value)) (causes : List Cause) → (zip_over a causes).broken ≡ [] → AllByRecursion (AreClean gs) a
  whole-clean a causes e = each-clean a (ap (list_any is_faulty_row) (sym (all-cells a causes)) ∙ zip-clean node (columns a causes gs) e)

  -- its rows in front
  front-cells : (a rows : List (List Value)) → AllByRecursion (AreClean gs) a → rows_before_fault (cells (a ++ rows)) ≡ rows_before_fault (cells a) ++ rows_before_fault (cells rows)
  front-cells [] rows h = refl
  front-cells (r ∷ a) rows h =
      while-clean (cells_of gs r) (cells (a ++ rows)) h.0
      ∙ ap (λ xs. cell_values (cells_of gs r) ∷ xs) (front-cells a rows h.1)
      ∙ ap (λ xs. xs ++ rows_before_fault (cells rows)) (sym (while-clean (cells_of gs r) (cells a) h.0))

  front-faults : (a rows : List (List Value)) → AllByRecursion (AreClean gs) a → list_any is_faulty_row (cells (a ++ rows)) ≡ list_any is_faulty_row (cells rows)
  front-faults [] rows h = refl
  front-faults (r ∷ a) rows h = any-clean (cells_of gs r) (cells (a ++ rows)) h.0 ∙ front-faults a rows h.1

  pub zip-front : (a rows : List (List Value)) (causes : List Cause) → AllByRecursion (AreClean gs) a → (zip_over (a ++ rows) causes).rows ≡ (zip_over a []).rows ++ (zip_over rows causes).rows
  zip-front a rows causes h = zip-rows (a ++ rows) causes ∙ front-cells a rows h ∙ (λ i. sym (zip-rows a []) i ++ sym (zip-rows rows causes) i)

  pub zip-causes : (a rows : List (List Value)) (causes : List Cause) → AllByRecursion (AreClean gs) a → (zip_over (a ++ rows) causes).broken ≡ (zip_over rows causes).broken
  zip-causes a rows causes h =
      zip-broken (a ++ rows) causes
      ∙ (λ i. cond (not (is_empty causes) || front-faults a rows h i) (zip-kept node a rows causes gs all h i) [])
      ∙ sym (zip-broken rows causes)

  -- where a row has no faulty cell, nothing is lost
  pub none-lost : (r : List Value) (a rows : List (List Value)) (causes : List Cause) → AllByRecursion (AreClean gs) (r ∷ a) → (zip_over rows causes).lost ≡ []
  none-lost r a rows causes h = zip-loses node rows causes gs all some r h.0
