-- Expressions that go by cell, side by side over a table: each row has the cells that they have over the table's row.
use Rattle.std.proofs.Common.{◌≡◌, ◌≢◌, ℕ, Bool, true, false, not, cond, List, [], ◌∷◌, ◌++◌, refl, ap, subst, ◌∙◌}
use Rattle.std.specs.Prelude.{IsTrue, map, ◌&&◌, ◌||◌}
use Rattle.std.specs.List.{AllByRecursion, list_all, list_any}
use Rattle.ps_frame.specs.Causes.{Cause, Cell, Column, is_empty}
use Rattle.ps_frame.specs.Tables.{Table}
use Rattle.ps_frame.specs.Trees.{Tree}
use Rattle.ps_frame.specs.Typing.{is_elementwise, is_independent}
use Rattle.ps_frame.specs.Zip.{below, breaks_shape, ends_early, extents, is_faulty_row, rows_before_fault, zip_causes, zip_length, zip_rows, zipped}
use Rattle.ps_frame.specs.declared.value.Value.{Value}
use Rattle.ps_meaning.specs.Cases.{columns_at}
use Rattle.ps_rowwise.specs.Rows.{HasKind}
use Rattle.ps_rowwise.proofs.ByRow.{cell_for, goes-by, operand}
use Rattle.ps_rowwise.proofs.Standing.{AllStand, Operand, agrees, all_lone, cells_for, columns, ends-is, none-lost, none-unseen, spread-length, spread-rows}
use Rattle.ps_shares.proofs.Aggregated.{map_again}
use Rattle.ps_shares.proofs.ByLeaves.{early_breaks, faulty_breaks}
use Rattle.ps_bundles.proofs.ZipEnds.{some_is}

-- something breaks a zip where one of two tests holds
told : (a b : Bool) (cs : List Cause) → (a ≡ true → cs ≢ []) → (b ≡ true → cs ≢ []) → is_empty (cond {A = List Cause} (a || b) cs []) ≡ (not a && not b)
told true b cs f g = some_is cs (f refl)
told false true cs f g = some_is cs (g refl)
told false false cs f g = refl

module _ (at : ℕ) (P : Table) (es : List Tree) (cells : AllByRecursion (λ (e : Tree). IsTrue (is_elementwise e)) es) (kinds : AllByRecursion (HasKind P.schema) es) (reads : list_all is_independent es ≡ false) where
  abbrev ended : Bool
  ended = not (is_empty P.broken)

  abbrev as_read : Tree → Operand
  as_read e = operand at P.schema P.rows P.broken e

  abbrev os : List Operand
  os = map as_read es

  all_stand : AllStand P.rows ended os
  all_stand = by es cells kinds
    where
      by : (es : List Tree) → AllByRecursion (λ (e : Tree). IsTrue (is_elementwise e)) es → AllByRecursion (HasKind P.schema) es → AllStand P.rows ended (map as_read es)
      by [] cells kinds = tt
      by (e ∷ es) cells kinds = (goes-by at P.schema P.rows P.broken e cells.0 kinds.0, by es cells.1 kinds.1)

  spread : all_lone P.rows ended os ≡ false
  spread = by es ∙ reads
    where
      by : (es : List Tree) → list_all (λ (o : Operand). o.lone) (map as_read es) ≡ list_all is_independent es
      by [] = refl
      by (e ∷ es) = ap (λ (b : Bool). is_independent e && b) (by es)

  -- the columns, and the cells of a row
  abbrev cs : List Column
  cs = columns_at at es P

  columns_are : columns P.rows ended os ≡ cs
  columns_are = map_again (λ (o : Operand). o.column) as_read es

  abbrev pub row_cells : List Value → List Cell
  row_cells row = map (λ (e : Tree). cell_for at P.schema e row) es

  cells_are : (row : List Value) → cells_for P.rows ended os row ≡ row_cells row
  cells_are row = map_again (λ (o : Operand). o.cell row) as_read es

  rows_are : zip_rows false (zip_length false (extents cs)) cs ≡ map row_cells P.rows
  rows_are =
      subst (λ (cs : List Column). zip_rows false (zip_length false (extents cs)) cs ≡ map (cells_for P.rows ended os) P.rows) columns_are (spread-rows P.rows ended os all_stand spread)
      ∙ (λ i. map (λ (row : List Value). cells_are row i) P.rows)

  ends_are : ends_early false cs ≡ ended
  ends_are = subst (λ (cs : List Column). ends_early false cs ≡ ended) columns_are (ends-is P.rows ended os all_stand spread)

  pub fits : breaks_shape false (extents cs) ≡ false
  fits = subst (λ (cs : List Column). breaks_shape false (extents cs) ≡ false) columns_are (agrees P.rows ended os all_stand)

  pub zip_rows_are : (zipped false at cs).rows ≡ rows_before_fault (map row_cells P.rows)
  zip_rows_are = ap rows_before_fault rows_are

  twice_not : (b : Bool) → not (not b) ≡ b
  twice_not true = refl
  twice_not false = refl

  pub zip_whole : is_empty (zipped false at cs).broken ≡ (is_empty P.broken && not (list_any is_faulty_row (map row_cells P.rows)))
  zip_whole =
      told (ends_early false cs) (list_any is_faulty_row (zip_rows false (zip_length false (extents cs)) cs)) (zip_causes false at cs) (λ h. early_breaks at cs h) (λ h. faulty_breaks at cs (below (zip_length false (extents cs))) h)
      ∙ (λ i. not (ends_are i) && not (list_any is_faulty_row (rows_are i))) ∙ ap (λ (b : Bool). b && not (list_any is_faulty_row (map row_cells P.rows))) (twice_not (is_empty P.broken))

  -- where there are rows, nothing is lost
  pub zip_lost : P.rows ≢ [] → (zipped false at cs).lost ≡ []
  zip_lost some =
      subst (λ (cs : List Column). (zipped false at cs).lost ≡ []) columns_are
      (λ i. none-lost P.rows ended os all_stand some i ++ none-unseen P.rows ended (zip_length false (extents (columns P.rows ended os))) P.rows (columns P.rows ended os) (spread-length P.rows ended os all_stand spread) some i)
