-- What a zip of a table with keys finds over a part of the rows; and a row with a faulty key.
use Rattle.std.proofs.Common.{◌≡◌, ℕ, ◌≤◌, ◌⊎◌, Bool, true, false, List, [], ◌∷◌, ◌++◌, length, refl, sym, ap, ◌∙◌, subst, inl, inr, arith}
use Rattle.std.proofs.lemmas.List.{length-map}
use Rattle.std.specs.Prelude.{◌≢◌, ◌||◌, Contains, cond, flat_map, map, not, take_while, IsTrue}
use Rattle.std.specs.List.{list_any}
use Rattle.ps_frame.specs.Causes.{Cause, Cell, Column, cell_causes, cell_values, column_causes, is_empty}
use Rattle.ps_frame.specs.Tables.{Fields, Row, Table, no_rows}
use Rattle.ps_frame.specs.Trees.{Tree}
use Rattle.ps_frame.specs.Zip.{Zipped, below, breaks_shape, extents, is_faulty_row, row_causes, zip_causes}
use Rattle.ps_frame.specs.declared.value.DataFault.TheVariants as fault
use Rattle.ps_frame.specs.declared.value.Value.{Value}
use Rattle.ps_meaning.specs.Cases.{table_of}
use Rattle.ps_meaning.specs.Sound.{AreElementwise, have_all_kinds}
use Rattle.ps_rowwise.proofs.ByRow.{cell_for}
use Rattle.ps_rowwise.proofs.OneCell.{or-true}
use Rattle.ps_rowwise.proofs.Standing.{Stands}
use Rattle.passing_laws.proofs.Goers.{AreClean, Goer, Goes, cells_of, columns, operand_of, operands}
use Rattle.passing_laws.proofs.PartFaults.{both-show, columns-show, trees-show}
use Rattle.passing_laws.proofs.Shows.{AllShow, among-either, among-left}
use Rattle.passing_laws.proofs.Trees.{column_goer, tree_goer}
use Rattle.passing_laws.proofs.ZipFaults.{part-breaks}
use Rattle.passing_laws.proofs.ZipPieces.{GivesOf}
use Rattle.passing_laws.proofs.Zips.{none-lost, zip-broken, zip-rows, zip_over}
use Rattle.part_laws.specs.Parts.{strict_cause}
use Rattle.part_laws.proofs.Members.{all-at, in-flat, out-flat, out-map}
use Rattle.part_laws.proofs.OneCause.{cell-strict}
use Rattle.part_laws.proofs.Singles.{while-few}
use Rattle.part_laws.proofs.KeyedRows.{AllClean, all-go, key_goers, keyed-is, keyed_over, not-lone}
use Rattle.world_laws.proofs.InOrder.{contains_first, contains_later, contains_map, none_in_nil}

-- a cause of a row's cell is one of the column
of-row : (b e : Bool) (cell : List Value → Cell) (w : Column) (rows : List Row) (x : Row) (c : Cause) → Stands rows e b w cell → Contains rows x → Contains (cell_causes (cell x)) c → Contains (column_causes w) c
of-row true e cell w rows x c st there h =
    subst (λ (y : Column). Contains (column_causes y) c) (sym st.0) (among-left (cell_causes (cell []) ++ []) [] c (among-left (cell_causes (cell [])) [] c (subst (λ y. Contains (cell_causes y) c) (st.1 x) h)))
of-row false e cell w rows x c st there h =
    among-left (flat_map cell_causes w.cells) w.broken c (subst (λ cells. Contains (flat_map cell_causes cells) c) (sym st.0) (in-flat cell_causes (map cell rows) (cell x) c (contains_map cell x rows there) h))

-- a row that passes a test
some-passing : {A : Type 0} (t : A → Bool) (xs : List A) → list_any t xs ≡ true → (x : A) × Contains xs x × (t x ≡ true)
some-passing t [] h = cc
some-passing {A} t (x ∷ xs) h = by (some-passing t xs) (t x) refl h
  where
    by : (list_any t xs ≡ true → (y : A) × Contains xs y × (t y ≡ true)) → (b : Bool) → t x ≡ b → (b || list_any t xs) ≡ true → (y : A) × Contains (x ∷ xs) y × (t y ≡ true)
    by rest true e k = (x, contains_first x xs, e)
    by rest false e k = let r = rest k in (r.0, contains_later x r.0 xs r.1, r.2)

some-of : (cs : List Cause) → not (is_empty cs) ≡ true → (c : Cause) × Contains cs c
some-of [] h = cc
some-of (c ∷ cs) h = (c, contains_first c cs)

module _ (node : ℕ) (s : Fields) (keys : List Tree) (some : s ≢ []) (h : AreElementwise keys) (k : IsTrue (have_all_kinds s keys)) where
  abbrev gs : List Goer
  gs = key_goers node s keys some h k

  abbrev pub beside : List Row → List Cause → Zipped
  beside rows causes = keyed_over node s keys some h k rows causes

  all-show : AllShow (key_goers node s keys some h k)
  all-show = both-show (map (column_goer s) (below (length s))) (map (tree_goer node s) keys) (columns-show s (below (length s))) (trees-show node s keys h k)

  abbrev pub faulty_rows : List Row → Bool
  faulty_rows rows = list_any is_faulty_row (map (cells_of (key_goers node s keys some h k)) rows)

  -- no row has a faulty key
  each-clean : (rows : List Row) → faulty_rows rows ≡ false → AllClean node s keys some h k rows
  each-clean [] e = tt
  each-clean (r ∷ rows) e = by (row_causes (cells_of (key_goers node s keys some h k) r)) refl (each-clean rows)
    where
      by : (cs : List Cause) → row_causes (cells_of (key_goers node s keys some h k) r) ≡ cs → (faulty_rows rows ≡ false → AllClean node s keys some h k rows) → AllClean node s keys some h k (r ∷ rows)
      by [] q rest = (q, rest (sym (ap (λ cs. not (is_empty cs) || faulty_rows rows) q) ∙ e))
      by (c ∷ cs) q rest = absurd (let no : true ≡ false = sym (ap (λ cs. not (is_empty cs) || faulty_rows rows) q) ∙ e in cc)

  pub clean-cases : (rows : List Row) → (faulty_rows rows ≡ true) ⊎ AllClean node s keys some h k rows
  clean-cases rows = by (faulty_rows rows) refl
    where
      by : (b : Bool) → faulty_rows rows ≡ b → (faulty_rows rows ≡ true) ⊎ AllClean node s keys some h k rows
      by true e = inl e
      by false e = inr (each-clean rows e)

  clean-part : (a rows : List Row) → ((x : Row) → Contains a x → Contains rows x) → AllClean node s keys some h k rows → AllClean node s keys some h k a
  clean-part [] rows among c = tt
  clean-part (r ∷ a) rows among c = (all-at (AreClean (key_goers node s keys some h k)) rows r c (among r (contains_first r a)), clean-part a rows (λ x m. among x (contains_later r x a m)) c)

  pub part-clean-of : (a rows : List Row) → ((x : Row) → Contains a x → Contains rows x) → AllClean node s keys some h k rows → AllClean node s keys some h k a
  part-clean-of = clean-part

  -- a faulty cell of a row is that of a key
  key-cause : (x : Row) (c : Cause) → Contains (row_causes (cells_of (key_goers node s keys some h k) x)) c → (g : Goer) × Contains (key_goers node s keys some h k) g × Contains (cell_causes (g.cell x)) c × (c ≡ strict_cause node)
  key-cause x c m = by (among-either (map (column_goer s) (below (length s))) (map (tree_goer node s) keys) g.0 g.1)
    where
      cell : (d : Cell) × Contains (cells_of (key_goers node s keys some h k) x) d × Contains (cell_causes d) c
      cell = out-flat cell_causes (cells_of (key_goers node s keys some h k) x) c m

      g : (g : Goer) × Contains (key_goers node s keys some h k) g × (g.cell x ≡ cell.0)
      g = out-map (λ (g : Goer). g.cell x) (key_goers node s keys some h k) cell.0 cell.1

      there : Contains (cell_causes (g.0.cell x)) c
      there = subst (λ d. Contains (cell_causes d) c) (sym g.2) cell.2

      of-column : (y : Goer) → Contains (map (column_goer s) (below (length s))) y → Contains (cell_causes (y.cell x)) c → ⊥
      of-column y n q = let i = out-map (column_goer s) (below (length s)) y n in none_in_nil c (subst (λ (y : Goer). Contains (cell_causes (y.cell x)) c) (sym i.2) q)

      of-tree : (y : Goer) → Contains (map (tree_goer node s) keys) y → Contains (cell_causes (y.cell x)) c → c ≡ strict_cause node
      of-tree y n q =
          let t = out-map (tree_goer node s) keys y n in
          all-at (λ c. c ≡ strict_cause node) (cell_causes (cell_for node s t.0 x)) c (cell-strict node s t.0 x) (subst (λ (y : Goer). Contains (cell_causes (y.cell x)) c) (sym t.2) q)

      by : Contains (map (column_goer s) (below (length s))) g.0 ⊎ Contains (map (tree_goer node s) keys) g.0 → (g : Goer) × Contains (key_goers node s keys some h k) g × Contains (cell_causes (g.cell x)) c × (c ≡ strict_cause node)
      by (inl n) = absurd (of-column g.0 n there)
      by (inr n) = (g.0, g.1, there, of-tree g.0 n there)

  -- A row with a faulty key breaks the zip by the one cause that there is.
  pub faulty-key : (rows : List Row) (causes : List Cause) → faulty_rows rows ≡ true → Contains (beside rows causes).broken (strict_cause node)
  faulty-key rows causes e =
      subst (λ (z : Zipped). Contains z.broken (strict_cause node)) (keyed-is node s keys some h k rows causes)
      (subst (λ cs. Contains cs (strict_cause node)) (sym broken) (among-left (flat_map column_causes cols) (cond (breaks_shape false (extents cols)) (record { fault = fault.Shape; node = node } ∷ []) []) (strict_cause node) in-columns))
    where
      cols : List Column
      cols = columns rows causes (key_goers node s keys some h k)

      broken : (zip_over node (key_goers node s keys some h k) (all-go node s keys some h k) (not-lone node s keys some h k) rows causes).broken ≡ zip_causes false node (columns rows causes (key_goers node s keys some h k))
      broken = zip-broken node (key_goers node s keys some h k) (all-go node s keys some h k) (not-lone node s keys some h k) rows causes ∙ ap (λ b. cond b (zip_causes false node (columns rows causes (key_goers node s keys some h k))) []) (ap (λ b. not (is_empty causes) || b) e ∙ or-true (not (is_empty causes)))

      row : (r : List Cell) × Contains (map (cells_of (key_goers node s keys some h k)) rows) r × (is_faulty_row r ≡ true)
      row = some-passing is_faulty_row (map (cells_of (key_goers node s keys some h k)) rows) e

      x : (x : Row) × Contains rows x × (cells_of (key_goers node s keys some h k) x ≡ row.0)
      x = out-map (cells_of (key_goers node s keys some h k)) rows row.0 row.1

      c : (c : Cause) × Contains (row_causes (cells_of (key_goers node s keys some h k) x.0)) c
      c = some-of (row_causes (cells_of (key_goers node s keys some h k) x.0)) (ap is_faulty_row x.2 ∙ row.2)

      g : (g : Goer) × Contains (key_goers node s keys some h k) g × Contains (cell_causes (g.cell x.0)) c.0 × (c.0 ≡ strict_cause node)
      g = key-cause x.0 c.0 c.1

      goes : Goes g.0
      goes = all-at Goes (key_goers node s keys some h k) g.0 (all-go node s keys some h k) g.1

      in-column : Contains (column_causes (g.0.over rows causes)) c.0
      in-column = of-row g.0.lone (not (is_empty causes)) g.0.cell (g.0.over rows causes) rows x.0 c.0 (goes.stands rows causes) x.1 g.2

      in-columns : Contains (flat_map column_causes (columns rows causes (key_goers node s keys some h k))) (strict_cause node)
      in-columns =
          subst (Contains (flat_map column_causes (columns rows causes (key_goers node s keys some h k)))) g.3
          (in-flat column_causes (columns rows causes (key_goers node s keys some h k)) (g.0.over rows causes) c.0 (contains_map _ (operand_of rows causes g.0) (operands rows causes (key_goers node s keys some h k)) (contains_map (operand_of rows causes) g.0 (key_goers node s keys some h k) g.1)) in-column)

  -- what breaks the zip over a part, or is lost there, breaks it over all, or is lost there
  abbrev pub IsFound : List Row → List Cause → Cause → Type 0
  IsFound rows causes c = Contains (beside rows causes).broken c ⊎ Contains (beside rows causes).lost c

  found-over : (rows : List Row) (causes : List Cause) (c : Cause) → (V : Table) × GivesOf [] (λ rows. rows) (zip_over node (key_goers node s keys some h k) (all-go node s keys some h k) (not-lone node s keys some h k) rows causes) V × Contains V.broken c → IsFound rows causes c
  found-over rows causes c (V, inl e, m) = inl (subst (λ (z : Zipped). Contains z.broken c) (keyed-is node s keys some h k rows causes) (subst (λ (t : Table). Contains t.broken c) e m))
  found-over rows causes c (V, inr (W, g, lost, e), m) = inr (subst (λ (z : Zipped). Contains z.lost c) (keyed-is node s keys some h k rows causes) (subst (λ (t : Table). Contains t.broken c) e m))

  pub key-part : (front a rest : List Row) (causes : List Cause) (c : Cause) → IsFound a [] c → IsFound (front ++ (a ++ rest)) causes c
  key-part front a rest causes c f = found-over (front ++ (a ++ rest)) causes c (by f)
    where
      z : Zipped
      z = zip_over node (key_goers node s keys some h k) (all-go node s keys some h k) (not-lone node s keys some h k) a []

      breaks : (U : Table) → GivesOf [] (λ rows. rows) (zip_over node (key_goers node s keys some h k) (all-go node s keys some h k) (not-lone node s keys some h k) a []) U → Contains U.broken c
          → (V : Table) × GivesOf [] (λ rows. rows) (zip_over node (key_goers node s keys some h k) (all-go node s keys some h k) (not-lone node s keys some h k) (front ++ (a ++ rest)) causes) V × Contains V.broken c
      breaks U = part-breaks node (key_goers node s keys some h k) (all-go node s keys some h k) all-show (not-lone node s keys some h k) [] (λ rows. rows) front a rest causes U c

      by : IsFound a [] c → (V : Table) × GivesOf [] (λ rows. rows) (zip_over node (key_goers node s keys some h k) (all-go node s keys some h k) (not-lone node s keys some h k) (front ++ (a ++ rest)) causes) V × Contains V.broken c
      by (inl m) = breaks (table_of [] (λ rows. rows) z) (inl refl) (subst (λ (z : Zipped). Contains z.broken c) (sym (keyed-is node s keys some h k a [])) m)
      by (inr m) =
          let there = subst (λ (z : Zipped). Contains z.lost c) (sym (keyed-is node s keys some h k a [])) m in
          breaks (no_rows [] z.lost) (inr (table_of [] (λ rows. rows) z, refl, (λ e. none_in_nil c (subst (λ cs. Contains cs c) e there)), refl)) there

  -- where a row has no faulty key, nothing is lost
  pub key-loses : (r : Row) (a rows : List Row) (causes : List Cause) → AllClean node s keys some h k (r ∷ a) → (beside rows causes).lost ≡ []
  key-loses r a rows causes c = ap (λ (z : Zipped). z.lost) (sym (keyed-is node s keys some h k rows causes)) ∙ none-lost node (key_goers node s keys some h k) (all-go node s keys some h k) (not-lone node s keys some h k) r a rows causes c

  -- no more rows than there were
  pub key-few : (rows : List Row) (causes : List Cause) → length (beside rows causes).rows ≤ length rows
  key-few rows causes =
      let t : List Cell → Bool = λ row. not (is_faulty_row row) in
      let cells = map (cells_of (key_goers node s keys some h k)) rows in
      let e : (beside rows causes).rows ≡ map cell_values (take_while t cells) = ap (λ (z : Zipped). z.rows) (sym (keyed-is node s keys some h k rows causes)) ∙ zip-rows node (key_goers node s keys some h k) (all-go node s keys some h k) (not-lone node s keys some h k) rows causes in
      let l = ap length e in
      let a = length-map (take_while t cells) cell_values in
      let b = while-few t cells in
      let d = length-map rows (cells_of (key_goers node s keys some h k)) in
      omega arith
