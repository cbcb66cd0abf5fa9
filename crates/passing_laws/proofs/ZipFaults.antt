-- What breaks a zip over a part of the rows breaks it over all of them.
use Rattle.std.proofs.Common.{◌≡◌, ℕ, ◌⊎◌, List, [], ◌∷◌, ◌++◌, refl, sym, ap, subst, ◌∙◌, inl, inr, append_assoc, append-nil}
use Rattle.std.specs.Prelude.{Bool, true, false, not, ◌||◌, Contains, cond, flat_map, map}
use Rattle.std.specs.List.{list_any}
use Rattle.ps_frame.specs.Causes.{Cause, Cell, Column, cell_causes, column_causes, is_empty}
use Rattle.ps_frame.specs.Tables.{Fields, Row, Table, no_rows}
use Rattle.ps_frame.specs.Zip.{Zipped, breaks_shape, extents, is_faulty_row, row_causes, unseen_causes, zip_causes, zip_length}
use Rattle.ps_frame.specs.declared.value.DataFault.TheVariants as fault
use Rattle.ps_frame.specs.declared.value.Value.{Value}
use Rattle.ps_meaning.specs.Cases.{table_of}
use Rattle.ps_rowwise.proofs.OneCell.{or-true}
use Rattle.ps_rowwise.proofs.Standing.{Stands, agrees, none-lost, none-unseen, spread-length}
use Rattle.passing_laws.proofs.Goers.{AllGo, Goer, all-stand, all_lone, cells_of, columns, operands, same-lone}
use Rattle.world_laws.proofs.InOrder.{none_in_nil}
use Rattle.passing_laws.proofs.Shows.{AllShow, among-either, among-left, among-right, zip-lost-same, zip-lost-shows}
use Rattle.passing_laws.proofs.ZipPieces.{GivesOf}
use Rattle.passing_laws.proofs.Zips.{zip-broken, zip_over}

-- causes of the cells of a part
cells-joined : (cell : List Value → Cell) (xs ys : List Row) → flat_map cell_causes (map cell (xs ++ ys)) ≡ flat_map cell_causes (map cell xs) ++ flat_map cell_causes (map cell ys)
cells-joined cell [] ys = refl
cells-joined cell (x ∷ xs) ys = ap (λ cs. cell_causes (cell x) ++ cs) (cells-joined cell xs ys) ∙ sym (append_assoc (cell_causes (cell x)) (flat_map cell_causes (map cell xs)) (flat_map cell_causes (map cell ys)))

no-end : (xs : List Cause) → not (is_empty xs) ≡ false → xs ≡ []
no-end [] h = refl
no-end (x ∷ xs) h = cc

part-cells : (cell : List Value → Cell) (front a rest : List Row) (c : Cause) → Contains (flat_map cell_causes (map cell a)) c → Contains (flat_map cell_causes (map cell (front ++ (a ++ rest)))) c
part-cells cell front a rest c h =
    subst (λ cs. Contains cs c) (sym (cells-joined cell front (a ++ rest)))
    (among-right (flat_map cell_causes (map cell front)) (flat_map cell_causes (map cell (a ++ rest))) c
    (subst (λ cs. Contains cs c) (sym (cells-joined cell a rest)) (among-left (flat_map cell_causes (map cell a)) (flat_map cell_causes (map cell rest)) c h)))

part-column : (b e : Bool) (cell : List Value → Cell) (d w : Column) (front a rest : List Row) (c : Cause) → Stands a false b d cell → Stands (front ++ (a ++ rest)) e b w cell → Contains (column_causes d) c → Contains (column_causes w) c
part-column true e cell d w front a rest c s t h = subst (λ (x : Column). Contains (column_causes x) c) (s.0 ∙ sym t.0) h
part-column false e cell d w front a rest c s t h = by (among-either (flat_map cell_causes d.cells) d.broken c h)
  where
    by : Contains (flat_map cell_causes d.cells) c ⊎ Contains d.broken c → Contains (flat_map cell_causes w.cells ++ w.broken) c
    by (inl here) = among-left (flat_map cell_causes w.cells) w.broken c (subst (λ xs. Contains (flat_map cell_causes xs) c) (sym t.0) (part-cells cell front a rest c (subst (λ xs. Contains (flat_map cell_causes xs) c) s.0 here)))
    by (inr there) = absurd (none_in_nil c (subst (λ xs. Contains xs c) (no-end d.broken s.1) there))

part-causes : (front a rest : List Row) (causes : List Cause) (gs : List Goer) → AllGo gs → (c : Cause) → Contains (flat_map column_causes (columns a [] gs)) c → Contains (flat_map column_causes (columns (front ++ (a ++ rest)) causes gs)) c
part-causes front a rest causes [] all c h = h
part-causes front a rest causes (g ∷ gs) all c h = by (part-causes front a rest causes gs all.1 c) (among-either (column_causes (g.over a [])) (flat_map column_causes (columns a [] gs)) c h)
  where
    by : (Contains (flat_map column_causes (columns a [] gs)) c → Contains (flat_map column_causes (columns (front ++ (a ++ rest)) causes gs)) c) → Contains (column_causes (g.over a [])) c ⊎ Contains (flat_map column_causes (columns a [] gs)) c
        → Contains (column_causes (g.over (front ++ (a ++ rest)) causes) ++ flat_map column_causes (columns (front ++ (a ++ rest)) causes gs)) c
    by later (inl here) =
        among-left (column_causes (g.over (front ++ (a ++ rest)) causes)) (flat_map column_causes (columns (front ++ (a ++ rest)) causes gs)) c
        (part-column g.lone (not (is_empty causes)) g.cell (g.over a []) (g.over (front ++ (a ++ rest)) causes) front a rest c (all.0.stands a []) (all.0.stands (front ++ (a ++ rest)) causes) here)
    by later (inr there) = among-right (column_causes (g.over (front ++ (a ++ rest)) causes)) (flat_map column_causes (columns (front ++ (a ++ rest)) causes gs)) c (later there)

-- causes of a first row's cells
first-column : (b e : Bool) (cell : List Value → Cell) (w : Column) (x : Row) (xs : List Row) (c : Cause) → Stands (x ∷ xs) e b w cell → Contains (cell_causes (cell x)) c → Contains (column_causes w) c
first-column true e cell w x xs c t h =
    subst (λ (y : Column). Contains (column_causes y) c) (sym t.0) (among-left (cell_causes (cell []) ++ []) [] c (among-left (cell_causes (cell [])) [] c (subst (λ y. Contains (cell_causes y) c) (t.1 x) h)))
first-column false e cell w x xs c t h =
    among-left (flat_map cell_causes w.cells) w.broken c (subst (λ ys. Contains (flat_map cell_causes ys) c) (sym t.0) (among-left (cell_causes (cell x)) (flat_map cell_causes (map cell xs)) c h))

first-causes : (x : Row) (xs : List Row) (causes : List Cause) (gs : List Goer) → AllGo gs → (c : Cause) → Contains (row_causes (cells_of gs x)) c → Contains (flat_map column_causes (columns (x ∷ xs) causes gs)) c
first-causes x xs causes [] all c h = h
first-causes x xs causes (g ∷ gs) all c h = by (first-causes x xs causes gs all.1 c) (among-either (cell_causes (g.cell x)) (row_causes (cells_of gs x)) c h)
  where
    by : (Contains (row_causes (cells_of gs x)) c → Contains (flat_map column_causes (columns (x ∷ xs) causes gs)) c) → Contains (cell_causes (g.cell x)) c ⊎ Contains (row_causes (cells_of gs x)) c
        → Contains (column_causes (g.over (x ∷ xs) causes) ++ flat_map column_causes (columns (x ∷ xs) causes gs)) c
    by later (inl here) =
        among-left (column_causes (g.over (x ∷ xs) causes)) (flat_map column_causes (columns (x ∷ xs) causes gs)) c (first-column g.lone (not (is_empty causes)) g.cell (g.over (x ∷ xs) causes) x xs c (all.0.stands (x ∷ xs) causes) here)
    by later (inr there) = among-right (column_causes (g.over (x ∷ xs) causes)) (flat_map column_causes (columns (x ∷ xs) causes gs)) c (later there)

-- tests of some row
any-joined : (t : List Cell → Bool) (h : Row → List Cell) (xs ys : List Row) → list_any t (map h ys) ≡ true → list_any t (map h (xs ++ ys)) ≡ true
any-joined t h [] ys e = e
any-joined t h (x ∷ xs) ys e = ap (λ b. t (h x) || b) (any-joined t h xs ys e) ∙ or-true (t (h x))

any-first : (t : List Cell → Bool) (h : Row → List Cell) (xs ys : List Row) → list_any t (map h xs) ≡ true → list_any t (map h (xs ++ ys)) ≡ true
any-first t h [] ys e = cc
any-first t h (x ∷ xs) ys e = by (t (h x)) (any-first t h xs ys) e
  where
    by : (b : Bool) → (list_any t (map h xs) ≡ true → list_any t (map h (xs ++ ys)) ≡ true) → (b || list_any t (map h xs)) ≡ true → (b || list_any t (map h (xs ++ ys))) ≡ true
    by true rest e = refl
    by false rest e = rest e

some-cause : (cs : List Cause) (c : Cause) → Contains cs c → not (is_empty cs) ≡ true
some-cause [] c h = absurd (none_in_nil c h)
some-cause (x ∷ cs) c h = refl

module _ (node : ℕ) (gs : List Goer) (all : AllGo gs) (show : AllShow gs) (some : all_lone gs ≡ false) where
  abbrev pub over : List Row → List Cause → Zipped
  over rows causes = zip_over node gs all some rows causes

  abbrev faulty_rows : List Row → Bool
  faulty_rows rows = list_any is_faulty_row (map (cells_of gs) rows)

  -- where a row is faulty, all causes of the columns break it
  breaks-all : (rows : List Row) (causes : List Cause) (c : Cause) → faulty_rows rows ≡ true → Contains (flat_map column_causes (columns rows causes gs)) c → Contains (over rows causes).broken c
  breaks-all rows causes c e h =
      subst (λ cs. Contains cs c) (sym (zip-broken node gs all some rows causes ∙ ap (λ b. cond b (zip_causes false node (columns rows causes gs)) []) (ap (λ b. not (is_empty causes) || b) e ∙ or-true (not (is_empty causes)))))
      (among-left (flat_map column_causes (columns rows causes gs)) (cond (breaks_shape false (extents (columns rows causes gs))) (record { fault = fault.Shape; node = node } ∷ []) []) c h)

  record Broken (a : List Row) (c : Cause) : Type 0 where
    pub faulty : faulty_rows a ≡ true
    pub among : Contains (flat_map column_causes (columns a [] gs)) c

  -- over rows that nothing ends only a faulty row breaks it
  broken-by : (a : List Row) (c : Cause) → Contains (over a []).broken c → Broken a c
  broken-by a c h = by (faulty_rows a) refl
    where
      is : (b : Bool) → faulty_rows a ≡ b → (over a []).broken ≡ cond b (zip_causes false node (columns a [] gs)) []
      is b q = zip-broken node gs all some a [] ∙ ap (λ b. cond b (zip_causes false node (columns a [] gs)) []) q

      agree : zip_causes false node (columns a [] gs) ≡ flat_map column_causes (columns a [] gs)
      agree =
          ap (λ b. flat_map column_causes (columns a [] gs) ++ cond b (record { fault = fault.Shape; node = node } ∷ []) []) (agrees a false (operands a [] gs) (all-stand a [] gs all))
          ∙ append-nil (flat_map column_causes (columns a [] gs))

      by : (b : Bool) → faulty_rows a ≡ b → Broken a c
      by true q = record { faulty = q; among = subst (λ cs. Contains cs c) (is true q ∙ agree) h }
      by false q = absurd (none_in_nil c (subst (λ cs. Contains cs c) (is false q) h))

  -- where there are rows, nothing is lost
  none-lost-over : (x : Row) (a : List Row) → (over (x ∷ a) []).lost ≡ []
  none-lost-over x a =
      ap (λ cs. cs ++ unseen_causes false (zip_length false (extents (columns (x ∷ a) [] gs))) (columns (x ∷ a) [] gs)) (none-lost (x ∷ a) false (operands (x ∷ a) [] gs) (all-stand (x ∷ a) [] gs all) (λ e. cc))
      ∙ none-unseen (x ∷ a) false (zip_length false (extents (columns (x ∷ a) [] gs))) (x ∷ a) (columns (x ∷ a) [] gs) (spread-length (x ∷ a) false (operands (x ∷ a) [] gs) (all-stand (x ∷ a) [] gs all) (same-lone (x ∷ a) [] gs ∙ some)) (λ e. cc)

  module _ (o : Fields) (f : List Row → List Row) where
    -- lost causes: over no rows they are lost as well, and over some these are faulty
    lost-over : (rows : List Row) (causes : List Cause) (c : Cause) → Contains (over [] []).lost c → (V : Table) × GivesOf o f (over rows causes) V × Contains V.broken c
    lost-over [] causes c h =
        let there : Contains (over [] causes).lost c = subst (λ cs. Contains cs c) (sym (zip-lost-same node gs all show some causes)) h in
        (no_rows o (over [] causes).lost, inr (table_of o f (over [] causes), refl, (λ e. none_in_nil c (subst (λ cs. Contains cs c) e there)), refl), there)
    lost-over (x ∷ rows) causes c h =
        let k = zip-lost-shows node gs all show some c x h in
        (table_of o f (over (x ∷ rows) causes), inl refl, breaks-all (x ∷ rows) causes c (ap (λ b. b || faulty_rows rows) (some-cause (row_causes (cells_of gs x)) c k)) (first-causes x rows causes gs all c k))

    lost-part : (front a rest : List Row) (causes : List Cause) (c : Cause) → Contains (over a []).lost c → (V : Table) × GivesOf o f (over (front ++ (a ++ rest)) causes) V × Contains V.broken c
    lost-part front [] rest causes c h = lost-over (front ++ rest) causes c h
    lost-part front (x ∷ a) rest causes c h = absurd (none_in_nil c (subst (λ cs. Contains cs c) (none-lost-over x a) h))

    pub part-breaks : (front a rest : List Row) (causes : List Cause) (U : Table) (c : Cause) → GivesOf o f (over a []) U → Contains U.broken c → (V : Table) × GivesOf o f (over (front ++ (a ++ rest)) causes) V × Contains V.broken c
    part-breaks front a rest causes U c (inl e) h =
        let k = broken-by a c (subst (λ (t : Table). Contains t.broken c) e h) in
        (table_of o f (over (front ++ (a ++ rest)) causes), inl refl, breaks-all (front ++ (a ++ rest)) causes c (any-joined is_faulty_row (cells_of gs) front (a ++ rest) (any-first is_faulty_row (cells_of gs) a rest k.faulty)) (part-causes front a rest causes gs all c k.among))
    part-breaks front a rest causes U c (inr (W, g, lost, e)) h = lost-part front a rest causes c (subst (λ (t : Table). Contains t.broken c) e h)
