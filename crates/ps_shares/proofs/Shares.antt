-- What a select gives shows its expressions.
use Rattle.std.proofs.Common.{◌≡◌, ◌⊎◌, inl, inr, ℕ, zero, suc, ◌≤◌, ◌<◌, Bool, true, false, not, cond, List, [], ◌∷◌, ◌++◌, length, get_or, refl, sym, ap, subst, ◌∙◌, arith}
use Rattle.std.specs.Prelude.{map, take_while, ◌||◌, ◌≢◌}
use Rattle.std.specs.List.{list_any}
use Rattle.std.proofs.lemmas.List.{length-map}
use Rattle.std.proofs.lemmas.List.Sums.{take_while-cons}
use Rattle.ps_frame.specs.Causes.{Cause, Cell, Column, value, faulty, cell_values}
use Rattle.ps_frame.specs.Tables.{Table, no_rows}
use Rattle.ps_frame.specs.Zip.{below, cell_in_row, ends_early, extents, is_faulty_row, rows_before_fault, zip_causes, zip_length, zip_rows, zipped}
use Rattle.ps_frame.specs.declared.value.Value.{Value}
use Rattle.ps_meaning.specs.Cases.{columns_at, lost_causes, out_schema, table_of}
use Rattle.ps_meaning.specs.Steps.{exprs_of, select}
use Rattle.ps_shares.specs.Shares.{SelectsShow, Shows, ShowsLess}
use Rattle.ps_meaning.proofs.Begins.{begins-get, begins-length}
use Rattle.ps_shares.proofs.ByLeaves.{early_breaks, faulty_breaks}
use Rattle.ps_shares.proofs.Below.{get_below, length_below}

-- a row without a faulty cell is made of its values
pub row_values : (r : List Cell) → is_faulty_row r ≡ false → r ≡ map value (cell_values r)
row_values [] h = refl
row_values (value v ∷ r) h = ap (λ cs. value v ∷ cs) (row_values r h)
row_values (faulty c cs ∷ r) h = cc

-- the rows before the first faulty one, by whether that is the first
abbrev pub cons_as : List Cell → List (List Cell) → Bool → List (List Value)
cons_as x xs b = map cell_values (cond (not b) (x ∷ take_while (λ row. not (is_faulty_row row)) xs) [])

pub cons_is : (x : List Cell) (xs : List (List Cell)) (b : Bool) → is_faulty_row x ≡ b → rows_before_fault (x ∷ xs) ≡ cons_as x xs b
cons_is x xs b h = ap (map cell_values) (take_while-cons (λ row. not (is_faulty_row row)) x xs) ∙ ap (cons_as x xs) h

-- the rows before the first faulty one
taken_step : (x : List Cell) (xs : List (List Cell)) (b : Bool) → is_faulty_row x ≡ b → ((i : ℕ) → i < length (rows_before_fault xs) → get_or xs i [] ≡ map value (get_or (rows_before_fault xs) i []))
    → (i : ℕ) → i < length (rows_before_fault (x ∷ xs)) → get_or (x ∷ xs) i [] ≡ map value (get_or (rows_before_fault (x ∷ xs)) i [])
taken_step x xs true h rest i lt = let none : length (rows_before_fault (x ∷ xs)) ≡ 0 = ap length (cons_is x xs true h) in absurd (omega arith)
taken_step x xs false h rest zero lt = row_values x h ∙ sym (ap (λ rows. map value (get_or rows 0 [])) (cons_is x xs false h))
taken_step x xs false h rest (suc i) lt =
    let l : length (rows_before_fault (x ∷ xs)) ≡ suc (length (rows_before_fault xs)) = ap length (cons_is x xs false h) in
    let lt' : i < length (rows_before_fault xs) = omega arith in
    rest i lt' ∙ sym (ap (λ rows. map value (get_or rows (suc i) [])) (cons_is x xs false h))

taken_row : (xs : List (List Cell)) (i : ℕ) → i < length (rows_before_fault xs) → get_or xs i [] ≡ map value (get_or (rows_before_fault xs) i [])
taken_row [] i lt = absurd (omega arith)
taken_row (x ∷ xs) i lt = taken_step x xs (is_faulty_row x) refl (taken_row xs) i lt

few_step : (x : List Cell) (xs : List (List Cell)) (b : Bool) → is_faulty_row x ≡ b → length (rows_before_fault xs) ≤ length xs → length (rows_before_fault (x ∷ xs)) ≤ suc (length xs)
few_step x xs true h le = let none : length (rows_before_fault (x ∷ xs)) ≡ 0 = ap length (cons_is x xs true h) in omega arith
few_step x xs false h le = let l : length (rows_before_fault (x ∷ xs)) ≡ suc (length (rows_before_fault xs)) = ap length (cons_is x xs false h) in omega arith

few_rows : (xs : List (List Cell)) → length (rows_before_fault xs) ≤ length xs
few_rows [] = omega arith
few_rows (x ∷ xs) = few_step x xs (is_faulty_row x) refl (few_rows xs)

all_step : (x : List Cell) (xs : List (List Cell)) (b : Bool) → is_faulty_row x ≡ b → (is_faulty_row x || list_any is_faulty_row xs) ≡ false → (list_any is_faulty_row xs ≡ false → length (rows_before_fault xs) ≡ length xs)
    → length (rows_before_fault (x ∷ xs)) ≡ suc (length xs)
all_step x xs true p h rest = let q : true ≡ false = sym (ap (λ b. b || list_any is_faulty_row xs) p) ∙ h in cc
all_step x xs false p h rest = let q : list_any is_faulty_row xs ≡ false = sym (ap (λ b. b || list_any is_faulty_row xs) p) ∙ h in ap length (cons_is x xs false p) ∙ ap suc (rest q)

all_rows : (xs : List (List Cell)) → list_any is_faulty_row xs ≡ false → length (rows_before_fault xs) ≡ length xs
all_rows [] h = refl
all_rows (x ∷ xs) h = all_step x xs (is_faulty_row x) refl h (all_rows xs)

module _ (node : ℕ) (cs : List Column) where
  abbrev pub n : ℕ
  n = zip_length false (extents cs)

  abbrev pub rows_of_zip : List (List Cell)
  rows_of_zip = zip_rows false n cs

  count : length rows_of_zip ≡ n
  count = length-map (below n) (λ i. map (cell_in_row false i) cs) ∙ length_below n

  abbrev broken_as : Bool → Bool → List Cause
  broken_as a b = cond (a || b) (zip_causes false node cs) []

  pub zip_whole : (a b : Bool) → ends_early false cs ≡ a → list_any is_faulty_row rows_of_zip ≡ b → (zipped false node cs).broken ≡ [] → (ends_early false cs ≡ false) × (length (zipped false node cs).rows ≡ n)
  zip_whole true b p q e = absurd (early_breaks node cs p (sym (ap (λ a. broken_as a (list_any is_faulty_row rows_of_zip)) p) ∙ e))
  zip_whole false true p q e = absurd (faulty_breaks node cs (below n) q (sym (λ i. broken_as (p i) (q i)) ∙ e))
  zip_whole false false p q e = (p, all_rows rows_of_zip q ∙ count)

  zip_row : (i : ℕ) → i < length (zipped false node cs).rows → map (cell_in_row false i) cs ≡ map value (get_or (zipped false node cs).rows i [])
  zip_row i lt =
      let le = few_rows rows_of_zip in
      let c = count in
      let lt' : i < n = omega arith in
      sym (get_below (λ i. map (cell_in_row false i) cs) n i [] lt') ∙ taken_row rows_of_zip i lt

  zip_few : length (zipped false node cs).rows ≤ n
  zip_few = let le = few_rows rows_of_zip in let c = count in omega arith

-- the table of a zip, and one without rows that some cause breaks
pub zip_shows : (node : ℕ) (cs : List Column) (t : Table) → t.rows ≡ (zipped false node cs).rows → t.broken ≡ (zipped false node cs).broken → Shows t cs
zip_shows node cs t r b =
    record {
      few = subst (λ rows. length rows ≤ zip_length false (extents cs)) (sym r) (zip_few node cs);
      whole = λ e. let w = zip_whole node cs (ends_early false cs) (list_any is_faulty_row (rows_of_zip node cs)) refl refl (sym b ∙ e) in (w.0, ap length r ∙ w.1);
      rows = λ i lt. zip_row node cs i (subst (λ rows. i < length rows) r lt) ∙ sym (ap (λ rows. map value (get_or rows i [])) r);
    }

pub nothing_shows : (cs : List Column) (t : Table) → t.rows ≡ [] → t.broken ≢ [] → Shows t cs
nothing_shows cs t r b =
    let none : length t.rows ≡ 0 = ap length r in
    record {
      few = omega arith;
      whole = λ e. absurd (b e);
      rows = λ i lt. absurd (omega arith);
    }

pub selects_show : SelectsShow
selects_show F at es t T (U, inl g, e) =
    let k : T ≡ table_of (out_schema F at (select es) (t ∷ [])) (λ rows. rows) (zipped false at (columns_at at (exprs_of es) t)) = e ∙ g in
    zip_shows at (columns_at at (exprs_of es) t) T (ap (λ (T : Table). T.rows) k) (ap (λ (T : Table). T.broken) k)
selects_show F at es t T (U, inr (V, g, some, u), e) =
    let k : T ≡ no_rows V.schema (lost_causes F at (select es) (t ∷ []) V.rows) = e ∙ u in
    nothing_shows (columns_at at (exprs_of es) t) T (ap (λ (T : Table). T.rows) k) (λ none. some (sym (ap (λ (T : Table). T.broken) k) ∙ none))

-- a table within another one
pub shows_less : ShowsLess
shows_less p l cs w shows = by w.part
  where
    by : (p ≡ l) ⊎ (p.broken ≡ [] → ⊥) × ((rest : List (List Value)) × (p.rows ++ rest ≡ l.rows)) → Shows p cs
    by (inl e) = subst (λ t. Shows t cs) (sym e) shows
    by (inr (broken, b)) =
        let le = begins-length p.rows l.rows b in
        let few = shows.few in
        record {
          few = omega arith;
          whole = λ e. absurd (broken e);
          rows = λ i lt. let lt' : i < length l.rows = omega arith in shows.rows i lt' ∙ ap (map value) (begins-get p.rows l.rows [] i b lt);
        }
