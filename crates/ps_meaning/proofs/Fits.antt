-- Values of kinds: what is kept by lists, zips and operators.
use Rattle.std.proofs.Common.{◌≡◌, ℕ, zero, suc, List, [], ◌∷◌, ◌++◌, get_or, take, drop, refl, sym, subst}
use Rattle.std.proofs.lemmas.List.Sums.{take_while-cons}
use Rattle.std.specs.Prelude.{Bool, true, false, cond, not, map, filter, flat_map, take_while, if◌then◌else◌, ⊤}
use Rattle.std.specs.List.{AllByRecursion, list_any}
use Rattle.ps_frame.specs.Causes.{Cause, Cell, Column, value, faulty, cell_values, column_causes, faulty_or, has_cause, is_empty, whole_column}
use Rattle.ps_frame.specs.Eval.{cell_of_row, cellwise, from_whole}
use Rattle.ps_frame.specs.Sorting.{in_order, insert_in_order}
use Rattle.ps_frame.specs.Values.{fits_kind}
use Rattle.ps_frame.specs.Zip.{aligned, below, broadcasts, cell_in_row, extent_of, extents, is_faulty_row, row_causes, rows_before_fault, zip_length, zipped}
use Rattle.ps_frame.specs.declared.value.DataType.{DataType}
use Rattle.ps_frame.specs.declared.value.Value.{Value}
use Rattle.ps_frame.specs.declared.value.Value.TheVariants as val
use Rattle.ps_meaning.specs.Laws.{FitsKinds}

abbrev pub Fits : DataType → Value → Type 0
Fits k v = fits_kind k v ≡ true

pub null-fits : (k : DataType) → Fits k val.Null
null-fits k = refl

-- a cell is faulty, or its value fits
abbrev pub CellFits : DataType → Cell → Type 0
CellFits k (value v) = Fits k v
CellFits k (faulty c cs) = ⊤

abbrev pub ColumnFits : DataType → Column → Type 0
ColumnFits k c = AllByRecursion (CellFits k) c.cells

abbrev pub ColumnsFit : List DataType → List Column → Type 0
ColumnsFit [] [] = ⊤
ColumnsFit (k ∷ ks) (c ∷ cs) = ColumnFits k c × ColumnsFit ks cs
ColumnsFit _ _ = ⊥

abbrev pub CellsFit : List DataType → List Cell → Type 0
CellsFit [] [] = ⊤
CellsFit (k ∷ ks) (c ∷ cs) = CellFits k c × CellsFit ks cs
CellsFit _ _ = ⊥

-- what holds of all items of lists
module _ {A : Type 0} (P : A → Type 0) where
  pub all-append : (xs ys : List A) → AllByRecursion P xs → AllByRecursion P ys → AllByRecursion P (xs ++ ys)
  all-append [] ys p q = q
  all-append (x ∷ xs) ys p q = (p.0, all-append xs ys p.1 q)

  pub all-take : (n : ℕ) (xs : List A) → AllByRecursion P xs → AllByRecursion P (take n xs)
  all-take zero xs p = tt
  all-take (suc n) [] p = tt
  all-take (suc n) (x ∷ xs) p = (p.0, all-take n xs p.1)

  pub all-drop : (n : ℕ) (xs : List A) → AllByRecursion P xs → AllByRecursion P (drop n xs)
  all-drop zero xs p = p
  all-drop (suc n) [] p = tt
  all-drop (suc n) (x ∷ xs) p = all-drop n xs p.1

  pub all-get : (xs : List A) (i : ℕ) (d : A) → AllByRecursion P xs → P d → P (get_or xs i d)
  all-get [] i d p q = q
  all-get (x ∷ xs) zero d p q = p.0
  all-get (x ∷ xs) (suc i) d p q = all-get xs i d p.1 q

  all-cond : (b : Bool) (xs ys : List A) → AllByRecursion P xs → AllByRecursion P ys → AllByRecursion P (cond b xs ys)
  all-cond true xs ys p q = p
  all-cond false xs ys p q = q

  pub all-filter : (test : A → Bool) (xs : List A) → AllByRecursion P xs → AllByRecursion P (filter test xs)
  all-filter test [] p = tt
  all-filter test (x ∷ xs) p = all-cond (test x) _ _ (p.0, all-filter test xs p.1) (all-filter test xs p.1)

  all-insert : (less : A → A → Bool) (x : A) (ys : List A) → P x → AllByRecursion P ys → AllByRecursion P (insert_in_order less x ys)
  all-insert less x [] p q = (p, tt)
  all-insert less x (y ∷ ys) p q = all-cond (less y x) _ _ (q.0, all-insert less x ys p q.1) (p, q)

  pub all-in_order : (less : A → A → Bool) (xs : List A) → AllByRecursion P xs → AllByRecursion P (in_order less xs)
  all-in_order less [] p = tt
  all-in_order less (x ∷ xs) p = all-insert less x (in_order less xs) p.0 (all-in_order less xs p.1)

pub all-map : {A B : Type 0} (P : A → Type 0) (Q : B → Type 0) (f : A → B) → ((a : A) → P a → Q (f a)) → (xs : List A) → AllByRecursion P xs → AllByRecursion Q (map f xs)
all-map P Q f each [] p = tt
all-map P Q f each (x ∷ xs) p = (each x p.0, all-map P Q f each xs p.1)

pub all-of : {A B : Type 0} (Q : B → Type 0) (f : A → B) → ((a : A) → Q (f a)) → (xs : List A) → AllByRecursion Q (map f xs)
all-of Q f each [] = tt
all-of Q f each (x ∷ xs) = (each x, all-of Q f each xs)

-- the rows of a zip
row-fits : (extend : Bool) (i : ℕ) (ks : List DataType) (cs : List Column) → ColumnsFit ks cs → CellsFit ks (map (cell_in_row extend i) cs)
row-fits extend i [] [] f = tt
row-fits extend i [] (c ∷ cs) f = absurd f
row-fits extend i (k ∷ ks) [] f = absurd f
row-fits extend i (k ∷ ks) (c ∷ cs) f = (all-get (CellFits k) c.cells (if broadcasts extend (extent_of c) then 0 else i) (value val.Null) f.0 (null-fits k), row-fits extend i ks cs f.1)

pub aligned-fits : (extend : Bool) (node : ℕ) (ks : List DataType) (cs : List Column) → ColumnsFit ks cs → AllByRecursion (CellsFit ks) (aligned extend node cs).rows
aligned-fits extend node ks cs f = all-of (CellsFit ks) (λ i. map (cell_in_row extend i) cs) (λ i. row-fits extend i ks cs f) (below (zip_length extend (extents cs)))

values-fit : (ks : List DataType) (row : List Cell) → CellsFit ks row → row_causes row ≡ [] → FitsKinds ks (cell_values row)
values-fit [] [] f e = tt
values-fit [] (c ∷ cs) f e = absurd f
values-fit (k ∷ ks) [] f e = absurd f
values-fit (k ∷ ks) (value v ∷ cs) f e = (f.0, values-fit ks cs f.1 e)
values-fit (k ∷ ks) (faulty x xs ∷ cs) f e = cc

no-cause : (cs : List Cause) → not (is_empty cs) ≡ false → cs ≡ []
no-cause [] e = refl
no-cause (x ∷ xs) e = cc

good-row : (ks : List DataType) (row : List Cell) (more : List (List Cell)) (t : Bool) → not (is_faulty_row row) ≡ t → CellsFit ks row → AllByRecursion (FitsKinds ks) (map cell_values more)
    → AllByRecursion (FitsKinds ks) (map cell_values (cond t (row ∷ more) []))
good-row ks row more true e f rest = (values-fit ks row f (no-cause (row_causes row) (by (is_faulty_row row) e)), rest)
  where
    by : (b : Bool) → not b ≡ true → b ≡ false
    by true e = cc
    by false e = refl
good-row ks row more false e f rest = tt

before-fault : (ks : List DataType) (rows : List (List Cell)) → AllByRecursion (CellsFit ks) rows → AllByRecursion (FitsKinds ks) (rows_before_fault rows)
before-fault ks [] f = tt
before-fault ks (r ∷ rows) f =
    subst (λ (rs : List (List Cell)). AllByRecursion (FitsKinds ks) (map cell_values rs)) (sym (take_while-cons (λ row. not (is_faulty_row row)) r rows))
    (good-row ks r (take_while (λ row. not (is_faulty_row row)) rows) (not (is_faulty_row r)) refl f.0 (before-fault ks rows f.1))

pub zipped-fits : (extend : Bool) (node : ℕ) (ks : List DataType) (cs : List Column) → ColumnsFit ks cs → AllByRecursion (FitsKinds ks) (zipped extend node cs).rows
zipped-fits extend node ks cs f = before-fault ks (aligned extend node cs).rows (aligned-fits extend node ks cs f)

-- cell by cell
cell-fits : (ks : List DataType) (k : DataType) (f : List Value → Cell) → ((vs : List Value) → FitsKinds ks vs → CellFits k (f vs)) → (row : List Cell) → CellsFit ks row → CellFits k (cell_of_row f row)
cell-fits ks k f each row fits = by (row_causes row) refl
  where
    by : (cs : List Cause) → row_causes row ≡ cs → CellFits k (faulty_or cs (f (cell_values row)))
    by [] e = each (cell_values row) (values-fit ks row fits e)
    by (x ∷ xs) e = tt

pub cellwise-fits : (node : ℕ) (ks : List DataType) (k : DataType) (f : List Value → Cell) (cs : List Column) → ((vs : List Value) → FitsKinds ks vs → CellFits k (f vs)) → ColumnsFit ks cs → ColumnFits k (cellwise node f cs)
cellwise-fits node ks k f cs each fits = all-map (CellsFit ks) (CellFits k) (cell_of_row f) (cell-fits ks k f each) (aligned false node cs).rows (aligned-fits false node ks cs fits)

-- the values of a column
pub column-values : (k : DataType) (cells : List Cell) → AllByRecursion (CellFits k) cells → AllByRecursion (Fits k) (cell_values cells)
column-values k [] f = tt
column-values k (value v ∷ cells) f = (f.0, column-values k cells f.1)
column-values k (faulty c cs ∷ cells) f = column-values k cells f.1

abbrev pub AllFit : List DataType → List (List Value) → Type 0
AllFit [] [] = ⊤
AllFit (k ∷ ks) (vs ∷ vss) = AllByRecursion (Fits k) vs × AllFit ks vss
AllFit _ _ = ⊥

columns-values : (ks : List DataType) (cs : List Column) → ColumnsFit ks cs → AllFit ks (map (λ (c : Column). cell_values c.cells) cs)
columns-values [] [] f = tt
columns-values [] (c ∷ cs) f = absurd f
columns-values (k ∷ ks) [] f = absurd f
columns-values (k ∷ ks) (c ∷ cs) f = (column-values k c.cells f.0, columns-values ks cs f.1)

pub from_whole-fits : (ks : List DataType) (k : DataType) (f : List (List Value) → Column) (cs : List Column) → ((vss : List (List Value)) → AllFit ks vss → ColumnFits k (f vss)) → ColumnsFit ks cs → ColumnFits k (from_whole f cs)
from_whole-fits ks k f cs each fits = by (list_any has_cause cs)
  where
    by : (b : Bool) → ColumnFits k (if b then record { cells = []; broken = flat_map column_causes cs; lost = flat_map (λ c. c.lost) cs } else record (f (map (λ c. cell_values c.cells) cs)) { lost = flat_map (λ c. c.lost) cs })
    by true = tt
    by false = each (map (λ (c : Column). cell_values c.cells) cs) (columns-values ks cs fits)

pub values-whole : (k : DataType) (vs : List Value) → AllByRecursion (Fits k) vs → ColumnFits k (whole_column vs)
values-whole k vs f = all-map (Fits k) (CellFits k) value (λ v h. h) vs f
