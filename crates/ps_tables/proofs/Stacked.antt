-- The rows of tables, one table after the other.
use Rattle.std.proofs.Common.{◌≡◌, ◌≢◌, ℕ, zero, suc, ◌+◌, ◌-◌, ◌^◌, ◌<◌, ◌≤◌, min, List, [], ◌∷◌, ◌++◌, length, take, get_or, refl, sym, ap, subst, ◌∙◌, inl, inr, add-one, append_assoc, length-append, arith}
use Rattle.std.specs.Prelude.{Some, map, option_map, slice_get}
use Rattle.std.specs.List.{AllByRecursion}
use Rattle.std.proofs.Math.Seq.{take-suc}
use Rattle.std.proofs.lemmas.List.{append-nil, map-append}
use Rattle.std.proofs.lemmas.Option.{same_Some}
use Rattle.ps_frame.specs.Aggregates.{max_rows}
use Rattle.ps_frame.specs.Frames.{HasKinds, IsFrame, column_values, kinds_of}
use Rattle.ps_frame.specs.Functions.{Functions}
use Rattle.ps_frame.specs.Lawful.{FitsFrame, FitsKinds}
use Rattle.ps_frame.specs.Tables.{Fields, Frame, rows_of, values_at, whole}
use Rattle.ps_frame.specs.Series.{Series}
use Rattle.ps_frame.specs.Zip.{below}
use Rattle.ps_frame.specs.declared.refusal.Bound.TheVariants as bound
use Rattle.ps_frame.specs.declared.refusal.PolarsError.TheVariants as error
use Rattle.ps_frame.specs.declared.value.DataFault.TheVariants as fault
use Rattle.ps_frame.specs.declared.value.DataType.{DataType}
use Rattle.ps_frame.specs.declared.value.Value.{Value}
use Rattle.ps_frame.specs.declared.value.Value.TheVariants as val
use Rattle.ps_meaning.specs.Cases.{cut_by, union_rows}
use Rattle.ps_meaning.specs.Distinct.{picked}
use Rattle.ps_meaning.specs.Nodes.{GivesFrame, MayFault, wholes}
use Rattle.ps_meaning.specs.Steps.{Cut, union}
use Rattle.ps_meaning.proofs.Fits.{all-append}
use Rattle.ps_meaning.proofs.OneInput.{fits-length, places-all}
use Rattle.ps_tables.specs.Columns.{all_rows}
use Rattle.ps_tables.proofs.Cuts.{table}
use Rattle.ps_tables.proofs.Projected.{columns_at, heights-at, rows-picked}

-- what holds of all items holds of the item at a place
pub all-at : {A : Type 0} (P : A → Type 0) (xs : List A) (i : ℕ) (x : A) → AllByRecursion P xs → i < length xs → x ≡ get_or xs i x → P x
all-at P [] i x p h is = absurd (omega arith)
all-at P (y ∷ xs) zero x p h is = subst P (sym is) p.0
all-at P (y ∷ xs) (suc i) x p h is = all-at P xs i x p.1 (omega arith) is

all_rows-append : (fs gs : List Frame) → all_rows (fs ++ gs) ≡ all_rows fs ++ all_rows gs
all_rows-append [] gs = refl
all_rows-append (f ∷ fs) gs = ap (λ rows. f.rows ++ rows) (all_rows-append fs gs) ∙ sym (append_assoc f.rows (all_rows fs) (all_rows gs))

-- the rows of one more table
pub all_rows-more : (fs : List Frame) (i : ℕ) (f : Frame) → i < length fs → f ≡ get_or fs i f → all_rows (take (i + 1) fs) ≡ all_rows (take i fs) ++ f.rows
all_rows-more fs i f h is =
    rw add-one (ap all_rows (take-suc fs i f h ∙ ap (λ g. take i fs ++ g ∷ []) (sym is)) ∙ all_rows-append (take i fs) (f ∷ []) ∙ ap (λ rows. all_rows (take i fs) ++ rows) (append-nil f.rows))

pub total-step : (fs : List Frame) (i : ℕ) (f : Frame) (height new : ℕ) → i < length fs → f ≡ get_or fs i f → height ≡ min (length (all_rows (take i fs))) (2 ^ 64 - 1) → new ≡ min (height + length f.rows) (2 ^ 64 - 1)
    → new ≡ min (length (all_rows (take (i + 1) fs))) (2 ^ 64 - 1)
total-step fs i f height new h is before after = let e = ap length (all_rows-more fs i f h is) ∙ length-append (all_rows (take i fs)) f.rows in omega arith

-- the values at a place, with those of one more table
pub values-more : (k : ℕ) (fs : List Frame) (i : ℕ) (f : Frame) → i < length fs → f ≡ get_or fs i f → values_at k (all_rows (take (i + 1) fs)) ≡ values_at k (all_rows (take i fs)) ++ values_at k f.rows
values-more k fs i f h is = ap (values_at k) (all_rows-more fs i f h is) ∙ map-append (λ row. get_or row k val.Null) (all_rows (take i fs)) f.rows

at-most : (fs : List Frame) (i : ℕ) (f : Frame) → i < length fs → f ≡ get_or fs i f → length f.rows ≤ length (all_rows fs)
at-most [] i f h is = absurd (omega arith)
at-most (g ∷ fs) zero f h is = let e = length-append g.rows (all_rows fs) in let same = ap (λ (t : Frame). length t.rows) is in omega arith
at-most (g ∷ fs) (suc i) f h is = let e = length-append g.rows (all_rows fs) in let rest = at-most fs i f (omega arith) is in omega arith

no-items : {A : Type 0} (xs : List A) → length xs ≡ 0 → xs ≡ []
no-items [] e = refl
no-items (x ∷ xs) e = cc

-- a table that has as many rows as all has all of them
pub has-all : (fs : List Frame) (i : ℕ) (f : Frame) → i < length fs → f ≡ get_or fs i f → length f.rows ≡ length (all_rows fs) → f.rows ≡ all_rows fs
has-all [] i f h is e = absurd (omega arith)
has-all (g ∷ fs) zero f h is e =
    let same = ap (λ (t : Frame). t.rows) is in
    let lengths = length-append g.rows (all_rows fs) in
    let same_length = ap length same in
    let none = no-items (all_rows fs) (omega arith) in
    same ∙ sym (append-nil g.rows) ∙ ap (λ rows. g.rows ++ rows) (sym none)
has-all (g ∷ fs) (suc i) f h is e =
    let lengths = length-append g.rows (all_rows fs) in
    let most = at-most fs i f (omega arith) is in
    let none = no-items g.rows (omega arith) in
    has-all fs i f (omega arith) is (omega arith) ∙ ap (λ rows. rows ++ all_rows fs) (sym none)

-- the rows of tables of one schema fit it
pub rows-fit : (s : Fields) (fs : List Frame) → AllByRecursion (λ (f : Frame). f.schema ≡ s) fs → AllByRecursion FitsFrame fs → AllByRecursion (FitsKinds (kinds_of s)) (all_rows fs)
rows-fit s [] e p = tt
rows-fit s (f ∷ fs) e p =
    all-append (FitsKinds (kinds_of s)) f.rows (all_rows fs) (subst (λ (s : Fields). AllByRecursion (FitsKinds (kinds_of s)) f.rows) e.0 p.0) (rows-fit s fs e.1 p.1)

pub places-in-all : (s : Fields) (fs : List Frame) (i : ℕ) → AllByRecursion (λ (f : Frame). f.schema ≡ s) fs → i < length s → AllByRecursion (λ (f : Frame). i < length f.schema) fs
places-in-all s [] i e h = tt
places-in-all s (f ∷ fs) i e h = (subst (λ n. i < n) (sym (ap length e.0)) h, places-in-all s fs i e.1 h)

kind-at : (s : Fields) (i : ℕ) (k : DataType) → option_map (λ (f : List ℕ × DataType). f.1) (slice_get s i) ≡ Some k → slice_get (kinds_of s) i ≡ Some k
kind-at [] i k e = cc
kind-at (f ∷ s) zero k e = e
kind-at (f ∷ s) (suc i) k e = kind-at s i k e

-- the kind at a place is that of each table
pub kinds-in-all : (s : Fields) (fs : List Frame) (i : ℕ) (k : DataType) → AllByRecursion (λ (f : Frame). f.schema ≡ s) fs → option_map (λ (f : List ℕ × DataType). f.1) (slice_get s i) ≡ Some k → AllByRecursion (λ (f : Frame). slice_get (kinds_of f.schema) i ≡ Some k) fs
kinds-in-all s [] i k e h = tt
kinds-in-all s (f ∷ fs) i k e h = (ap (λ s. slice_get (kinds_of s) i) e.0 ∙ kind-at s i k h, kinds-in-all s fs i k e.1 h)

-- one more kind
kinds-more : (s : Fields) (i : ℕ) (k : DataType) → option_map (λ (f : List ℕ × DataType). f.1) (slice_get s i) ≡ Some k → kinds_of (take (suc i) s) ≡ kinds_of (take i s) ++ k ∷ []
kinds-more [] i k e = cc
kinds-more (f ∷ s) zero k e = ap (λ j. j ∷ []) (same_Some f.1 k e)
kinds-more (f ∷ s) (suc i) k e = ap (λ ks. f.1 ∷ ks) (kinds-more s i k e)

pub kinds-push : (s : Fields) (i : ℕ) (c : Series) (cs new : List Series) (k : DataType) → HasKinds (take i s) cs → option_map (λ (f : List ℕ × DataType). f.1) (slice_get s i) ≡ Some k → c.kind ≡ k → new ≡ cs ++ c ∷ [] → HasKinds (take (i + 1) s) new
kinds-push s i c cs new k before e is grown =
    rw add-one (ap (map (λ (c : Series). c.kind)) grown ∙ map-append (λ (c : Series). c.kind) cs (c ∷ []) ∙ (λ j. before j ++ is j ∷ []) ∙ sym (kinds-more s i k e))

pub columns-push : (rows : List (List Value)) (i : ℕ) (c : Series) (cs new : List Series) → column_values cs ≡ columns_at rows (below i) → c.values ≡ values_at i rows → new ≡ cs ++ c ∷ [] → column_values new ≡ columns_at rows (below (i + 1))
columns-push rows i c cs new before is grown =
    rw add-one (ap column_values grown ∙ map-append (λ (c : Series). c.values) cs (c ∷ []) ∙ (λ j. before j ++ is j ∷ []) ∙ sym (map-append (λ k. values_at k rows) (below i) (i ∷ [])))

-- rows that fit are those of their columns
picked-all : (s : Fields) (rows : List (List Value)) → AllByRecursion (FitsKinds (kinds_of s)) rows → map (picked (below (length s))) rows ≡ rows
picked-all s [] p = refl
picked-all s (row ∷ rows) p =
    let same : picked (below (length s)) row ≡ row = ap (λ n. picked (below n) row) (sym (fits-length s row p.0)) ∙ places-all row val.Null in
    λ i. same i ∷ picked-all s rows p.1 i

-- The columns of tables of one schema.
module _ (s : Fields) (fs : List Frame) (cs : List Series) (h : ℕ) (high : h ≡ length (all_rows fs)) (values : column_values cs ≡ columns_at (all_rows fs) (below (length s))) where
  pub joined-frame : h ≤ max_rows → HasKinds s cs → IsFrame s cs h
  joined-frame few kinds = record { kinds = kinds; heights = heights-at (all_rows fs) (below (length s)) cs h high values; small = few }

  pub joined-rows : AllByRecursion (λ (f : Frame). f.schema ≡ s) fs → AllByRecursion FitsFrame fs → rows_of h (column_values cs) ≡ all_rows fs
  joined-rows alike fit = (λ i. rows_of (high i) (values i)) ∙ rows-picked (all_rows fs) (below (length s)) ∙ picked-all s (all_rows fs) (rows-fit s fs alike fit)

-- the union of whole tables
union-rows : (fs : List Frame) → ((union_rows (wholes fs)).rows ≡ all_rows fs) × ((union_rows (wholes fs)).broken ≡ [])
union-rows [] = (refl, refl)
union-rows (f ∷ fs) = let rest = union-rows fs in (ap (λ rows. f.rows ++ rows) rest.0, rest.1)

module _ (F : Functions) (at : ℕ) (slice : Cut) where
  pub union-gives : (s : Fields) (fs : List Frame) (df f : Frame) → fs ≢ [] → AllByRecursion (λ (f : Frame). f.schema ≡ s) fs → df.schema ≡ s → df.rows ≡ all_rows fs → whole f ≡ cut_by slice (whole df) → GivesFrame F at (union slice) fs f
  union-gives s [] df f some alike schema rows cut = absurd (some refl)
  union-gives s (g ∷ fs) df f some alike schema rows cut =
      (whole df, inl (λ i. table ((schema ∙ sym alike.0) i) ((rows ∙ sym (union-rows (g ∷ fs)).0) i) (sym (union-rows (g ∷ fs)).1 i)), cut)

  pub union-faults : (fs : List Frame) → max_rows < length (all_rows fs) → MayFault F at (union slice) fs (error.OutOfBounds (record { 0 = at }) bound.Rows)
  union-faults fs many = inr (fault.Rows, refl, inr (refl, inr (_, inl refl, subst (λ n. max_rows < n) (sym (ap length (union-rows fs).0)) many)))
