-- The slice of a whole table.
use Rattle.std.proofs.Common.{◌≡◌, ℕ, suc, ℤ, pos, negsuc, ◌+◌, ◌-◌, ◌^◌, ◌<◌, ◌≤◌, ◌⊎◌, List, [], Bool, true, false, min, take, drop, length, refl, sym, ◌∙◌, ap, arith, inl, inr}
use Rattle.std.specs.Prelude.{None, Some, map, if◌then◌else◌, nat_eq, nat_le, ◌||◌, ◌<ℤ◌, ◌≤ℤ◌, unsigned_abs}
use Rattle.std.proofs.lemmas.Bool.{cases_lt, eqb-true}
use Rattle.std.proofs.lemmas.Int.{ints}
use Rattle.std.proofs.lemmas.List.{drop-map, length-drop, length-map, length-take, take-map, take_all}
use Rattle.ps_frame.proofs.Lists.{drop-take_sub}
use Rattle.ps_frame.specs.Aggregates.{max_rows}
use Rattle.ps_frame.specs.Causes.{Cause}
use Rattle.ps_frame.specs.Tables.{Fields, Frame, Table, no_rows, whole}
use Rattle.ps_frame.specs.declared.value.Value.{Value}
use Rattle.std.specs.List.{AllByRecursion}
use Rattle.ps_meaning.proofs.Fits.{all-drop, all-take}
use Rattle.ps_meaning.specs.Cases.{cut_at, cut_by, cut_from_end, cut_table, end_of, rows_from_end, rows_table}
use Rattle.ps_meaning.specs.Steps.{Cut}
use Rattle.ps_tables.specs.Cuts.{cut_end, cut_rows, cut_start, end_at, start_at}

abbrev pub table : Fields → List (List Value) → List Cause → Table
table s rows broken = record { schema = s; rows = rows; broken = broken }

-- what breaks a whole table after its slice
none-after : (b : Bool) → (if b then [] else []) ≡ let cs : List Cause = [] in cs
none-after true = refl
none-after false = refl

-- all rows, however many more are asked for
all-rows : (n m : ℕ) (rows : List (List Value)) → length rows ≤ n → length rows ≤ m → take n rows ≡ take m rows
all-rows n m rows h k = take_all n rows h ∙ sym (take_all m rows k)

-- so many rows from a place on are those before their end, also where the end is clipped behind the last row
rows-before : (o n m : ℕ) (rows : List (List Value)) → length rows ≤ m → take n (drop o rows) ≡ drop o (take (min (o + n) m) rows)
rows-before o n m rows few = by (cases_lt m (o + n)) ∙ sym (drop-take_sub o (min (o + n) m) rows)
  where
    left : length (drop o rows) ≡ length rows - o
    left = length-drop o rows

    by : (m < o + n) ⊎ (o + n ≤ m) → take n (drop o rows) ≡ take (min (o + n) m - o) (drop o rows)
    by (inl long) = all-rows n (min (o + n) m - o) (drop o rows) (omega (arith, left)) (omega (arith, left))
    by (inr short) = let is : n ≡ min (o + n) m - o = omega arith in ap (λ k. take k (drop o rows)) is

cut-from-start : (t p : Frame) (o n : ℕ) → length t.rows ≤ max_rows → p.schema ≡ t.schema → p.rows ≡ take n (drop o t.rows) → whole p ≡ cut_table o n (whole t)
cut-from-start t p o n few schema rows =
    let below : length t.rows ≤ 2 ^ 64 - 1 = omega arith in
    let same : p.rows ≡ drop o (take (end_of o n) t.rows) = rows ∙ rows-before o n (2 ^ 64 - 1) t.rows below in
    λ i. table (schema i) (same i) (sym (none-after (nat_eq n 0 || nat_le (end_of o n) (length t.rows))) i)

-- rows between two places that are counted from the end
rows-from-end : (back n start count : ℕ) (rows : List (List Value)) → start ≡ length rows - back → start + count ≡ length rows + n - back → take count (drop start rows) ≡ rows_from_end back n rows
rows-from-end back n start count rows from to =
    let many : count ≡ length rows + n - back - start = omega arith in
    ap (λ k. take k (drop start rows)) many ∙ sym (drop-take_sub start (length rows + n - back) rows) ∙ ap (λ k. drop k (take (length rows + n - back) rows)) from

no-rows-from-end : (back n : ℕ) (rows : List (List Value)) → n ≡ 0 → rows_from_end back n rows ≡ []
no-rows-from-end back n rows none =
    let nothing : length rows + n - back - (length rows - back) ≡ 0 = omega arith in
    drop-take_sub (length rows - back) (length rows + n - back) rows ∙ ap (λ k. take k (drop (length rows - back) rows)) nothing

cut-from-end : (t p : Frame) (back n : ℕ) → p.schema ≡ t.schema → p.rows ≡ rows_from_end back n t.rows → whole p ≡ cut_from_end back n (whole t)
cut-from-end t p back n schema rows = by (nat_eq n 0) refl
  where
    by : (b : Bool) → nat_eq n 0 ≡ b → whole p ≡ (if b then no_rows t.schema [] else rows_table t.schema (rows_from_end back n t.rows))
    by true e = let none : p.rows ≡ [] = rows ∙ no-rows-from-end back n t.rows (eqb-true n 0 e) in λ i. table (schema i) (none i) []
    by false e = λ i. table (schema i) (rows i) []

-- the rows between the bounds of a slice are the slice
pub part-is-cut : (t p : Frame) (offset : ℤ) (n start count height : ℕ) → height ≡ length t.rows → height ≤ max_rows → (pos 0 ≤ℤ offset → (pos start ≡ offset) × (count ≡ n))
    → (offset <ℤ pos 0 → (start ≡ height - unsigned_abs offset) × (start + count ≡ height + n - unsigned_abs offset)) → p.schema ≡ t.schema → p.rows ≡ take count (drop start t.rows)
    → whole p ≡ cut_at offset n (whole t)
part-is-cut t p (pos o) n start count height all few front back schema rows =
    let bounds = front (omega (arith, ints)) in
    let starts : pos start ≡ pos o = bounds.0 in
    let from : start ≡ o = cc in
    let some : length t.rows ≤ max_rows = omega arith in
    cut-from-start t p o n some schema (rows ∙ ap (λ k. take k (drop start t.rows)) bounds.1 ∙ ap (λ k. take n (drop k t.rows)) from)
part-is-cut t p (negsuc k) n start count height all few front back schema rows =
    let bounds = back (omega (arith, ints)) in
    let starts : start ≡ height - suc k = bounds.0 in
    let ends : start + count ≡ height + n - suc k = bounds.1 in
    let from : start ≡ length t.rows - (k + 1) = omega arith in
    let to : start + count ≡ length t.rows + n - (k + 1) = omega arith in
    cut-from-end t p (k + 1) n schema (rows ∙ rows-from-end (k + 1) n start count t.rows from to)

-- the bounds of a slice are where its rows begin and end
pub span-is : (offset : ℤ) (n start count height : ℕ) → (pos 0 ≤ℤ offset → (pos start ≡ offset) × (count ≡ n)) → (offset <ℤ pos 0 → (start ≡ height - unsigned_abs offset) × (start + count ≡ height + n - unsigned_abs offset))
    → (start ≡ start_at offset height) × (start + count ≡ end_at offset n height)
span-is (pos o) n start count height front back =
    let bounds = front (omega (arith, ints)) in
    let starts : pos start ≡ pos o = bounds.0 in
    let from : start ≡ o = cc in
    let many : count ≡ n = bounds.1 in
    (from, omega (arith, from, many))
span-is (negsuc k) n start count height front back =
    let bounds = back (omega (arith, ints)) in
    let starts : start ≡ height - suc k = bounds.0 in
    let ends : start + count ≡ height + n - suc k = bounds.1 in
    (omega (arith, starts), omega (arith, ends))

-- the rows of a slice of a whole table are those of its slice
rows-cut-at : (t p : Frame) (offset : ℤ) (n : ℕ) → length t.rows ≤ max_rows → p.schema ≡ t.schema → p.rows ≡ drop (start_at offset (length t.rows)) (take (end_at offset n (length t.rows)) t.rows) → whole p ≡ cut_at offset n (whole t)
rows-cut-at t p (pos o) n few schema rows =
    let many : o + n - o ≡ n = omega arith in
    cut-from-start t p o n few schema (rows ∙ drop-take_sub o (o + n) t.rows ∙ ap (λ k. take k (drop o t.rows)) many)
rows-cut-at t p (negsuc k) n few schema rows = cut-from-end t p (k + 1) n schema rows

pub cut-is : (cut : Cut) (t p : Frame) → length t.rows ≤ max_rows → p.schema ≡ t.schema → p.rows ≡ cut_rows cut t.rows → whole p ≡ cut_by cut (whole t)
cut-is None t p few schema rows = let all : p.rows ≡ t.rows = rows ∙ take_all (length t.rows) t.rows (omega arith) in λ i. table (schema i) (all i) []
cut-is (Some (offset, n)) t p few schema rows = rows-cut-at t p offset n few schema rows

-- a slice goes with what is done to each row, and holds no other rows
pub cut-map : {A B : Type 0} (f : A → B) (cut : Cut) (rows : List A) → cut_rows cut (map f rows) ≡ map f (cut_rows cut rows)
cut-map f cut rows =
    ap (λ n. drop (cut_start cut n) (take (cut_end cut n) (map f rows))) (length-map rows f)
    ∙ ap (drop (cut_start cut (length rows))) (take-map f (cut_end cut (length rows)) rows)
    ∙ drop-map f (cut_start cut (length rows)) (take (cut_end cut (length rows)) rows)

pub cut-few : {A : Type 0} (cut : Cut) (rows : List A) → length (cut_rows cut rows) ≤ length rows
cut-few cut rows =
    let front = length-take (cut_end cut (length rows)) rows in
    let rest = length-drop (cut_start cut (length rows)) (take (cut_end cut (length rows)) rows) in
    omega (arith, front, rest)

pub cut-all : {A : Type 0} (P : A → Type 0) (cut : Cut) (rows : List A) → AllByRecursion P rows → AllByRecursion P (cut_rows cut rows)
cut-all P cut rows all = all-drop P (cut_start cut (length rows)) (take (cut_end cut (length rows)) rows) (all-take P (cut_end cut (length rows)) rows all)
