-- Tables of which the first go, and their rows together.
use Rattle.std.proofs.Common.{◌≡◌, ℕ, zero, suc, ◌+◌, ◌-◌, ◌<◌, ◌≤◌, List, [], ◌∷◌, ◌++◌, cond, length, take, drop, get_or, refl, sym, ap, ◌∙◌, arith, append_assoc, append-nil, add-one, length-append}
use Rattle.std.proofs.lemmas.Bool.{le-leb, lt-leb}
use Rattle.ps_frame.proofs.Lists.{drop-take_sub}
use Rattle.ps_frame.specs.Tables.{Frame, Row}
use Rattle.kept_tables.specs.Kept.{rows_of_each}
use Rattle.ps_turns.specs.Ends.{last_kept, rows_at_end}
use Rattle.ps_turns.specs.Heads.{stored_rows}

abbrev pub row_count : List Frame → ℕ
row_count fs = length (stored_rows (rows_of_each fs))

-- the first table, and those behind it
pub first_of : (fs : List Frame) (d : Frame) → 0 < length fs → fs ≡ get_or fs 0 d ∷ drop 1 fs
first_of [] d some = absurd (omega arith)
first_of (f ∷ fs) d some = refl

pub counted_first : (fs : List Frame) (d : Frame) → 0 < length fs → row_count fs ≡ length (get_or fs 0 d).rows + row_count (drop 1 fs)
counted_first [] d some = absurd (omega arith)
counted_first (f ∷ fs) d some = length-append f.rows (stored_rows (rows_of_each fs))

-- the first goes
pub goes : (back : ℕ) (fs : List Frame) → 0 < length fs → back ≤ row_count (drop 1 fs) → last_kept back (rows_of_each fs) ≡ last_kept back (rows_of_each (drop 1 fs))
goes back [] some enough = absurd (omega arith)
goes back (f ∷ fs) some enough = ap (λ b. cond b (last_kept back (rows_of_each fs)) (f.rows ∷ rows_of_each fs)) (le-leb back (row_count fs) enough)

-- the first stays
pub stays : (back : ℕ) (fs : List Frame) → row_count (drop 1 fs) < back → last_kept back (rows_of_each fs) ≡ rows_of_each fs
stays back [] few = refl
stays back (f ∷ fs) few = ap (λ b. cond b (last_kept back (rows_of_each fs)) (f.rows ∷ rows_of_each fs)) (lt-leb back (row_count fs) few)

pub none_there : (back : ℕ) (fs : List Frame) → length fs ≡ 0 → last_kept back (rows_of_each fs) ≡ rows_of_each fs
none_there back [] none = refl
none_there back (f ∷ fs) none = absurd (omega arith)

-- one table more is gone
pub gone_more : (gone fs all : List Frame) (d : Frame) → 0 < length fs → gone ++ fs ≡ all → (gone ++ get_or fs 0 d ∷ []) ++ drop 1 fs ≡ all
gone_more gone fs all d some so_far = append_assoc gone (get_or fs 0 d ∷ []) (drop 1 fs) ∙ ap (λ xs. gone ++ xs) (sym (first_of fs d some)) ∙ so_far

-- the rows of one table more
pub rows_more : (fs : List Frame) (i : ℕ) (d : Frame) → i < length fs → stored_rows (rows_of_each (take (i + 1) fs)) ≡ stored_rows (rows_of_each (take i fs)) ++ (get_or fs i d).rows
rows_more fs i d there = ap (λ k. stored_rows (rows_of_each (take k fs))) (add-one i) ∙ from_first fs i d there
  where
    from_first : (fs : List Frame) (i : ℕ) (d : Frame) → i < length fs → stored_rows (rows_of_each (take (suc i) fs)) ≡ stored_rows (rows_of_each (take i fs)) ++ (get_or fs i d).rows
    from_first [] i d there = absurd (omega arith)
    from_first (f ∷ fs) zero d there = append-nil f.rows
    from_first (f ∷ fs) (suc i) d there = ap (λ rs. f.rows ++ rs) (from_first fs i d (omega arith)) ∙ sym (append_assoc f.rows (stored_rows (rows_of_each (take i fs))) (get_or fs i d).rows)

-- a slice from so many before the end, as a place and a number of rows
pub end_rows : (back n count start rows : ℕ) (rs : List Row) → start ≡ count - back - (count - length rs) → rows ≡ count + n - back - (count - length rs) - start → take rows (drop start rs) ≡ rows_at_end back n count rs
end_rows back n count start rows rs s r =
    ap (λ k. take k (drop start rs)) r
    ∙ sym (drop-take_sub start (count + n - back - (count - length rs)) rs)
    ∙ ap (λ k. drop k (take (count + n - back - (count - length rs)) rs)) s

-- the rows once a table was put behind the others
pub counted_more : (fs : List Frame) (f : Frame) → row_count (fs ++ f ∷ []) ≡ row_count fs + length f.rows
counted_more fs f = ap length (rows_behind fs) ∙ length-append (stored_rows (rows_of_each fs)) f.rows
  where
    rows_behind : (fs : List Frame) → stored_rows (rows_of_each (fs ++ f ∷ [])) ≡ stored_rows (rows_of_each fs) ++ f.rows
    rows_behind [] = append-nil f.rows
    rows_behind (g ∷ gs) = ap (λ rs. g.rows ++ rs) (rows_behind gs) ∙ sym (append_assoc g.rows (stored_rows (rows_of_each gs)) f.rows)

pub each_more : (fs : List Frame) (f : Frame) → rows_of_each (fs ++ f ∷ []) ≡ rows_of_each fs ++ f.rows ∷ []
each_more [] f = refl
each_more (g ∷ gs) f = ap (λ rs. g.rows ∷ rs) (each_more gs f)

-- ONE STEP OF LETTING GO
module _ (back left height : ℕ) (fs rest start : List Frame) (first : Frame) (some : 0 < length fs) (is : first ≡ get_or fs 0 first) (tall : height ≡ length first.rows) (behind : rest ≡ drop 1 fs) (counted : left ≡ row_count fs) where
  left_counted : left ≡ height + row_count rest
  left_counted = counted ∙ counted_first fs first some ∙ ap (λ f. length f.rows + row_count (drop 1 fs)) (sym is) ∙ ap (λ n. n + row_count (drop 1 fs)) (sym tall) ∙ ap (λ xs. height + row_count xs) (sym behind)

  pub step_counted : left - height ≡ row_count rest
  step_counted = let all = left_counted in omega arith

  pub step_kept : back ≤ left - height → last_kept back (rows_of_each start) ≡ last_kept back (rows_of_each fs) → last_kept back (rows_of_each start) ≡ last_kept back (rows_of_each rest)
  step_kept enough so_far =
      let all = left_counted in
      let same : row_count rest ≡ row_count (drop 1 fs) = ap row_count behind in
      so_far ∙ goes back fs some (omega arith) ∙ ap (λ xs. last_kept back (rows_of_each xs)) (sym behind)

  pub step_last : (gone : List Frame) → gone ++ fs ≡ start → (more : List Frame) × (more ++ rest ≡ start)
  step_last gone so_far = (gone ++ get_or fs 0 first ∷ [], ap (λ xs. (gone ++ get_or fs 0 first ∷ []) ++ xs) behind ∙ gone_more gone fs start first some so_far)

  pub step_stays : left - height < back → last_kept back (rows_of_each fs) ≡ rows_of_each fs
  step_stays few =
      let all = left_counted in
      let same : row_count rest ≡ row_count (drop 1 fs) = ap row_count behind in
      stays back fs (omega arith)
