-- Tables that are put together, and how many rows they have.
use Rattle.std.proofs.Common.{◌≡◌, ℕ, ◌+◌, ◌-◌, ◌<◌, ◌≤◌, ◌^◌, Bool, true, false, List, [], ◌∷◌, ◌++◌, length, take, get_or, refl, sym, ap, ◌∙◌, arith}
use Rattle.std.specs.Prelude.{min, nat_lt}
use Rattle.std.proofs.lemmas.Bool.{le-ltb, lt-ltb, ltb-false, ltb-true}
use Rattle.kept_tables.proofs.LastTables.{counted_more, rows_more}
use Rattle.node_work.specs.Stored.{rows_in}
use Rattle.ps_frame.specs.Aggregates.{max_rows}
use Rattle.ps_frame.specs.Tables.{Fields, Frame}

-- one table more
pub one_more : (s : Fields) (b c : Frame) (fs : List Frame) (i : ℕ) (t : Frame) → i < length fs → t ≡ get_or fs i t → b ≡ record { schema = s; rows = rows_in (take i fs) } → c ≡ record { schema = b.schema; rows = b.rows ++ t.rows } → c ≡ record { schema = s; rows = rows_in (take (i + 1) fs) }
one_more s b c fs i t there is before added =
    added
    ∙ (λ j. record { schema = (before j).schema; rows = (before j).rows ++ (is j).rows })
    ∙ ap (λ rs. record { schema = s; rows = rs }) (sym (rows_more fs i t there))

-- the count of rows, up to a limit
pub count_more : (limit n h m : ℕ) (fs : List Frame) (f : Frame) → n ≡ min (length (rows_in fs)) limit → h ≡ length f.rows → m ≡ min (n + h) limit → m ≡ min (length (rows_in (fs ++ f ∷ []))) limit
count_more limit n h m fs f counted tall is = let more : length (rows_in (fs ++ f ∷ [])) ≡ length (rows_in fs) + length f.rows = counted_more fs f in omega arith

-- a count up to a limit passes what a table may have where the number itself does
pub passes_alike : (n : ℕ) → nat_lt max_rows (min n (2 ^ 64 - 1)) ≡ nat_lt max_rows n
passes_alike n = by (nat_lt max_rows n) refl
  where
    by : (b : Bool) → nat_lt max_rows n ≡ b → nat_lt max_rows (min n (2 ^ 64 - 1)) ≡ nat_lt max_rows n
    by true e = let more : max_rows < n = ltb-true max_rows n e in lt-ltb max_rows (min n (2 ^ 64 - 1)) (omega arith) ∙ sym e
    by false e = let few : n ≤ max_rows = ltb-false max_rows n e in le-ltb max_rows (min n (2 ^ 64 - 1)) (omega arith) ∙ sym e
