-- What a negative slice keeps of its input: the last morsels, which hold the rows that it may give, and the count of all rows.
use Rattle.std.specs.Prelude.{◌≡◌, ℕ, ◌+◌, ◌-◌, ◌<◌, ◌≤◌, ◌⊎◌, cond, List, [], ◌∷◌, ◌++◌, length, take, drop, nat_le, ⊤}
use Rattle.ps_frame.specs.Tables.{Row}
use Rattle.ps_turns.specs.Heads.{stored_rows}

-- the first morsel goes while the others have as many rows as the slice looks back on
abbrev pub last_kept : (back : ℕ) → List (List Row) → List (List Row)
last_kept back [] = []
last_kept back (m ∷ ms) = cond (nat_le back (length (stored_rows ms))) (last_kept back ms) (m ∷ ms)

-- where so many rows came and these are the last: those from so many before the end on, as many as asked
abbrev pub rows_at_end : (back n count : ℕ) → List Row → List Row
rows_at_end back n count rs = let lost = count - length rs in drop (count - back - lost) (take (count + n - back - lost) rs)

-- without its first morsel a store has fewer rows than the slice looks back on
abbrev pub IsShort : (back : ℕ) → List (List Row) → Type 0
IsShort back [] = ⊤
IsShort back (m ∷ ms) = length (stored_rows ms) < back

-- The local invariant of a store, where these rows came: it has the last of them, all or enough, and their count is known.
pub record HoldsEnd (back : ℕ) (came : List Row) (count : ℕ) (store : List (List Row)) : Type 0 where
  pub gone : List Row
  pub splits : gone ++ stored_rows store ≡ came
  pub counted : count ≡ length came
  pub enough : (gone ≡ []) ⊎ (back ≤ length (stored_rows store))
  pub short : IsShort back store
