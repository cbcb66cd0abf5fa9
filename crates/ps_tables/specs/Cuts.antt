-- The rows of a slice of a list.
use Rattle.std.specs.Prelude.{ℕ, ◌+◌, ◌-◌, ℤ, pos, negsuc, List, length, take, drop, None, Some}
use Rattle.ps_meaning.specs.Steps.{Cut}

-- where the rows of a slice begin among so many; an offset below 0 counts from the end
abbrev pub start_at : ℤ → ℕ → ℕ
start_at (pos offset) count = offset
start_at (negsuc k) count = count - (k + 1)

-- where they end, which may be behind the last row
abbrev pub end_at : ℤ → ℕ → ℕ → ℕ
end_at (pos offset) n count = offset + n
end_at (negsuc k) n count = count + n - (k + 1)

-- the same where there may be no slice: then these are all rows
abbrev pub cut_start : Cut → ℕ → ℕ
cut_start None count = 0
cut_start (Some s) count = start_at s.0 count

abbrev pub cut_end : Cut → ℕ → ℕ
cut_end None count = count
cut_end (Some s) count = end_at s.0 s.1 count

-- the rows of a slice
abbrev pub cut_rows : {A : Type 0} → Cut → List A → List A
cut_rows cut rows = drop (cut_start cut (length rows)) (take (cut_end cut (length rows)) rows)
