-- Fresh names: a counter, and the numbers whose names are in use.
use Rattle.std.specs.Prelude.{◌≡◌, ◌⊎◌, ◌↔◌, ℕ, zero, suc, ◌+◌, ◌^◌, ◌<◌, ◌==◌, Bool, List, ◌++◌, codes, decimal, length, IsTrue, if◌then◌else◌}
use Rattle.std.specs.List.{list_any}
use Rattle.std.specs.List.Sorted.{IsStrictlyIncreasing}
use Rattle.ps_meaning.specs.Steps.{Name}

-- the numbers whose names are in use, and the number from which the next fresh one is looked for: those below it are passed
pub record Names : Type 0 where
  pub taken : List ℕ
  pub next : ℕ

-- the name of a number: its decimal digits, without leading zeros, behind a word
abbrev pub temporary : ℕ → Name
temporary k = codes "__POLARS_STMP_" ++ decimal k

-- A name that a counter may give, at this number. The counter has 64 bits: the name of a larger number is none.
abbrev pub IsTemporary : ℕ → Name → Type 0
IsTemporary k name = (k < 2 ^ 64) × (name ≡ temporary k)

abbrev pub is_taken : ℕ → List ℕ → Bool
is_taken k taken = list_any (λ t. t == k) taken

-- the least number from k on that isn't taken; of as many as are taken, and one more, one is free
abbrev pub free_number : ℕ → List ℕ → ℕ → ℕ
free_number zero taken k = k
free_number (suc tries) taken k = if is_taken k taken then free_number tries taken (k + 1) else k

abbrev pub fresh_number : Names → ℕ
fresh_number names = free_number (length names.taken) names.taken names.next

abbrev pub fresh_name : Names → Name
fresh_name names = temporary (fresh_number names)

-- the names once the fresh one is in use
abbrev pub after_fresh : Names → Names
after_fresh names = record names { next = fresh_number names + 1 }

-- No fresh name will be this one: its number is taken or passed, or no counter gives it.
abbrev pub IsKnown : Names → Name → Type 0
IsKnown names name = (k : ℕ) → IsTemporary k name → (k < names.next) ⊎ IsTrue (is_taken k names.taken)

-- What is taken are the numbers of the temporary names in use, in rising order.
pub record Knows (names : Names) (InUse : Name → Type 0) : Type 0 where
  pub taken : (k : ℕ) → IsTrue (is_taken k names.taken) ↔ ((k < 2 ^ 64) × InUse (temporary k))
  pub rising : IsStrictlyIncreasing names.taken
