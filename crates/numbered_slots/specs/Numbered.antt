-- What a contract sees of numbered slots: the number of the first one, and what stands in each.
use Rattle.std.specs.Prelude.{◌≡◌, ℕ, ◌+◌, ◌-◌, ◌≤◌, Bool, false, List, [], ◌∷◌, ◌++◌, Option, Some, None, is_some, slice_get, slice_set}

-- At place k stands what came under the number next + k, or nothing where that is still to come.
pub record Numbered (T : Type 0) : Type 0 where
  pub next : ℕ
  pub slots : List (Option T)

module _ {T : Type 0} where
  -- the first slot holds something
  abbrev pub begins : List (Option T) → Bool
  begins [] = false
  begins (slot ∷ slots) = is_some slot

  -- what the first slot holds
  abbrev pub front : List (Option T) → Option T
  front [] = None
  front (slot ∷ slots) = slot

  -- how many slots hold something
  abbrev pub there : List (Option T) → ℕ
  there [] = 0
  there (None ∷ slots) = there slots
  there (Some x ∷ slots) = there slots + 1

  -- a number was given, and nothing came under it
  abbrev pub IsAwaited : Numbered T → ℕ → Type 0
  IsAwaited s number = (s.next ≤ number) × (slice_get s.slots (number - s.next) ≡ Some None)

  abbrev pub with_place : Numbered T → Numbered T
  with_place s = record s { slots = s.slots ++ None ∷ [] }

  abbrev pub with_item : ℕ → T → Numbered T → Numbered T
  with_item number x s = record s { slots = slice_set s.slots (number - s.next) (Some x) }

  abbrev pub with_last : T → Numbered T → Numbered T
  with_last x s = record s { slots = s.slots ++ Some x ∷ [] }
