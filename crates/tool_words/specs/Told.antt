-- What the words that were read so far have set.
use Rattle.std.specs.Prelude.{◌≡◌, ◌≢◌, ℕ, ◌⊎◌, ◌↔◌, List, Option, Some, None, IsTrue, All, AllPairs, Contains}
use Rattle.tool_words.specs.Words.{Setting, Number, Serial, IsAllowed, flag_of, number_of}
use Rattle.tool_words.specs.declared.settings.Kind.{Kind}
use Rattle.tool_words.specs.declared.settings.Kind.TheVariants.{Workers, Rows, Partitions, Seed}
use Rattle.tool_words.specs.declared.settings.Told.{Told}

-- the number that is told for a kind, if any
abbrev pub told_at : Told → Kind → Option ℕ
told_at told Workers = told.workers
told_at told Rows = told.rows
told_at told Partitions = told.partitions
told_at told Seed = told.seed

-- the same is told, and that number for the kind
abbrev pub IsToldAlso : Told → Kind → ℕ → Told → Type 0
IsToldAlso told kind n after =
    ((other : Kind) → ((other ≡ kind) × (told_at after other ≡ Some n)) ⊎ ((other ≢ kind) × (told_at after other ≡ told_at told other)))
    × (after.serial ≡ told.serial)

-- the settings are allowed, and no two are by one flag
pub record MayStand (settings : List Setting) : Type 0 where
  pub allowed : All IsAllowed settings
  pub differ : AllPairs (λ s t. flag_of s ≢ flag_of t) settings

-- the number that the settings set for a kind, if any
abbrev pub IsSet : List Setting → Kind → Option ℕ → Type 0
IsSet settings kind None = (numeral : List ℕ) → ¬ Contains settings (Number kind numeral)
IsSet settings kind (Some n) = (numeral : List ℕ) × Contains settings (Number kind numeral) × (n ≡ number_of numeral)

-- what is told is what the settings set
pub record IsTold (told : Told) (settings : List Setting) : Type 0 where
  pub may_stand : MayStand settings
  pub numbers : (kind : Kind) → IsSet settings kind (told_at told kind)
  pub serial : IsTrue told.serial ↔ Contains settings Serial
