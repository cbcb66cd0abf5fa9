-- What a contract sees of a journal.
use Rattle.std.specs.Prelude.{ℕ, List, count_by}
use Rattle.world_records.specs.Shown.{is_claimed, record_shown}
use Rattle.world_records.specs.declared.records.Record.{Record}

-- its records, and for how many more there is memory
pub record Written : Type 0 where
  pub records : List Record
  pub spare : ℕ

abbrev pub claims_of : List Record → ℕ
claims_of rs = count_by (λ r. is_claimed (record_shown r)) rs
