-- How a node that gives a table of its own cuts it into morsels.
use Rattle.std.specs.Prelude.{◌≡◌, ℕ, ◌⊎◌, ◌<◌, ◌≤◌}
use Rattle.ps_options.specs.declared.options.Options.{Options}

-- one worker and 100,000 rows a morsel, before it is told otherwise
pub record IsFirstCut (o : Options) : Type 0 where
  pub workers : o.workers ≡ 1
  pub morsel_rows : o.morsel_rows ≡ 100000
  pub partitions : o.partitions ≡ 1
  pub seed : o.seed ≡ 0

-- for so many workers, where options may have so many, and else as before
pub record IsCutFor (pieces : ℕ) (a b : Options) : Type 0 where
  pub told : 1 ≤ pieces → pieces ≤ 256 → b.workers ≡ pieces
  pub kept : (pieces < 1) ⊎ (256 < pieces) → b.workers ≡ a.workers
  pub morsel_rows : b.morsel_rows ≡ a.morsel_rows
  pub partitions : b.partitions ≡ a.partitions
  pub seed : b.seed ≡ a.seed
