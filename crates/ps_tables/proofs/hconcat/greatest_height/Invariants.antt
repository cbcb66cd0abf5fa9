use Rattle.std.proofs.Common.{◌≡◌, ◌≤◌, length, max, take}
use Rattle.std.specs.Prelude.{fold, map}
use Rattle.ps_frame.specs.Aggregates.{max_rows}
use Rattle.ps_frame.specs.Tables.{Frame}
use Rattle.ps_tables.proofs.hconcat.greatest_height.Given as goal

abbrev pub invariant-loop-df : goal.invariant-loop-df
invariant-loop-df l = record {
  greatest : l.height ≡ fold max 0 (map (λ (f : Frame). length f.rows) (take l.df-index l.inputs));
  few : l.height ≤ max_rows;
}
