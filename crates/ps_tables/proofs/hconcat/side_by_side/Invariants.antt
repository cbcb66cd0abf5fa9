use Rattle.std.proofs.Common.{◌≡◌, take}
use Rattle.std.specs.Prelude.{map}
use Rattle.ps_frame.specs.Frames.{HasKinds, column_values}
use Rattle.ps_frame.specs.Tables.{Frame}
use Rattle.ps_meaning.specs.Schemas.{joined_schemas}
use Rattle.ps_tables.specs.Columns.{all_values, filled}
use Rattle.ps_tables.proofs.hconcat.side_by_side.Given as goal

abbrev pub invariant-loop-df : goal.invariant-loop-df
invariant-loop-df l = record {
  kinds : HasKinds (joined_schemas (map (λ (f : Frame). f.schema) (take l.df-index l.inputs))) l.columns.items;
  values : column_values l.columns.items ≡ map (filled l.height) (all_values (take l.df-index l.inputs));
}
