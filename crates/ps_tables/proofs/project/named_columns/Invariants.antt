use Rattle.std.proofs.Common.{◌≡◌, take}
use Rattle.ps_frame.specs.Frames.{HasKinds, column_values}
use Rattle.ps_meaning.specs.Distinct.{places_in}
use Rattle.ps_tables.proofs.Projected.{columns_at}
use Rattle.ps_tables.proofs.project.named_columns.Given as goal

abbrev pub invariant-loop-name : goal.invariant-loop-name
invariant-loop-name l = record {
  kinds : HasKinds (take l.name-index l.schema) l.columns.items;
  values : column_values l.columns.items ≡ columns_at l.df.rows (places_in (take l.name-index l.names) l.df.schema);
}
