use Rattle.column_keeps.proofs.Columns.{further_columns_keep}
use Rattle.column_keeps.proofs.laws.further_columns_are_kept.Goals as goal

pub returns : goal.returns
returns c = further_columns_keep
