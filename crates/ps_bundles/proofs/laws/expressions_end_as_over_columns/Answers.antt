use Rattle.ps_bundles.proofs.ExprEnds.{expressions_end}
use Rattle.ps_bundles.proofs.laws.expressions_end_as_over_columns.Goals as goal

pub returns : goal.returns
returns c = expressions_end
