use Rattle.distinct_parts.proofs.Columns.{covered}
use Rattle.distinct_parts.proofs.laws.names_are_of_keys_or_others.Goals as goal

pub returns : goal.returns
returns c = covered
