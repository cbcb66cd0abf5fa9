use Rattle.filter_keeps.proofs.Filters.{filters_keep}
use Rattle.filter_keeps.proofs.laws.filters_are_kept.Goals as goal

pub returns : goal.returns
returns c = filters_keep
