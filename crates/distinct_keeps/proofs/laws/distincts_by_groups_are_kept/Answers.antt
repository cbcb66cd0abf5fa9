use Rattle.distinct_keeps.proofs.Firsts.{first_distincts_keep}
use Rattle.distinct_keeps.proofs.laws.distincts_by_groups_are_kept.Goals as goal

pub returns : goal.returns
returns c = first_distincts_keep
