use Rattle.group_keeps.proofs.Streams.{groups_keep}
use Rattle.group_keeps.proofs.laws.keyed_groups_are_kept.Goals as goal

pub returns : goal.returns
returns c = groups_keep
