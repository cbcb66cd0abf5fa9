use Rattle.kept_groups.proofs.Ready.{good_is_ready}
use Rattle.kept_groups.proofs.laws.good_group_bys_are_ready.Goals as goal

pub returns : goal.returns
returns c = good_is_ready
