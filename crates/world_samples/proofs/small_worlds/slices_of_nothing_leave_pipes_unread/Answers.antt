use Rattle.std.proofs.Common.{refl}
use Rattle.world_samples.proofs.small_worlds.slices_of_nothing_leave_pipes_unread.Goals as goal

pub returns-clause-slice_first : goal.returns-clause-slice_first
returns-clause-slice_first c = refl

pub returns-clause-scan_first : goal.returns-clause-scan_first
returns-clause-scan_first c = refl

pub returns-clause-complete : goal.returns-clause-complete
returns-clause-complete c = refl

pub returns-clause-both_done : goal.returns-clause-both_done
returns-clause-both_done c = refl
