use Rattle.std.proofs.Common.{refl}
use Rattle.world_runs.proofs.small_worlds.heads_that_differ.Goals as goal

pub returns-clause-lengths_differ : goal.returns-clause-lengths_differ
returns-clause-lengths_differ c = refl

pub returns-clause-not_done_yet : goal.returns-clause-not_done_yet
returns-clause-not_done_yet c = refl

pub returns-clause-broadcasting_agrees : goal.returns-clause-broadcasting_agrees
returns-clause-broadcasting_agrees c = refl
