use Rattle.std.proofs.Common.{refl}
use Rattle.world_ends.proofs.Endless.{no_endless}
use Rattle.world_ends.proofs.runs.no_run_is_endless.Goals as goal

pub returns : goal.returns
returns c = λ F shape o run sound reached. no_endless F (run 0) (c.runs_end.ensures F shape o (run 0) sound reached) run refl
