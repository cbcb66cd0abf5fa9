-- Stages as the definitions of a run have them.
use Rattle.std.specs.Prelude.{ℕ}
use Rattle.node_states.specs.declared.stage.Stage.{Stage as StageHeld}
use Rattle.node_states.specs.declared.stage.Stage.TheVariants as held
use Rattle.ps_turns.specs.Progress.{Stage, giving, spent, taking}

abbrev pub stage_of : StageHeld → Stage
stage_of held.Taking = taking
stage_of held.Giving = giving
stage_of held.Spent = spent

-- how many stages are behind it
abbrev pub stages_behind : Stage → ℕ
stages_behind taking = 0
stages_behind giving = 1
stages_behind spent = 2
