-- Steps from one Open to the next.
use Rattle.std.specs.Prelude.{Bool, true, false, IsFalse}
use Rattle.ps_frame.specs.Functions.{Functions}
use Rattle.ps_world.specs.Step.{Steps}
use Rattle.ps_world.specs.World.{Record, World, opened}

abbrev pub opens : Record → Bool
opens (opened phase) = true
opens _ = false

-- some step but an Open leads from w to v
abbrev pub StepsInPhase : Functions → (v w : World) → Type 0
StepsInPhase F v w = (r : Record) × IsFalse (opens r) × Steps F w r v
