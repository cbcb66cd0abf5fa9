-- Whole runs, and what makes them end.
use Rattle.std.specs.Prelude.{◌≡◌, ℕ, ◌<◌, IsFalse}
use Rattle.ps_frame.specs.Functions.{Functions}
use Rattle.ps_meaning.specs.Shape.{Shape}
use Rattle.ps_options.specs.declared.options.Options.{Options}
use Rattle.ps_world.specs.Opening.{Reaches}
use Rattle.ps_world.specs.Step.{Steps}
use Rattle.ps_world.specs.World.{Record, World, opened, running}
use Rattle.world_measure.specs.Runs.{opens}
use Rattle.world_measure.specs.Turns.{changes_left, takes}

-- some step leads from w to v
abbrev pub StepsTo : Functions → (v w : World) → Type 0
StepsTo F v w = (r : Record) × Steps F w r v

-- steps without an Open lead from w to v
pub data WithinPhase (F : Functions) (w : World) : World → Type 0 where
  here : (v : World) → v ≡ w → WithinPhase F w v
  further : (x v : World) (r : Record) → WithinPhase F w x → IsFalse (opens r) → Steps F x r v → WithinPhase F w v

-- steps that open nothing and take nothing lead from w to v: hand-ins, closes, the end of the phase
pub data Idles (F : Functions) (w : World) : World → Type 0 where
  idle_here : (v : World) → v ≡ w → Idles F w v
  idles_on : (x v : World) (r : Record) → Idles F w x → IsFalse (opens r) → IsFalse (takes r) → Steps F x r v → Idles F w v

-- Where nothing was claimed or pulled between an Open and the next, and the run goes on, the next one has changed something: an end is done, a node is in a later stage, or a table was made.
abbrev pub NoPhaseIsIdle : Functions → Shape → Options → Type 0
NoPhaseIsIdle F shape o =
    (u w x v : World) (first next : ℕ) → Reaches F shape o u → Steps F u (opened first) w → Idles F w x → Steps F x (opened next) v → v.ending ≡ running → changes_left v < changes_left w
