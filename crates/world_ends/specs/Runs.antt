-- Phases that take something, runs without an end, and runs to an end.
use Rattle.std.specs.Prelude.{◌≡◌, ◌≢◌, ℕ, ◌+◌, ◌⊎◌, List, Contains}
use Rattle.ps_frame.specs.Functions.{Functions}
use Rattle.ps_meaning.specs.Shape.{Shape}
use Rattle.ps_options.specs.declared.options.Options.{Options}
use Rattle.ps_turns.specs.Results.{IsResult}
use Rattle.ps_turns.specs.Tasks.{Answer, Piece}
use Rattle.ps_world.specs.Laws.{IsOut, MayStep}
use Rattle.ps_world.specs.Opening.{Reaches}
use Rattle.ps_world.specs.Step.{Replays, Steps}
use Rattle.ps_world.specs.World.{Record, World, ended, opened, running}
use Rattle.world_measure.specs.Driving.{Idles, StepsTo}

-- No phase ends before something was claimed or pulled in it.
abbrev pub EachPhaseTakes : Functions → Shape → Options → Type 0
EachPhaseTakes F shape o = (u w x v : World) (first phase : ℕ) → Reaches F shape o u → Steps F u (opened first) w → Idles F w x → ¬ Steps F x (ended phase) v

-- world after world, each a step after the one before, without an end
abbrev pub IsEndless : Functions → (ℕ → World) → Type 0
IsEndless F run = (k : ℕ) → StepsTo F (run (k + 1)) (run k)

-- a reached world that goes on may make a step, or has a piece out
abbrev pub IsNeverStuck : Functions → Shape → Options → Type 0
IsNeverStuck F shape o = (x : World) → Reaches F shape o x → x.ending ≡ running → MayStep F x ⊎ IsOut x

-- for each piece that is out something may be handed in
abbrev pub PiecesHaveResults : Functions → Shape → Options → Type 0
PiecesHaveResults F shape o = (x : World) (q : Piece) → Reaches F shape o x → Contains x.outs q → (a : Answer) × IsResult F q a

-- a run leads from w to a world that is finished or faulty
abbrev pub ReachesEnd : Functions → World → Type 0
ReachesEnd F w = (journal : List Record) × (v : World) × Replays F w journal v × (v.ending ≢ running)
