-- What may still change between phases, and what is left to do over all phases.
use Rattle.std.specs.Prelude.{ℕ, ◌+◌, Bool, true, false, cond, List, [], ◌∷◌, length, is_some, IsTrue}
use Rattle.ps_frame.specs.Functions.{Functions}
use Rattle.ps_ports.specs.declared.port_state.PortState.{PortState}
use Rattle.ps_ports.specs.Ports.{is_done}
use Rattle.ps_turns.specs.Progress.{Progress, Stage, giving, spent, taking}
use Rattle.ps_world.specs.Step.{Replays, Steps}
use Rattle.ps_world.specs.World.{Node, Pipe, Record, World, claimed, pulled}
use Rattle.world_measure.specs.Left.{left_of_nodes}

abbrev pub undone : PortState → ℕ
undone s = cond (is_done s) 0 1

-- the ends of pipes that aren't done
abbrev pub ends_left : List Pipe → ℕ
ends_left [] = 0
ends_left (p ∷ ps) = (undone p.wire.send_state + undone p.wire.receive_state) + ends_left ps

abbrev pub stages_left : Stage → ℕ
stages_left taking = 2
stages_left giving = 1
stages_left spent = 0

-- the stages to come of a node, and its table while it has none
abbrev pub turns_of : Progress → ℕ
turns_of a = stages_left a.stage + cond (is_some a.made) 0 1

abbrev pub turns_left : List Node → ℕ
turns_left [] = 0
turns_left (x ∷ xs) = turns_of x.progress + turns_left xs

abbrev pub changes_left : World → ℕ
changes_left w = ends_left w.pipes + turns_left w.nodes

-- What is left over all phases: the changes between phases, and behind them, node by node, the morsels to take and those of its own.
abbrev pub left_over_phases : World → List ℕ
left_over_phases w = changes_left w ∷ left_of_nodes (length w.nodes) 0 w

-- a claim or a pull
abbrev pub takes : Record → Bool
takes (claimed node input number worker) = true
takes (pulled node input number) = true
takes _ = false

-- A run leads from w to a claim or a pull, whose world is v.
abbrev pub TakesLater : Functions → (v w : World) → Type 0
TakesLater F v w = (journal : List Record) × (u : World) × (r : Record) × Replays F w journal u × IsTrue (takes r) × Steps F u r v
