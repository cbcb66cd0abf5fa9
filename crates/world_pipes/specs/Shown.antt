-- Which pipes of a run's world those of a run show, in the order in which the graph has them.
use Rattle.std.specs.Prelude.{◌≡◌, ℕ, Bool, true, false, List, Some, length, slice_get}
use Rattle.ps_frame.specs.Tables.{Fields}
use Rattle.ps_graph.specs.declared.key.LogicalPipeKey.{LogicalPipeKey}
use Rattle.ps_graph.specs.Shown.{numbers, places_from}
use Rattle.ps_pipes.specs.Shown.{Shows}
use Rattle.ps_pipes.specs.declared.pipe.Pipe.{Pipe as Held}
use Rattle.ps_world.specs.World.{Pipe}
use Rattle.world_pipes.specs.declared.pipes.Pipes.{Pipes}

-- What is known of a pipe by the node that sends: the schema of its rows, and whether it is bounded. And for how many morsels a bounded one has room.
pub record Setting : Type 0 where
  pub schema : ℕ → Fields
  pub bounded : ℕ → Bool
  pub room : ℕ

pub record Stands (s : Setting) (p : Pipe) (h : Held) : Type 0 where
  pub shows : Shows (s.schema p.wire.sender) p h
  pub bounded : h.is_bounded ≡ s.bounded p.wire.sender
  pub room : h.room ≡ s.room

pub record AreShown (s : Setting) (ps : List Pipe) (h : Pipes) : Type 0 where
  pub long : length h.list.items ≡ length ps
  pub each : (k : ℕ) (p : Pipe) (q : Held) → slice_get ps k ≡ Some p → slice_get h.list.items k ≡ Some q → Stands s p q

-- the keys are those of the pipes that pass a test
abbrev pub AreKeysOf : (Pipe → Bool) → List LogicalPipeKey → List Pipe → Type 0
AreKeysOf test keys ps = numbers keys ≡ places_from 0 test ps

-- the pipe whose key this is
abbrev pub IsAt : LogicalPipeKey → List Pipe → Pipe → Type 0
IsAt key ps p = slice_get ps key.0 ≡ Some p

-- its sender gives nothing more in the phase; and the phase is at its end
abbrev pub closed_pipe : Pipe → Pipe
closed_pipe p = record p { is_closed = true }

abbrev pub ended_pipe : Pipe → Pipe
ended_pipe p = record p { in_phase = false; is_closed = false }

-- it is in the phase that opens, or not
abbrev pub phase_pipe : Bool → Pipe → Pipe
phase_pipe b p = record p { in_phase = b }
