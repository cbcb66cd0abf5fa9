-- Which pipe of a run's world a pipe shows.
use Rattle.std.specs.Prelude.{◌≡◌, ◌≤◌, cond, List, [], Option, None, map, length, drop, option_map}
use Rattle.ps_frame.specs.Tables.{Fields, Frame, Row}
use Rattle.ps_world.specs.World.{Pipe, morsel_at}
use Rattle.ps_pipes.specs.declared.pipe.Pipe.{Pipe as Held}

-- rows as a table of the schema that the sender gives
abbrev pub table_of : Fields → List Row → Frame
table_of s rs = record { schema = s; rows = rs }

-- what stands in a pipe of the world from its next number on
abbrev pub slots_left : Fields → Pipe → List (Option Frame)
slots_left s p = cond p.is_dropped [] (map (option_map (table_of s)) (drop p.next p.got))

-- the table of the next morsel, if it is there
abbrev pub next_table : Fields → Pipe → Option Frame
next_table s p = cond p.is_dropped None (option_map (table_of s) (morsel_at p.next p.got))

-- A pipe of the world is all that it ever got. What was read of it is shown no more, nor what was lost.
pub record Shows (s : Fields) (p : Pipe) (h : Held) : Type 0 where
  pub within : p.next ≤ length p.got
  pub next : h.morsels.next ≡ p.next
  pub slots : h.morsels.slots ≡ slots_left s p
  pub in_phase : h.in_phase ≡ p.in_phase
  pub closed : h.is_closed ≡ p.is_closed
  pub dropped : h.is_dropped ≡ p.is_dropped
