-- The places of a pipe that wait for an answer, and the pieces that give into it.
use Rattle.std.specs.Prelude.{ℕ, Bool, List, Option, ◌&&◌, not, nat_eq, is_none, count_by}
use Rattle.ps_frame.specs.Tables.{Row}
use Rattle.ps_turns.specs.Tasks.{Piece}
use Rattle.ps_world.specs.Facts.{keeps_one}
use Rattle.ps_world.specs.World.{Pipe}

abbrev pub is_empty_place : Option (List Row) → Bool
is_empty_place slot = is_none slot

abbrev pub empty_places : Pipe → ℕ
empty_places p = count_by is_empty_place p.got

-- the answer of a piece of the node goes on, and isn't kept with the node
abbrev pub gives_into : ℕ → Piece → Bool
gives_into n q = nat_eq q.node n && not (keeps_one q.task)
