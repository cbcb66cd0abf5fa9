-- A right join of two morsels a side, in the phase in which it gives the right rows without a match.
use Rattle.std.specs.Prelude.{true, false, List, [], ◌∷◌, Some}
use Rattle.ps_frame.specs.Tables.{Row}
use Rattle.ps_meaning.specs.Shape.{PhysicalNode, equi_join, in_memory_sink, in_memory_source}
use Rattle.ps_meaning.specs.Steps.{JoinStep}
use Rattle.ps_meaning.specs.declared.options.JoinType.TheVariants as how
use Rattle.ps_ports.specs.declared.port_state.PortState.TheVariants as port
use Rattle.ps_turns.specs.Progress.{giving}
use Rattle.ps_world.specs.Opening.{no_progress}
use Rattle.ps_world.specs.World.{Node, Pipe, Record, World, running}
use Rattle.world_families.specs.Examples.{a_schema, came, on_a, pipe, row, slots, two_workers}

abbrev pub right_on_a : JoinStep
right_on_a = record on_a { args = record on_a.args { how = how.Right } }

-- it gives the columns of the right rows alone
abbrev pub right_join : PhysicalNode
right_join = record { kind = equi_join right_on_a; schema = a_schema; origin = 2; inputs = (0, 0) ∷ (1, 0) ∷ [] }

abbrev pub left_morsels : slots
left_morsels = came (row 1) ∷ came (row 2) ∷ []

abbrev pub right_morsels : slots
right_morsels = came (row 2) ∷ came (row 3) ∷ []

-- a source that sent its two rows, one by one
abbrev pub both_sent : List Row → Node
both_sent rs =
    record { node = record { kind = in_memory_source (record { schema = a_schema; rows = rs }); schema = a_schema; origin = 0; inputs = [] }; progress = record (no_progress 0) { sent = 2 }; in_phase = false; is_closed = false }

-- the join that keeps both inputs, and claimed its last piece
abbrev pub last_claimed : Node
last_claimed = record { node = right_join; progress = record (no_progress 2) { stage = giving; sent = 1; taken = left_morsels ∷ right_morsels ∷ [] }; in_phase = true; is_closed = false }

abbrev pub left_pipe : Pipe
left_pipe = pipe 0 2 0 port.Done left_morsels 2

abbrev pub right_pipe : Pipe
right_pipe = pipe 1 2 1 port.Done right_morsels 2

-- what it gave, of which the sink read what came of the left morsels
abbrev pub given_pipe : slots → Pipe
given_pipe given = pipe 2 3 0 port.Ready given 2

abbrev pub last_world : (journal : List Record) → slots → World
last_world journal given =
    record {
      options = two_workers;
      nodes =
          both_sent (row 1 ∷ row 2 ∷ [])
          ∷ both_sent (row 2 ∷ row 3 ∷ []) ∷ last_claimed
          ∷ record { node = record { kind = in_memory_sink; schema = a_schema; origin = 3; inputs = (2, 0) ∷ [] }; progress = record (no_progress 1) { stores = ([] ∷ (row 2 ∷ []) ∷ []) ∷ [] }; in_phase = true; is_closed = false } ∷ [];
      pipes = left_pipe ∷ right_pipe ∷ given_pipe given ∷ [];
      outs = [];
      phase = 3;
      is_open = true;
      journal = journal;
      ending = running;
    }

-- The first left row has no match, the second has one, and one right row has none.
abbrev pub in_order : slots
in_order = Some [] ∷ came (row 2) ∷ came (row 3) ∷ []

-- the right row without a match under the number of the second left morsel, and once more behind its own
abbrev pub under_a_left_number : slots
under_a_left_number = Some [] ∷ came (row 3) ∷ came (row 3) ∷ []

abbrev pub given_twice : slots
given_twice = Some [] ∷ came (row 2) ∷ came (row 3) ∷ came (row 3) ∷ []
