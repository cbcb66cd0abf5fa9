-- A source of three rows before a sink, in its phase, and what is left of it after the first claim.
use Rattle.std.specs.Prelude.{ℕ, ◌^◌, true, T, leb, [], ◌∷◌, Option, None, Some, codes, pos}
use Rattle.std.proofs.Math.Facts.{leb_yes}
use Rattle.ps_frame.specs.Tables.{Fields, Frame, Row}
use Rattle.ps_frame.specs.declared.value.DataType.TheVariants as data_type
use Rattle.ps_frame.specs.declared.value.Value.TheVariants as value
use Rattle.ps_meaning.specs.Shape.{in_memory_sink, in_memory_source}
use Rattle.ps_options.specs.declared.options.Options.{Options}
use Rattle.ps_ports.specs.declared.port_state.PortState.TheVariants as port
use Rattle.ps_turns.specs.Claims.{Claim}
use Rattle.ps_turns.specs.Progress.{Progress, giving}
use Rattle.ps_world.specs.Claims.{after_claim, claim_at}
use Rattle.ps_world.specs.Opening.{fresh_node, fresh_pipe, no_progress}
use Rattle.ps_world.specs.World.{Node, Pipe, World, running}

abbrev pub row : ℕ → Row
row n = value.Int64 (pos n) ∷ []

abbrev pub a_schema : Fields
a_schema = (codes "a", data_type.Int64) ∷ []

abbrev pub three_rows : Frame
three_rows = record { schema = a_schema; rows = row 1 ∷ row 2 ∷ row 3 ∷ [] }

-- two workers, morsels of at most two rows
abbrev pub two_workers : Options
two_workers = from_tests tt tt tt tt tt tt
  where
    from_tests : T (leb 1 2) → T (leb 2 256) → T (leb 1 2) → T (leb 2 (2 ^ 20)) → T (leb 1 1) → T (leb 1 1024) → Options
    from_tests a b c d e f =
        record {
          workers = 2;
          morsel_rows = 2;
          partitions = 1;
          seed = 0;
          some_workers = leb_yes a;
          few_workers = leb_yes b;
          some_rows = leb_yes c;
          few_rows = leb_yes d;
          some_partitions = leb_yes e;
          few_partitions = leb_yes f;
        }

abbrev pub in_phase : Node → Node
in_phase n = record n { in_phase = true }

abbrev pub the_source : Node
the_source = in_phase (fresh_node (record { kind = in_memory_source three_rows; schema = a_schema; origin = 0; inputs = [] }))

abbrev pub the_sink : Node
the_sink = in_phase (fresh_node (record { kind = in_memory_sink; schema = a_schema; origin = 1; inputs = (0, 0) ∷ [] }))

abbrev pub the_pipe : Pipe
the_pipe =
    record (fresh_pipe 0 0 1 0) {
      wire = record { sender = 0; port = 0; receiver = 1; input = 0; send_state = port.Ready; receive_state = port.Ready };
      in_phase = true;
    }

abbrev pub in_its_phase : World
in_its_phase = record { options = two_workers; nodes = the_source ∷ the_sink ∷ []; pipes = the_pipe ∷ []; outs = []; phase = 1; is_open = true; journal = []; ending = running }

abbrev pub claimed_by_source : Option Claim → World
claimed_by_source None = in_its_phase
claimed_by_source (Some c) = after_claim in_its_phase 0 0 0 the_source c

abbrev pub after_first_claim : World
after_first_claim = claimed_by_source (claim_at in_its_phase 0 0 the_source)

-- two inputs, of two rows and of one, of each of which one is booked
abbrev pub zipped : Progress
zipped = record (no_progress 2) { booked = 1; stores = ((row 1 ∷ row 2 ∷ []) ∷ []) ∷ ((row 3 ∷ []) ∷ []) ∷ [] }

-- one morsel was taken, one waits, and one is to come
abbrev pub half_taken : Pipe
half_taken = record the_pipe { got = Some (row 1 ∷ []) ∷ Some (row 2 ∷ []) ∷ None ∷ []; next = 1 }

-- its sender is done, its reader isn't yet
abbrev pub done_pipe : Pipe
done_pipe = record the_pipe { wire = record the_pipe.wire { send_state = port.Done } }

-- a node that gives the table that it made
abbrev pub made : Progress
made = record (no_progress 1) { stage = giving; made = Some (row 1 ∷ []) }
