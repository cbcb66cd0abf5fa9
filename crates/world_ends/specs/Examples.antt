-- The phase of a source and a sink once both are closed, and a run that is over.
use Rattle.std.specs.Prelude.{true, [], ◌∷◌}
use Rattle.ps_world.specs.World.{World, finished}
use Rattle.world_measure.specs.Examples.{in_its_phase, the_pipe, the_sink, the_source}

abbrev pub both_closed : World
both_closed =
    record in_its_phase {
      nodes = record the_source { is_closed = true } ∷ record the_sink { is_closed = true } ∷ [];
      pipes = record the_pipe { is_closed = true } ∷ [];
    }

abbrev pub at_its_end : World
at_its_end = record in_its_phase { ending = finished }
