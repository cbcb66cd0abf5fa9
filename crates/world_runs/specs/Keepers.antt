-- Nodes that keep their input: a reduce, a group-by, a map of a handed-in function, and a multiplexer.
use Rattle.std.specs.Prelude.{ℕ, List, [], ◌∷◌, Option, Some, pos, codes}
use Rattle.ps_frame.specs.Tables.{Fields, Row}
use Rattle.ps_frame.specs.Trees.{Aggregation, Tree}
use Rattle.ps_frame.specs.declared.value.DataType.TheVariants as kind
use Rattle.ps_frame.specs.declared.value.Value.TheVariants as val
use Rattle.ps_ports.specs.Ports.{Sides}
use Rattle.ps_ports.specs.declared.port_state.PortState.TheVariants as port
use Rattle.ps_turns.specs.Claims.{Claim, claim_of}
use Rattle.ps_turns.specs.Progress.{Progress, giving}
use Rattle.ps_options.specs.declared.options.Options.{Options}
use Rattle.ps_meaning.specs.Shape.{PhysicalNode, group_by_node, in_memory_map, multiplexer, reduce}
use Rattle.ps_meaning.specs.Steps.{user}
use Rattle.ps_world.specs.Opening.{no_progress}
use Rattle.world_runs.specs.Examples.{options}

abbrev pub ab : Fields
ab = (codes "a", kind.Int64) ∷ (codes "b", kind.Int64) ∷ []

abbrev pub row : ℕ → ℕ → Row
row n m = val.Int64 (pos n) ∷ val.Int64 (pos m) ∷ []

abbrev pub two_workers : Options
two_workers = options 2 2 2 tt tt tt tt tt tt

abbrev pub sum_b : Tree
sum_b = Tree.aggregate Aggregation.sum (Tree.column (codes "b"))

abbrev pub a_reduce : PhysicalNode
a_reduce = record { kind = reduce ((codes "s", sum_b) ∷ []); schema = (codes "s", kind.Int64) ∷ []; origin = 1; inputs = (0, 0) ∷ [] }

abbrev pub a_group_by : PhysicalNode
a_group_by = record { kind = group_by_node ((codes "a", Tree.column (codes "a")) ∷ []) ((codes "s", sum_b) ∷ []); schema = (codes "a", kind.Int64) ∷ (codes "s", kind.Int64) ∷ []; origin = 1; inputs = (0, 0) ∷ [] }

abbrev pub morsel : List Row
morsel = row 1 10 ∷ row 2 20 ∷ row 1 30 ∷ []

-- while it takes, a reduce claims the next morsel and keeps a place for it
abbrev pub first_claim : Option Claim
first_claim = claim_of two_workers a_reduce (ab ∷ []) (no_progress 1) [] [] 0 (Some (0, morsel))

-- once it gives, it claims its one row over all that it took, and no more
abbrev pub gives : Progress
gives = record (no_progress 1) { stage = giving; taken = (Some morsel ∷ []) ∷ [] }

-- a map of a handed-in function waits while its table is missing, blocked to its output; once it has it, it gives
abbrev pub a_map : PhysicalNode
a_map = record { kind = in_memory_map (user 1); schema = ab; origin = 1; inputs = (0, 0) ∷ [] }

abbrev pub input_done : Sides
input_done = record { inputs = port.Done ∷ []; outputs = port.Ready ∷ [] }

-- a multiplexer answers done to a reader that is done, while another reader goes on
abbrev pub a_multiplexer : PhysicalNode
a_multiplexer = record { kind = multiplexer; schema = ab; origin = 0; inputs = (0, 0) ∷ [] }
