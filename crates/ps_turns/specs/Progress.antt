-- What a node of a run has behind it.
use Rattle.std.specs.Prelude.{ℕ, Bool, true, false, List, Option}
use Rattle.ps_frame.specs.Tables.{Row}
use Rattle.ps_meaning.specs.Shape.{PhysicalKind, in_memory_sink, in_memory_map, in_memory_join, multiplexer, negative_slice, reduce, group_by_node, equi_join}
use Rattle.ps_meaning.specs.Steps.{Step, user}

-- A node that keeps its input takes it, gives what it made of it, or is spent. An equi join builds while it takes, and probes while it gives.
pub data Stage : Type 0 where
  taking : Stage
  giving : Stage
  spent : Stage

-- sent: the numbers under which it gave morsels of its own. booked: the rows that a slice, a row index or a zip has booked, or that a negative slice has pulled.
-- stores: what it pulled of each input. taken: what it claimed of each input in order to keep partials, each None until it is handed in.
-- made: the rows of the table that a map, an in-memory join or a negative slice made. lists: the keys of a group-by, list by list.
-- A partial is determined by the rows of its morsel, in their order, so these stand here in its place. A right or full join keeps its left morsels too, each from its claim on.
pub record Progress : Type 0 where
  pub stage : Stage
  pub sent : ℕ
  pub booked : ℕ
  pub stores : List (List (List Row))
  pub taken : List (List (Option (List Row)))
  pub made : Option (List Row)
  pub lists : List (List Row)

abbrev pub is_taking : Stage → Bool
is_taking taking = true
is_taking _ = false

abbrev pub is_giving : Stage → Bool
is_giving giving = true
is_giving _ = false

abbrev pub is_spent : Stage → Bool
is_spent spent = true
is_spent _ = false

-- what makes a table of whole inputs
abbrev pub makes_table : PhysicalKind → Bool
makes_table (in_memory_map step) = true
makes_table (in_memory_join o) = true
makes_table (negative_slice back n) = true
makes_table _ = false

-- what gives nothing on before all of its input has come
abbrev pub keeps_input : PhysicalKind → Bool
keeps_input in_memory_sink = true
keeps_input (in_memory_map step) = true
keeps_input (in_memory_join o) = true
keeps_input (negative_slice back n) = true
keeps_input (reduce es) = true
keeps_input (group_by_node keys aggregates) = true
keeps_input _ = false

-- memory intensive are a sink; maps, negative slices, group-bys and in-memory joins while they take input; and an equi join while it builds
abbrev pub is_intensive : PhysicalKind → Stage → Bool
is_intensive in_memory_sink stage = true
is_intensive (in_memory_map step) stage = is_taking stage
is_intensive (in_memory_join o) stage = is_taking stage
is_intensive (negative_slice back n) stage = is_taking stage
is_intensive (group_by_node keys aggregates) stage = is_taking stage
is_intensive (equi_join o) stage = is_taking stage
is_intensive _ stage = false

abbrev pub is_multiplexer : PhysicalKind → Bool
is_multiplexer multiplexer = true
is_multiplexer _ = false

-- a map of a function that the caller handed in: no update has it at hand
abbrev pub is_user_step : Step → Bool
is_user_step (user n) = true
is_user_step _ = false

abbrev pub is_user_map : PhysicalKind → Bool
is_user_map (in_memory_map step) = is_user_step step
is_user_map _ = false
