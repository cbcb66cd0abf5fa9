-- A node of each kind, as an update sees it.
use Rattle.std.specs.Prelude.{ℕ, Bool, true, false, List, [], ◌∷◌, Some, None}
use Rattle.std.proofs.Common.{lit≤}
use Rattle.node_states.specs.Views.{NodeView}
use Rattle.ps_frame.specs.Tables.{Row}
use Rattle.ps_frame.specs.Trees.{len}
use Rattle.ps_meaning.specs.Shape.{PhysicalKind, equi_join, filter_node, group_by_node, in_memory_join, in_memory_map, in_memory_sink, in_memory_source, independent_select, multiplexer, negative_slice, ordered_union, reduce, select_node, simple_projection, stream_map, streaming_slice, with_row_index, zip_node}
use Rattle.ps_meaning.specs.Steps.{JoinStep, memory_sink, user}
use Rattle.ps_meaning.specs.declared.options.JoinType.{JoinType}
use Rattle.ps_meaning.specs.declared.options.JoinType.TheVariants as join
use Rattle.ps_meaning.specs.declared.options.JoinValidation.TheVariants as validation
use Rattle.ps_options.specs.declared.options.Options.{Options}
use Rattle.ps_turns.specs.Heads.{Head}
use Rattle.ps_turns.specs.Progress.{Progress, Stage, taking}

-- two workers, and two rows a morsel
abbrev pub two_workers : Options
two_workers =
    record {
      workers = 2;
      morsel_rows = 2;
      partitions = 1;
      seed = 0;
      some_workers = lit≤ tt;
      few_workers = lit≤ tt;
      some_rows = lit≤ tt;
      few_rows = lit≤ tt;
      some_partitions = lit≤ tt;
      few_partitions = lit≤ tt;
    }

-- a node in a stage, which gave so many morsels of its own and booked so many rows
abbrev pub progress_of : Stage → (sent booked : ℕ) → Progress
progress_of stage sent booked = record { stage = stage; sent = sent; booked = booked; stores = []; taken = []; made = None; lists = [] }

abbrev pub node_of : PhysicalKind → Progress → Options → NodeView
node_of kind progress o = record { options = o; kind = kind; progress = progress; heads = []; empties = [] }

-- a node that has nothing behind it
abbrev pub new_node : PhysicalKind → Options → NodeView
new_node kind o = node_of kind (progress_of taking 0 0) o

abbrev pub a_row : Row
a_row = []

abbrev pub a_filter : Options → NodeView
a_filter o = new_node (filter_node len) o

abbrev pub a_select : Options → NodeView
a_select o = new_node (select_node [] false) o

abbrev pub an_extending_select : Options → NodeView
an_extending_select o = new_node (select_node [] true) o

abbrev pub a_projection : Options → NodeView
a_projection o = new_node (simple_projection []) o

abbrev pub a_row_index : Options → NodeView
a_row_index o = new_node (with_row_index [] None) o

abbrev pub a_stream_map : Options → NodeView
a_stream_map o = new_node (stream_map (user 0)) o

abbrev pub a_source : Options → NodeView
a_source o = new_node (in_memory_source (record { schema = []; rows = a_row ∷ [] })) o

abbrev pub a_given_source : NodeView
a_given_source = node_of (in_memory_source (record { schema = []; rows = a_row ∷ [] })) (progress_of taking 1 0) two_workers

abbrev pub an_independent_select : (sent : ℕ) → Options → NodeView
an_independent_select sent o = node_of (independent_select []) (progress_of taking sent 0) o

-- slices of two rows behind the first: of which two rows were booked, and three; and one of no rows
abbrev pub a_slice : Options → NodeView
a_slice o = node_of (streaming_slice 1 2) (progress_of taking 0 2) o

abbrev pub a_full_slice : Options → NodeView
a_full_slice o = node_of (streaming_slice 1 2) (progress_of taking 0 3) o

abbrev pub an_empty_slice : Options → NodeView
an_empty_slice o = new_node (streaming_slice 1 0) o

abbrev pub a_sink : Options → NodeView
a_sink o = new_node in_memory_sink o

abbrev pub a_union : Options → NodeView
a_union o = new_node ordered_union o

abbrev pub a_multiplexer : (empties : List Bool) → Options → NodeView
a_multiplexer es o = record (new_node multiplexer o) { empties = es }

-- heads of so many rows that broadcast or not
abbrev pub head : List Row → (broadcasts : Bool) → Head
head rows broadcasts = record { rest = rows; broadcasts = broadcasts; is_known = true; input_done = true }

abbrev pub zip_of : List Head → Options → NodeView
zip_of hs o = record (new_node (zip_node false) o) { heads = hs }

abbrev pub a_zip : Options → NodeView
a_zip o = zip_of (head (a_row ∷ a_row ∷ []) false ∷ head (a_row ∷ a_row ∷ []) false ∷ []) o

abbrev pub an_empty_zip : Options → NodeView
an_empty_zip o = zip_of (head [] false ∷ head [] false ∷ []) o

abbrev pub a_half_zip : Options → NodeView
a_half_zip o = zip_of (head (a_row ∷ []) true ∷ head [] false ∷ []) o

abbrev pub a_single_zip : Options → NodeView
a_single_zip o = zip_of (head (a_row ∷ []) true ∷ head (a_row ∷ []) true ∷ []) o

abbrev pub a_reduce : Stage → (sent : ℕ) → Options → NodeView
a_reduce stage sent o = node_of (reduce []) (progress_of stage sent 0) o

abbrev pub a_group_by : Stage → Options → NodeView
a_group_by stage o = node_of (group_by_node [] []) (progress_of stage 0 0) o

abbrev pub a_negative_slice : Stage → Options → NodeView
a_negative_slice stage o = node_of (negative_slice 1 1) (progress_of stage 0 0) o

abbrev pub a_map : Stage → Options → NodeView
a_map stage o = node_of (in_memory_map memory_sink) (progress_of stage 0 0) o

-- a map of a handed-in function, before and after its table was filled in
abbrev pub a_waiting_map : Options → NodeView
a_waiting_map o = new_node (in_memory_map (user 0)) o

abbrev pub a_filled_map : Options → NodeView
a_filled_map o = node_of (in_memory_map (user 0)) (record (progress_of taking 0 0) { made = Some [] }) o

abbrev pub join_step : JoinType → JoinStep
join_step how = record { left_on = []; right_on = []; args = record { how = how; suffix = None; join_nulls = false; validation = validation.ManyToMany; slice = None } }

abbrev pub an_in_memory_join : Stage → Options → NodeView
an_in_memory_join stage o = node_of (in_memory_join (join_step join.Cross)) (progress_of stage 0 0) o

abbrev pub an_inner_join : Stage → Options → NodeView
an_inner_join stage o = node_of (equi_join (join_step join.Inner)) (progress_of stage 0 0) o

abbrev pub a_full_join : Stage → (sent : ℕ) → Options → NodeView
a_full_join stage sent o = node_of (equi_join (join_step join.Full)) (progress_of stage sent 0) o
