-- What a node pulls into its stores.
use Rattle.std.specs.Prelude.{ℕ, ◌+◌, Bool, true, false, not, ◌&&◌, ◌||◌, List, [], ◌∷◌, ◌++◌, length, get_or, slice_set, nat_lt}
use Rattle.ps_frame.specs.Aggregates.{max_rows}
use Rattle.ps_frame.specs.Tables.{Row}
use Rattle.ps_meaning.specs.Shape.{PhysicalKind, in_memory_join, in_memory_map, in_memory_sink, multiplexer, negative_slice, zip_node}
use Rattle.ps_turns.specs.Ends.{last_kept}
use Rattle.ps_turns.specs.Heads.{Head, is_ready_head, no_head, stored_rows}
use Rattle.ps_turns.specs.Progress.{Progress}

abbrev pub pulls : PhysicalKind → Bool
pulls in_memory_sink = true
pulls (in_memory_map step) = true
pulls (in_memory_join o) = true
pulls (negative_slice back n) = true
pulls (zip_node extend) = true
pulls multiplexer = true
pulls _ = false

abbrev pub with_stored : (input : ℕ) → List Row → Progress → Progress
with_stored i m progress = record progress { stores = slice_set progress.stores i (get_or progress.stores i [] ++ m ∷ []) }

-- a negative slice counts the rows, and lets go of what it can't give
abbrev pub after_store : PhysicalKind → (input : ℕ) → List Row → Progress → Progress
after_store (negative_slice back n) i m progress =
    record (with_stored i m progress) { booked = progress.booked + length m; stores = slice_set progress.stores i (last_kept back (get_or progress.stores i [] ++ m ∷ [])) }
after_store _ i m progress = with_stored i m progress

-- what keeps tables: past the greatest number of rows that is a fault
abbrev pub is_store : PhysicalKind → Bool
is_store in_memory_sink = true
is_store (in_memory_map step) = true
is_store (in_memory_join o) = true
is_store (negative_slice back n) = true
is_store _ = false

abbrev pub passes_limit : PhysicalKind → (input : ℕ) → Progress → Bool
passes_limit kind i progress = is_store kind && nat_lt max_rows (length (stored_rows (get_or progress.stores i [])))

-- A zip pulls an input while its head isn't ready, or where another input is closed with a head that isn't ready.
abbrev pub closed_unready : Bool → List Head → (closed : List Bool) → Bool
closed_unready extend [] cs = false
closed_unready extend (h ∷ hs) [] = false
closed_unready extend (h ∷ hs) (c ∷ cs) = (c && not (is_ready_head extend h)) || closed_unready extend hs cs

abbrev pub wants : PhysicalKind → List Head → (closed : List Bool) → (input : ℕ) → Bool
wants (zip_node extend) hs cs i = not (is_ready_head extend (get_or hs i no_head)) || closed_unready extend hs cs
wants kind hs cs i = pulls kind
