-- How the numbers of a node's answers hang together with its pipes, and what its outputs say in an open phase.
use Rattle.std.specs.Prelude.{◌≡◌, ◌≢◌, ℕ, zero, suc, ◌+◌, Bool, true, false, ◌&&◌, [], length, Some, get_or, slice_get, Contains, IsTrue, IsFalse}
use Rattle.ps_frame.specs.Functions.{Functions}
use Rattle.ps_meaning.specs.Joins.{fills_right}
use Rattle.ps_meaning.specs.Shape.{PhysicalKind, equi_join, filter_node, group_by_node, in_memory_join, in_memory_map, in_memory_source, independent_select, negative_slice, ordered_union, reduce, select_node, simple_projection, stream_map, streaming_slice, with_row_index, zip_node}
use Rattle.ps_ports.specs.Ports.{is_blocked, is_done, is_ready}
use Rattle.ps_ports.specs.Wires.{both_ready}
use Rattle.ps_turns.specs.Progress.{Progress, Stage, is_multiplexer, is_taking}
use Rattle.ps_turns.specs.Updates.{turns}
use Rattle.ps_world.specs.Facts.{Facts}
use Rattle.ps_world.specs.World.{Node, Pipe, World, multiplexes, IsWorking}

-- what gives its morsels under numbers of its own
abbrev pub counts_own : PhysicalKind → Bool
counts_own (in_memory_source t) = true
counts_own (independent_select es) = true
counts_own (in_memory_map step) = true
counts_own (in_memory_join j) = true
counts_own (negative_slice back n) = true
counts_own (zip_node extend) = true
counts_own (reduce es) = true
counts_own (group_by_node keys aggregates) = true
counts_own ordered_union = true
counts_own _ = false

-- what gives its answers under the numbers of its first input
abbrev pub passes_numbers : PhysicalKind → Bool
passes_numbers (select_node es extends) = true
passes_numbers (with_row_index name offset) = true
passes_numbers (streaming_slice offset n) = true
passes_numbers (filter_node e) = true
passes_numbers (simple_projection names) = true
passes_numbers (stream_map step) = true
passes_numbers (equi_join j) = true
passes_numbers _ = false

-- a right or full join gives one more
abbrev pub last_given : PhysicalKind → Progress → ℕ
last_given (equi_join j) progress = progress.sent
last_given _ progress = 0

-- an input of which the node keeps a slot for each morsel that it takes
abbrev pub keeps_slots : PhysicalKind → (input : ℕ) → Bool
keeps_slots (reduce es) i = true
keeps_slots (group_by_node keys aggregates) i = true
keeps_slots (equi_join j) zero = fills_right j.args.how
keeps_slots (equi_join j) (suc i) = true
keeps_slots _ i = false

-- a join's last piece comes once its left input is done
abbrev pub has_given_last : PhysicalKind → Progress → Type 0
has_given_last kind progress = last_given kind progress ≢ 0

-- A pipe that isn't dropped got as many places as its sender gave numbers; a node has as many slots of an input as it took morsels of it.
pub record NumberedAt (w : World) (n : ℕ) (node : Node) : Type 0 where
  pub own : IsTrue (counts_own node.node.kind) → (p : Pipe) → Contains w.pipes p → p.wire.sender ≡ n → IsFalse p.is_dropped → length p.got ≡ node.progress.sent
  pub passed : IsTrue (passes_numbers node.node.kind) → (p q : Pipe) → Contains w.pipes p → Contains w.pipes q → p.wire.sender ≡ n → IsFalse p.is_dropped → q.wire.receiver ≡ n → q.wire.input ≡ 0
      → length p.got ≡ q.next + last_given node.node.kind node.progress
  pub slots : (q : Pipe) → Contains w.pipes q → q.wire.receiver ≡ n → IsTrue (keeps_slots node.node.kind q.wire.input) → length (get_or node.progress.taken q.wire.input []) ≡ q.next
  pub inputs : length node.progress.taken ≡ length node.node.inputs
  pub ended : has_given_last node.node.kind node.progress → (q : Pipe) → Contains w.pipes q → q.wire.receiver ≡ n → q.wire.input ≡ 0 → IsTrue (is_done q.wire.send_state)

abbrev pub IsNumbered : World → Type 0
IsNumbered w = (n : ℕ) (node : Node) → slice_get w.nodes n ≡ Some node → NumberedAt w n node

-- it takes its input and gives nothing yet
abbrev pub only_takes : PhysicalKind → Stage → Bool
only_takes (equi_join j) stage = is_taking stage
only_takes kind stage = turns kind && is_taking stage

-- In an open phase: an output aside of it leaves a blocker; what only takes is not ready to its output; and what is blocked to its output, and doesn't only take, has no input that is ready on both ends.
pub record OutsFit (w : World) : Type 0 where
  pub aside : (p : Pipe) → Contains w.pipes p → IsFalse p.in_phase → IsWorking w p.wire.sender → IsFalse (multiplexes (slice_get w.nodes p.wire.sender))
      → IsTrue (is_blocked p.wire.send_state) × ((q : Pipe) × Contains w.pipes q × (q.wire.receiver ≡ p.wire.sender) × IsTrue (both_ready q.wire))
  pub takes : (p : Pipe) (node : Node) → Contains w.pipes p → slice_get w.nodes p.wire.sender ≡ Some node → IsTrue w.is_open → IsTrue (only_takes node.node.kind node.progress.stage) → IsFalse (is_ready p.wire.send_state)
  pub gives : (p q : Pipe) (node : Node) → Contains w.pipes p → Contains w.pipes q → slice_get w.nodes p.wire.sender ≡ Some node → IsTrue w.is_open → IsFalse (is_multiplexer node.node.kind) → IsFalse (only_takes node.node.kind node.progress.stage)
      → IsTrue (is_blocked p.wire.send_state) → q.wire.receiver ≡ p.wire.sender → IsFalse (both_ready q.wire)

-- what is known of every reached world
pub record Known (F : Functions) (w : World) : Type 0 where
  pub facts : Facts F w
  pub numbers : IsNumbered w
  pub outs : OutsFit w
