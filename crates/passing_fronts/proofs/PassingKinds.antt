-- What the kinds of passing nodes have in common.
use Rattle.std.proofs.Common.{◌≡◌, ℕ, false, refl}
use Rattle.ps_frame.specs.Functions.{Functions}
use Rattle.ps_meaning.specs.Shape.{PhysicalKind, filter_node, select_node, simple_projection, stream_map, streaming_slice, with_row_index}
use Rattle.ps_meaning.specs.Sound.{HasInputs}
use Rattle.ps_turns.specs.Progress.{is_multiplexer}
use Rattle.ps_world.specs.Booking.{IsPassing}
use Rattle.ps_world.specs.World.{Node, World}
use Rattle.family_pipes.proofs.Sent.{is_sink}
use Rattle.world_families.specs.Holds.{HoldsOfKind}
use Rattle.world_families.specs.Onward.{HoldsPassing}

pub one_input : (kind : PhysicalKind) (k : ℕ) → IsPassing kind → HasInputs kind k → k ≡ 1
one_input (with_row_index name offset) k h i = i
one_input (streaming_slice offset n) k h i = i
one_input (filter_node e) k h i = i
one_input (select_node es extends) k h i = i
one_input (simple_projection names) k h i = i
one_input (stream_map step) k h i = i
one_input kind k h i = absurd h

pub single : (kind : PhysicalKind) → IsPassing kind → is_multiplexer kind ≡ false
single (with_row_index name offset) h = refl
single (streaming_slice offset n) h = refl
single (filter_node e) h = refl
single (select_node es extends) h = refl
single (simple_projection names) h = refl
single (stream_map step) h = refl
single kind h = absurd h

pub no_sink : (kind : PhysicalKind) → IsPassing kind → is_sink kind ≡ false
no_sink (with_row_index name offset) h = refl
no_sink (streaming_slice offset n) h = refl
no_sink (filter_node e) h = refl
no_sink (select_node es extends) h = refl
no_sink (simple_projection names) h = refl
no_sink (stream_map step) h = refl
no_sink kind h = absurd h

pub of_kind : (F : Functions) (w : World) (n : ℕ) (node : Node) (kind : PhysicalKind) → IsPassing kind → HoldsOfKind F w n node kind → HoldsPassing F w n node
of_kind F w n node (with_row_index name offset) h own = own
of_kind F w n node (streaming_slice offset count) h own = own
of_kind F w n node (filter_node e) h own = own
of_kind F w n node (select_node es extends) h own = own
of_kind F w n node (simple_projection names) h own = own
of_kind F w n node (stream_map step) h own = own
of_kind F w n node kind h own = absurd h

pub to_kind : (F : Functions) (w : World) (n : ℕ) (node : Node) (kind : PhysicalKind) → IsPassing kind → HoldsPassing F w n node → HoldsOfKind F w n node kind
to_kind F w n node (with_row_index name offset) h own = own
to_kind F w n node (streaming_slice offset count) h own = own
to_kind F w n node (filter_node e) h own = own
to_kind F w n node (select_node es extends) h own = own
to_kind F w n node (simple_projection names) h own = own
to_kind F w n node (stream_map step) h own = own
to_kind F w n node kind h own = absurd h
