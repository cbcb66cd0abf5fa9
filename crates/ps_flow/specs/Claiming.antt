-- What a claim asks of the world in which it is made, and of its node.
use Rattle.std.specs.Prelude.{◌≡◌, ℕ, false, true, Bool, cond, List, ◌∷◌, [], Option, Some, None, Contains, IsTrue, length, option_map, slice_get, ⊤}
use Rattle.ps_flow.specs.Drops.{cut_below}
use Rattle.ps_flow.specs.declared.claim_node.Claimed.{Claimed}
use Rattle.ps_flow.specs.declared.claim_node.Seat.{Seat}
use Rattle.ps_frame.specs.Functions.{Functions}
use Rattle.ps_frame.specs.Tables.{Frame}
use Rattle.ps_graph.specs.declared.key.LogicalPipeKey.{LogicalPipeKey}
use Rattle.ps_meaning.specs.Shape.{PhysicalKind, PhysicalNode, Shape, filter_node, in_memory_sink, in_memory_source, independent_select, ordered_union, select_node, simple_projection, stream_map, streaming_slice, with_row_index}
use Rattle.ps_meaning.specs.Sound.{IsFitNode, input_schemas}
use Rattle.ps_options.specs.declared.options.Options.{Options}
use Rattle.ps_turns.specs.Claims.{Claim, Next, claim_of}
use Rattle.ps_turns.specs.Heads.{Head}
use Rattle.ps_turns.specs.Tasks.{Piece}
use Rattle.ps_world.specs.Claims.{IsFree, claim_at, inputs_in_phase, next_morsel, piece_of}
use Rattle.ps_world.specs.Facts.{Facts}
use Rattle.ps_world.specs.Pipes.{change_pipes, dropped_pipe, is_input, taken, with_place}
use Rattle.ps_world.specs.World.{Node, Pipe, World, bounded_out}
use Rattle.turn_laws.specs.Updating.{SeenNode}
use Rattle.world_pipes.specs.Shown.{AreKeysOf}

-- kinds whose nodes stream
abbrev pub streams : PhysicalKind → Bool
streams (in_memory_source t) = true
streams (independent_select es) = true
streams (select_node es extends) = true
streams (filter_node e) = true
streams (simple_projection names) = true
streams (stream_map step) = true
streams (with_row_index name offset) = true
streams (streaming_slice offset n) = true
streams ordered_union = true
streams in_memory_sink = true
streams _ = false

abbrev pub AllStream : World → Type 0
AllStream w = (n : ℕ) (x : Node) → slice_get w.nodes n ≡ Some x → IsTrue (streams x.node.kind)

-- In a world whose nodes stream, the node has this claim on the input, and the worker has no piece out.
pub record MayClaim (F : Functions) (w : World) (n i worker : ℕ) (x : Node) (c : Claim) : Type 0 where
  pub facts : Facts F w
  pub all_stream : AllStream w
  pub here : slice_get w.nodes n ≡ Some x
  pub claims : claim_at w n i x ≡ Some c
  pub free : IsFree w worker

-- THE NODE
-- the next morsel of an input: this table, under this number; and how many rows it has
abbrev pub next_of : (number : ℕ) → Option Frame → Next
next_of number morsel = option_map (λ (t : Frame). (number, t.rows)) morsel

abbrev pub rows_of : Option Frame → ℕ
rows_of None = 0
rows_of (Some t) = length t.rows

-- Nothing comes to an input of the node, or a table of the schema that the input's sender gives.
abbrev pub MayCome : SeenNode → (input : ℕ) → Option Frame → Type 0
MayCome x i None = ⊤
MayCome x i (Some t) = slice_get x.schemas i ≡ Some t.schema

-- The node of a sound shape streams, and this is its claim on an input whose next morsel is this one.
pub record ClaimsOf (F : Functions) (shape : Shape) (n : ℕ) (o : Options) (x : SeenNode) (i number : ℕ) (morsel : Option Frame) (c : Claim) : Type 0 where
  pub fit : IsFitNode F shape n x.node
  pub schemas : x.schemas ≡ input_schemas shape x.node
  pub streaming : IsTrue (streams x.node.kind)
  pub comes : MayCome x i morsel
  pub heads : List Head
  pub dones : List Bool
  pub claims : claim_of o x.node x.schemas x.progress heads dones i (next_of number morsel) ≡ Some c

module _ {P : Type 0} (Shows : Piece → P → Type 0) (IsFor : Functions → PhysicalNode → P → Type 0) where
  -- the piece of the claim, whose morsel has so many rows
  pub record Gives (F : Functions) (seat : Seat) (p : PhysicalNode) (rows : ℕ) (c : Claim) (y : Claimed P) : Type 0 where
    pub shows : Shows (piece_of seat.node seat.input seat.worker c) y.piece
    pub suits : IsFor F p y.piece
    pub rows_are : y.rows ≡ rows
    pub takes : y.takes_morsel ≡ c.takes_morsel
    pub drops : y.drops_input ≡ c.drops_input

  module _ {N : Type 0} (Has : Options → N → SeenNode → Type 0) where
    -- whichever claim the node has, this is it
    abbrev pub IsClaimOf : N → Seat → (number : ℕ) → Option Frame → Option (Claimed P) → Type 0
    IsClaimOf a seat number morsel None =
        (F : Functions) (shape : Shape) (n : ℕ) (o : Options) (x : SeenNode) (c : Claim) → Has o a x → ClaimsOf F shape n o x seat.input number morsel c → ⊥
    IsClaimOf a seat number morsel (Some y) =
        (F : Functions) (shape : Shape) (n : ℕ) (o : Options) (x : SeenNode) (c : Claim) → Has o a x → ClaimsOf F shape n o x seat.input number morsel c → Gives F seat x.node (rows_of morsel) c y

module _ {N : Type 0} (Has : Options → N → SeenNode → Type 0) where
  -- the node after its claim, of a morsel with so many rows
  abbrev pub HasClaimed : (input rows : ℕ) → N → N → Type 0
  HasClaimed i rows a b =
      (F : Functions) (shape : Shape) (n : ℕ) (o : Options) (x : SeenNode) (number : ℕ) (morsel : Option Frame) (c : Claim) → Has o a x → ClaimsOf F shape n o x i number morsel c → rows ≡ rows_of morsel → Has o b (record x { progress = c.progress })

-- THE PIPES
-- how many rows the next morsel of an input has in the phase
abbrev pub rows_in : Next → ℕ
rows_in None = 0
rows_in (Some m) = length m.1

abbrev pub rows_next : World → (n i : ℕ) → ℕ
rows_next w n i = rows_in (next_morsel (inputs_in_phase w n i))

-- the world in which a place is made for the answer
abbrev pub placed : World → ℕ → World
placed w n = record w { pipes = change_pipes (bounded_out w n) with_place w.pipes }

-- the world's pipes once the claim took its morsel, if it takes one, and dropped its input, if it does
abbrev pub taken_if : Bool → (n i : ℕ) → List Pipe → List Pipe
taken_if takes n i ps = cond takes (change_pipes (is_input n i) taken ps) ps

abbrev pub dropped_if : Bool → (nodes n i : ℕ) → List Pipe → List Pipe
dropped_if drops nodes n i ps = cond drops (cut_below nodes (change_pipes (is_input n i) dropped_pipe ps)) ps

-- the key of the pipe into an input, if there is such an input
abbrev pub IsKeyOf : (n i : ℕ) → List Pipe → Option LogicalPipeKey → Type 0
IsKeyOf n i ps None = (p : Pipe) → Contains ps p → is_input n i p ≡ false
IsKeyOf n i ps (Some key) = AreKeysOf (is_input n i) (key ∷ []) ps
