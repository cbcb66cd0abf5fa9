-- What a hand-in asks of the world in which it is made.
use Rattle.std.specs.Prelude.{◌≡◌, ℕ, false, List, Some, Contains, slice_get}
use Rattle.ps_flow.specs.declared.piece_node.Place.{Place}
use Rattle.ps_frame.specs.Functions.{Functions}
use Rattle.ps_turns.specs.Progress.{is_multiplexer}
use Rattle.ps_turns.specs.Tasks.{Piece}
use Rattle.ps_world.specs.Facts.{Facts, keeps_one}
use Rattle.ps_world.specs.World.{Node, Pipe, World, running}

-- where a piece belongs
pub record IsPlaceOf (q : Piece) (place : Place) : Type 0 where
  pub node : place.node ≡ q.node
  pub input : place.input ≡ q.input
  pub number : place.number ≡ q.number
  pub worker : place.worker ≡ q.worker
  pub gives : place.gives ≡ q.gives

-- at most one pipe leaves the node
abbrev pub HasOneOutput : ℕ → List Pipe → Type 0
HasOneOutput n ps = (p q : Pipe) → Contains ps p → Contains ps q → p.wire.sender ≡ n → q.wire.sender ≡ n → p ≡ q

-- The piece of this node is out in a running world, and its answer goes on in a pipe.
pub record MayHandIn (F : Functions) (w : World) (q : Piece) (node : Node) : Type 0 where
  pub facts : Facts F w
  pub runs : w.ending ≡ running
  pub out : Contains w.outs q
  pub here : slice_get w.nodes q.node ≡ Some node
  pub goes_on : keeps_one q.task ≡ false
  pub single : is_multiplexer node.node.kind ≡ false
