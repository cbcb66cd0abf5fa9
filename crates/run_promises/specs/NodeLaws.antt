-- What is to be shown of the nodes of a kind, in reached worlds and in those between two updates of an Open, whatever the other nodes.
use Rattle.std.specs.Prelude.{◌≡◌, ℕ, ◌⊎◌, Some, slice_get, Contains, IsFalse, IsTrue}
use Rattle.ps_frame.specs.Causes.{Cause}
use Rattle.ps_frame.specs.Functions.{Functions}
use Rattle.ps_meaning.specs.Shape.{PhysicalKind, PhysicalNode, Shape}
use Rattle.ps_meaning.specs.Sound.{IsSound, input_schemas}
use Rattle.ps_options.specs.declared.options.Options.{Options}
use Rattle.ps_turns.specs.Results.{IsResult}
use Rattle.ps_turns.specs.Tasks.{Answer, Piece}
use Rattle.ps_world.specs.Laws.{Faults, Justified, MakesFault, Overflows, PortLaw, sent_at, sent_to}
use Rattle.ps_world.specs.Opening.{Reaches}
use Rattle.ps_world.specs.Updates.{FaultFound, IsSettled, Updates}
use Rattle.ps_world.specs.World.{Node, Record, World, running, shape_of}

-- a cause breaks the node whatever its inputs turn out to mean, or it says that there are too many rows, and there are
abbrev pub NamesOwn : Functions → World → PhysicalNode → Cause → Type 0
NamesOwn F w p c = Faults F p (input_schemas (shape_of w) p) (sent_to (sent_at w) p) c ⊎ Overflows F p (input_schemas (shape_of w) p) (sent_to (sent_at w) p) c

-- the updates of an Open lead from a reached world, in which the run goes on, to s
pub record IsBetween (F : Functions) (shape : Shape) (o : Options) (w s : World) : Type 0 where
  pub reached : Reaches F shape o w
  pub shut : IsFalse w.is_open
  pub runs : w.ending ≡ running
  pub updates : Updates F w s

-- What a node has sent begins a table that it may give. Between phases its ports lead on. For each of its pieces something may be handed in. And a cause that a step or an Open finds at it is one of its own.
pub record ReachedLaw (F : Functions) (Covers : PhysicalKind → Type 0) : Type 0 where
  pub justified : (shape : Shape) (o : Options) (w : World) (n : ℕ) (node : Node) → IsSound F shape → Reaches F shape o w → slice_get w.nodes n ≡ Some node → Covers node.node.kind → Justified F node.node (input_schemas (shape_of w) node.node) (sent_to (sent_at w) node.node) (sent_at w n)
  pub ports : (shape : Shape) (o : Options) (w s : World) (n : ℕ) (node : Node) → IsSound F shape → IsBetween F shape o w s → slice_get s.nodes n ≡ Some node → Covers node.node.kind → IsSettled s → PortLaw s n
  pub results : (shape : Shape) (o : Options) (w : World) (n : ℕ) (node : Node) (q : Piece) → IsSound F shape → Reaches F shape o w → slice_get w.nodes n ≡ Some node → Covers node.node.kind → Contains w.outs q → q.node ≡ n → (a : Answer) × IsResult F q a
  pub steps : (shape : Shape) (o : Options) (w : World) (n : ℕ) (node : Node) (r : Record) (c : Cause) → IsSound F shape → Reaches F shape o w → slice_get w.nodes n ≡ Some node → Covers node.node.kind → IsTrue w.is_open → MakesFault F w r n c → NamesOwn F w node.node c
  pub opens : (shape : Shape) (o : Options) (w s : World) (n : ℕ) (node : Node) (c : Cause) → IsSound F shape → IsBetween F shape o w s → slice_get s.nodes n ≡ Some node → Covers node.node.kind → c.node ≡ node.node.origin → FaultFound F s n c → NamesOwn F s node.node c
