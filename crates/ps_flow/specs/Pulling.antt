-- What a pull asks of the world in which it is made, and of the table that it moves.
use Rattle.std.specs.Prelude.{◌≡◌, ℕ, cond, false, List, Option, Some, None, Contains, IsTrue, slice_get}
use Rattle.ps_frame.specs.Functions.{Functions}
use Rattle.ps_frame.specs.Tables.{Frame, Row}
use Rattle.ps_frame.specs.declared.refusal.PolarsError.{PolarsError}
use Rattle.ps_meaning.specs.Errors.{cause_error}
use Rattle.ps_meaning.specs.Shape.{PhysicalNode, Shape}
use Rattle.ps_meaning.specs.Sound.{IsFitNode, input_schemas}
use Rattle.ps_options.specs.declared.options.Options.{Options}
use Rattle.ps_turns.specs.Progress.{Progress, is_multiplexer}
use Rattle.ps_turns.specs.Pulls.{after_store, passes_limit, pulls}
use Rattle.ps_turns.specs.Results.{rows_fault}
use Rattle.turn_laws.specs.Updating.{SeenNode}
use Rattle.ps_world.specs.Facts.{Facts}
use Rattle.ps_world.specs.Pipes.{is_input}
use Rattle.ps_world.specs.World.{Node, Pipe, World, has_next, morsel_at, running}

-- the error of a store that has more rows than a table may have
abbrev pub fault_past : PhysicalNode → (input : ℕ) → Progress → Option PolarsError
fault_past p i progress = cond (passes_limit p.kind i progress) (Some (cause_error (rows_fault p))) None

-- The node of a sound shape stores its input, and this may come to it: a table of the schema that the input's sender gives.
pub record Feeds (F : Functions) (shape : Shape) (n : ℕ) (x : SeenNode) (i : ℕ) (t : Frame) : Type 0 where
  pub fit : IsFitNode F shape n x.node
  pub schemas : x.schemas ≡ input_schemas shape x.node
  pub schema : slice_get x.schemas i ≡ Some t.schema
  pub stores : IsTrue (pulls x.node.kind)
  pub gives_nothing : is_multiplexer x.node.kind ≡ false

-- In a running world the node stores its input, and this pipe leads to it and has a next morsel.
pub record MayStore (F : Functions) (w : World) (n i : ℕ) (node : Node) (p : Pipe) (m : List Row) : Type 0 where
  pub facts : Facts F w
  pub runs : w.ending ≡ running
  pub here : slice_get w.nodes n ≡ Some node
  pub stores : IsTrue (pulls node.node.kind)
  pub gives_nothing : is_multiplexer node.node.kind ≡ false
  pub among : Contains w.pipes p
  pub leads : IsTrue (is_input n i p)
  pub ready : IsTrue (has_next p)
  pub next : morsel_at p.next p.got ≡ Some m

-- what was found, or else what there was
abbrev pub or_fault : Option PolarsError → Option PolarsError → Option PolarsError
or_fault None before = before
or_fault (Some e) before = Some e

module _ {N : Type 0} (Has : Options → N → SeenNode → Type 0) where
  -- whatever the one has, the other has too
  abbrev pub HasAlso : N → N → Type 0
  HasAlso a b = (o : Options) (x : SeenNode) → Has o a x → Has o b x

  -- It has a table that may come to an input behind what it stored of it, and tells the fault of too many rows.
  abbrev pub StoresAs : (input : ℕ) → Frame → Option PolarsError → N → N → Type 0
  StoresAs i t found a b =
      (F : Functions) (shape : Shape) (n : ℕ) (o : Options) (x : SeenNode) → Has o a x → Feeds F shape n x i t
      → Has o b (record x { progress = after_store x.node.kind i t.rows x.progress }) × (found ≡ fault_past x.node i (after_store x.node.kind i t.rows x.progress))
