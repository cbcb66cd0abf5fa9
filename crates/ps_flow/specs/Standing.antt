-- Which world of the definitions a world is.
use Rattle.std.specs.Prelude.{◌≡◌, ℕ, ◌+◌, ◌≤◌, ◌⊎◌, Bool, not, List, [], Option, Some, None, map, length, get_or, slice_get, IsTrue, IsFalse}
use Rattle.pu_base.specs.declared.arena.Node.{Node as Origin}
use Rattle.ps_frame.specs.Tables.{Fields, Frame}
use Rattle.ps_frame.specs.declared.refusal.PolarsError.{PolarsError}
use Rattle.ps_frame.specs.declared.refusal.PolarsError.TheVariants as error
use Rattle.ps_graph.specs.Shown.{IsLinked, nodes_of, wires_of}
use Rattle.ps_graph.specs.Turning.{origins_of}
use Rattle.ps_meaning.specs.Errors.{cause_error}
use Rattle.ps_meaning.specs.Shape.{PhysicalKind, PhysicalNode, Shape, in_memory_sink}
use Rattle.ps_meaning.specs.Sound.{input_schemas}
use Rattle.ps_options.specs.declared.options.Options.{Options}
use Rattle.ps_outs.specs.Out.{AreOut}
use Rattle.ps_turns.specs.Heads.{stored_rows}
use Rattle.ps_turns.specs.Progress.{is_multiplexer}
use Rattle.ps_world.specs.Opening.{no_progress}
use Rattle.ps_world.specs.World.{Ending, Node, World, faulty, finished, running, shape_of, wires_of as world_wires}
use Rattle.turn_laws.specs.Updating.{SeenNode}
use Rattle.world_pipes.specs.Shown.{AreShown, Setting}
use Rattle.world_records.specs.Shown.{journal_shown}
use Rattle.ps_flow.specs.Marked.{mark_of}
use Rattle.ps_flow.specs.declared.world.World.{World as Held}

-- what is known of pipes by their senders
abbrev pub schema_if : Option PhysicalNode → Fields
schema_if None = []
schema_if (Some p) = p.schema

abbrev pub bounds_if : Option PhysicalNode → Bool
bounds_if None = Bool.true
bounds_if (Some p) = not (is_multiplexer p.kind)

abbrev pub setting_of : Shape → Options → Setting
setting_of shape o = record { schema = λ n. schema_if (slice_get shape n); bounded = λ n. bounds_if (slice_get shape n); room = o.workers + 4 }

-- A want of memory is no part of a world: it may be marked where no fault is.
abbrev pub or_short : Option PolarsError → Option PolarsError
or_short None = Some error.OutOfMemory
or_short (Some e) = Some e

abbrev pub IsUnmarred : Option PolarsError → Type 0
IsUnmarred e = (e ≡ None) ⊎ (e ≡ Some error.OutOfMemory)

abbrev pub EndsAs : Ending → (is_finished : Bool) → Option PolarsError → Type 0
EndsAs running f e = IsFalse f × IsUnmarred e
EndsAs finished f e = IsTrue f × IsUnmarred e
EndsAs (faulty c) f e = IsFalse f × (e ≡ Some (cause_error c))

-- A node of the world as an update sees it. Which of its pipes are empty it is told before each.
abbrev pub seen_as : Shape → Node → (empties : List Bool) → SeenNode
seen_as shape x es = record { node = x.node; schemas = input_schemas shape x.node; empties = es; progress = x.progress }

-- a node that has nothing behind it
abbrev pub new_node : PhysicalNode → List Fields → (empties : List Bool) → SeenNode
new_node p ss es = record { node = p; schemas = ss; empties = es; progress = no_progress (length p.inputs) }

-- the table of what a sink stored
abbrev pub kept_by : PhysicalKind → SeenNode → Option Frame
kept_by in_memory_sink x = Some (record { schema = x.node.schema; rows = stored_rows (get_or x.progress.stores 0 []) })
kept_by _ x = None

abbrev pub answer_kept : SeenNode → Option Frame
answer_kept x = kept_by x.node.kind x

-- the logical nodes of which those of a world come
abbrev pub origins_in : List Node → List Origin
origins_in xs = map (λ (x : Node). record { 0 = x.node.origin }) xs

module _ {N : Type 0} (Has : Options → N → SeenNode → Type 0) where
  -- each node of the graph is the world's node, with what that has behind it
  pub record HaveAll (o : Options) (shape : Shape) (xs : List Node) (ns : List N) : Type 0 where
    pub long : length ns ≡ length xs
    pub each : (k : ℕ) (x : Node) (n : N) → slice_get xs k ≡ Some x → slice_get ns k ≡ Some n → (es : List Bool) × Has o n (seen_as shape x es)

  -- The journal has memory for the records of all pieces that are out.
  pub record Stands (w : World) (h : Held N) : Type 0 where
    pub options : h.options ≡ w.options
    pub linked : IsLinked h.graph
    pub nodes : HaveAll w.options (shape_of w) w.nodes (nodes_of h.graph.nodes.slots)
    pub origins : origins_of h.graph.nodes.slots ≡ origins_in w.nodes
    pub wires : wires_of h.graph.pipes.slots ≡ world_wires w
    pub marks : h.marks.list.items ≡ map mark_of w.nodes
    pub pipes : AreShown (setting_of (shape_of w) w.options) w.pipes h.pipes
    pub outs : AreOut w.options.workers w.outs h.outs
    pub phase : h.phase ≡ w.phase
    pub open_as : h.is_open ≡ w.is_open
    pub journal : journal_shown h.journal.records ≡ w.journal
    pub spare : length w.outs ≤ h.journal.spare
    pub ending : EndsAs w.ending h.is_finished h.fault
