-- How a run begins, and how a phase of it opens.
use Rattle.std.specs.Prelude.{◌≡◌, ◌≢◌, ℕ, ◌+◌, ◌<◌, ◌≤◌, ◌⊎◌, ◌||◌, Bool, not, true, false, List, Option, Some, [], ◌∷◌, ◌++◌, map, length, get_or, slice_get, slice_set, IsFalse}
use Rattle.keyed_slots.specs.Slots.{value_at}
use Rattle.ps_frame.specs.Causes.{Cause}
use Rattle.ps_frame.specs.Tables.{Fields, Frame}
use Rattle.ps_frame.specs.declared.refusal.PolarsError.{PolarsError}
use Rattle.ps_graph.specs.Running.{runnable_nodes, runnable_pipes}
use Rattle.ps_graph.specs.Shown.{nodes_of, places_from, wires_of}
use Rattle.ps_graph.specs.Turning.{origins_of}
use Rattle.ps_graph.specs.declared.graph.Graph.{Graph}
use Rattle.ps_graph.specs.declared.graph.GraphNode.{GraphNode}
use Rattle.ps_graph.specs.declared.graph.LogicalPipe.{LogicalPipe}
use Rattle.ps_meaning.specs.Shape.{PhysicalNode, Shape, in_memory_sink}
use Rattle.ps_meaning.specs.Sound.{HasReaders, input_schemas}
use Rattle.ps_options.specs.declared.options.Options.{Options}
use Rattle.ps_outs.specs.Out.{AreOut}
use Rattle.ps_ports.specs.Wires.{IsWired, Wire, wires_in, wires_out}
use Rattle.ps_turns.specs.Heads.{stored_rows}
use Rattle.ps_turns.specs.Progress.{is_multiplexer, is_user_map}
use Rattle.ps_world.specs.Opening.{pipes_from}
use Rattle.ps_world.specs.World.{Node, Pipe, World, faulty, wires_of as world_wires}
use Rattle.turn_laws.specs.Updating.{SeenNode}
use Rattle.world_pipes.specs.Shown.{AreShown, Setting, phase_pipe}
use Rattle.world_records.specs.Journals.{Written}
use Rattle.world_records.specs.Shown.{journal_shown}
use Rattle.world_records.specs.declared.records.Record.TheVariants as entry
use Rattle.ps_flow.specs.Marked.{phase_marks}
use Rattle.ps_flow.specs.Standing.{EndsAs, Stands, new_node}
use Rattle.ps_flow.specs.declared.world.World.{World as Held}

-- THE BEGINNING
-- a pipe that got nothing
abbrev pub empty_pipe : Wire → Pipe
empty_pipe wire = record { wire = wire; got = []; next = 0; in_phase = false; is_closed = false; is_dropped = false; is_unread = false }

module _ {N : Type 0} (IsNew : N → PhysicalNode → List Fields → Type 0) where
  -- The graph is as it was put together of the shape: its nodes are new and come from the same logical nodes, and its pipes are blocked on both ends.
  pub record IsBuiltOf (shape : Shape) (g : Graph N) : Type 0 where
    pub long : length (nodes_of g.nodes.slots) ≡ length shape
    pub nodes : (k : ℕ) (p : PhysicalNode) (n : N) → slice_get shape k ≡ Some p → slice_get (nodes_of g.nodes.slots) k ≡ Some n → IsNew n p (input_schemas shape p)
    pub origins : origins_of g.nodes.slots ≡ map (λ (p : PhysicalNode). record { 0 = p.origin }) shape
    pub wires : wires_of g.pipes.slots ≡ map (λ (p : Pipe). p.wire) (pipes_from shape 0)

module _ {N : Type 0} (Has : Options → N → SeenNode → Type 0) (IsNew : N → PhysicalNode → List Fields → Type 0) where
  -- what a new node becomes that is told how its query is run
  abbrev pub IsStarted : Options → N → N → Type 0
  IsStarted o a b = (p : PhysicalNode) (ss : List Fields) → IsNew a p ss → (es : List Bool) × Has o b (new_node p ss es)

  -- one of the nodes is told
  pub record OneStarted (o : Options) (number : ℕ) (x : GraphNode N) (old new : List (Option (GraphNode N))) : Type 0 where
    pub after : N
    pub started : IsStarted o x.compute after
    pub next : new ≡ slice_set old number (Some (record x { compute = after }))

  -- the first nodes, so many, are told, and the others are left
  pub record AreStarted (o : Options) (count : ℕ) (old new : List (Option (GraphNode N))) : Type 0 where
    pub long : length new ≡ length old
    pub others : (k : ℕ) → count ≤ k → value_at new k ≡ value_at old k
    pub done : (k : ℕ) (x : GraphNode N) → k < count → value_at old k ≡ Some x → (after : N) × IsStarted o x.compute after × (value_at new k ≡ Some (record x { compute = after }))

-- whether a pipe with a number has a bound, by the node that sends
module _ {N : Type 0} (Has : Options → N → SeenNode → Type 0) where
  abbrev pub IsUnbounded : Graph N → ℕ → Bool → Type 0
  IsUnbounded g k b =
      (p : LogicalPipe) (sender : GraphNode N) (o : Options) (x : SeenNode) → value_at g.pipes.slots k ≡ Some p → value_at g.nodes.slots p.sender.0 ≡ Some sender → Has o sender.compute x → b ≡ is_multiplexer x.node.kind

  -- the setting knows of each node whether what leaves it has a bound
  abbrev pub AreBounds : List (Option (GraphNode N)) → Setting → Type 0
  AreBounds slots s = (n : ℕ) (sender : GraphNode N) → value_at slots n ≡ Some sender → (o : Options) × (x : SeenNode) × Has o sender.compute x × (s.bounded n ≡ not (is_multiplexer x.node.kind))

-- OPENING A PHASE
-- What leads to and from each node is what its shape asks for.
pub record IsWhole (w : World) : Type 0 where
  pub wired : IsWired (length w.nodes) (world_wires w)
  pub inputs : (n : ℕ) (x : Node) → slice_get w.nodes n ≡ Some x → length (wires_in n (world_wires w)) ≡ length x.node.inputs
  pub readers : (n : ℕ) (x : Node) → slice_get w.nodes n ≡ Some x → HasReaders x.node.kind (length (wires_out n (world_wires w)))

-- no node is a multiplexer, or a map of a function that the caller handed in
abbrev pub IsPlain : World → Type 0
IsPlain w = (n : ℕ) (x : Node) → slice_get w.nodes n ≡ Some x → IsFalse (is_multiplexer x.node.kind || is_user_map x.node.kind)

module _ {N : Type 0} where
  -- All that is asked of a run that can't go on: of the graph and its pipes nothing is known any more.
  pub record Tells (w : World) (h : Held N) : Type 0 where
    pub options : h.options ≡ w.options
    pub outs : AreOut w.options.workers w.outs h.outs
    pub phase : h.phase ≡ w.phase
    pub open_as : h.is_open ≡ w.is_open
    pub journal : journal_shown h.journal.records ≡ w.journal
    pub spare : length w.outs ≤ h.journal.spare
    pub ending : EndsAs w.ending h.is_finished h.fault

  -- the world after an Open: it stands for it whole, or a fault has ended the run
  abbrev pub HasOpened : (Options → N → SeenNode → Type 0) → World → Held N → Type 0
  HasOpened Has v h = Stands Has v h ⊎ ((c : Cause) × (v.ending ≡ faulty c) × Tells v h)

-- THE ANSWER
-- the one sink of a world, which stored these rows
pub record IsSink (w : World) (n : ℕ) (x : Node) : Type 0 where
  pub there : slice_get w.nodes n ≡ Some x
  pub kind : x.node.kind ≡ in_memory_sink
  pub only : (m : ℕ) (y : Node) → slice_get w.nodes m ≡ Some y → y.node.kind ≡ in_memory_sink → m ≡ n

abbrev pub table_of : Node → Frame
table_of x = record { schema = x.node.schema; rows = stored_rows (get_or x.progress.stores 0 []) }

-- IN PARTS
-- the Open is recorded, for which there was memory
pub record IsRecorded (phase : ℕ) (old new : Written) : Type 0 where
  pub records : new.records ≡ old.records ++ entry.Open phase ∷ []
  pub spare : new.spare + 1 ≡ old.spare

module _ {N : Type 0} where
  -- what an Open leaves that finds no phase, one that finds these nodes and pipes, and one that finds a fault
  pub record IsFinishedAs (phase : ℕ) (old new : Held N) : Type 0 where
    pub is : new ≡ record old { is_finished = true; phase = phase; journal = new.journal }
    pub recorded : IsRecorded phase old.journal new.journal

  pub record IsMarkedAs (phase : ℕ) (ns ks : List ℕ) (old new : Held N) : Type 0 where
    pub is : new ≡ record old { marks = new.marks; pipes = new.pipes; is_open = true; phase = phase; journal = new.journal }
    pub marks : new.marks.list.items ≡ phase_marks ns 0 old.marks.list.items
    pub pipes : (s : Setting) (ps : List Pipe) (test : Wire → Bool) → AreShown s ps old.pipes → ks ≡ places_from 0 (λ (p : Pipe). test p.wire) ps → AreShown s (map (λ p. phase_pipe (test p.wire) p) ps) new.pipes
    pub recorded : IsRecorded phase old.journal new.journal

  pub record IsBrokenAs (phase : ℕ) (fault : PolarsError) (old new : Held N) : Type 0 where
    pub is : new ≡ record old { fault = Some fault; phase = phase; journal = new.journal }
    pub recorded : IsRecorded phase old.journal new.journal

  -- The phase that a graph at rest shows next: there is none, or it is marked.
  pub data IsBegun (intensive : N → Bool) (phase : ℕ) (old new : Held N) : Type 0 where
    none_left : runnable_nodes intensive old.graph ≡ [] → IsFinishedAs phase old new → IsBegun intensive phase old new
    one_opens : runnable_nodes intensive old.graph ≢ [] → IsMarkedAs phase (runnable_nodes intensive old.graph) (runnable_pipes intensive old.graph) old new → IsBegun intensive phase old new
