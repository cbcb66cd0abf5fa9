-- One update of a node of a run, as the node's own: what it sees, what it becomes, and what it answers.
use Rattle.std.specs.Prelude.{◌≡◌, ℕ, ◌⊎◌, Bool, List, [], map, length, Some, None, IsFalse}
use Rattle.ps_frame.specs.Causes.{Cause}
use Rattle.ps_frame.specs.Functions.{Functions}
use Rattle.ps_frame.specs.Tables.{Fields}
use Rattle.ps_meaning.specs.Shape.{PhysicalKind, PhysicalNode, zip_node}
use Rattle.ps_meaning.specs.Sound.{HasInputs, HasReaders}
use Rattle.ps_options.specs.declared.options.Options.{Options}
use Rattle.ps_ports.specs.Ports.{Sides, is_done}
use Rattle.ps_turns.specs.Heads.{Head, heads_by, stored_inputs}
use Rattle.ps_turns.specs.Progress.{Progress, Stage, giving, spent, taking}
use Rattle.ps_turns.specs.Updates.{BreaksTable, Fills, Turns, answer_of, is_waiting, shape_fault}

-- A node as its updates see it: with the schemas of its inputs, which of its outgoing pipes are empty, and what it has behind it.
pub record SeenNode : Type 0 where
  pub node : PhysicalNode
  pub schemas : List Fields
  pub empties : List Bool
  pub progress : Progress

-- how many stages are behind a node
abbrev pub stages_before : Stage → ℕ
stages_before taking = 0
stages_before giving = 1
stages_before spent = 2

abbrev pub stages_behind : SeenNode → ℕ
stages_behind a = stages_before a.progress.stage

-- the heads of a zip that is given these states; of another node none
abbrev pub heads_given : PhysicalKind → Progress → Sides → List Head
heads_given (zip_node extend) progress given = heads_by extend progress.booked (stored_inputs (map is_done given.inputs) progress.stores)
heads_given _ progress given = []

abbrev pub heads_seen : SeenNode → Sides → List Head
heads_seen a given = heads_given a.node.kind a.progress given

-- it is given a state of each input and of each output that a node of its kind has
abbrev pub HasPorts : SeenNode → Sides → Type 0
HasPorts a given = HasInputs a.node.kind (length given.inputs) × HasReaders a.node.kind (length given.outputs)

module _ (F : Functions) (o : Options) where
  -- The update finds no fault: the node turns, and answers by what it has behind it then.
  pub record UpdatesTo (a : SeenNode) (given : Sides) (b : SeenNode) (answer : Sides) : Type 0 where
    pub ports : HasPorts a given
    pub agrees : shape_fault a.node a.node.kind (heads_seen a given) given ≡ None
    pub turns : Turns F o a.node a.schemas given a.progress b.progress
    pub others : b ≡ record a { progress = b.progress }
    pub answers : answer ≡ answer_of o a.node b.progress (heads_seen a given) a.empties given

  -- what a node has behind it once its table is filled in, if it waits for that
  abbrev pub FilledTo : SeenNode → Sides → Progress → Type 0
  FilledTo a given filled =
      (IsFalse (is_waiting a.node.kind a.progress given) × (filled ≡ a.progress)) ⊎ Fills F a.node a.schemas given a.progress filled

  -- The same, where a map that waits for its table is filled first.
  pub record FillsAndUpdates (a : SeenNode) (given : Sides) (b : SeenNode) (answer : Sides) : Type 0 where
    pub filled : Progress
    pub fills : FilledTo a given filled
    pub update : UpdatesTo (record a { progress = filled }) given b answer

  -- a cause that an update or a fill of the node finds
  abbrev pub FindsFault : SeenNode → Sides → Cause → Type 0
  FindsFault a given c =
      (shape_fault a.node a.node.kind (heads_seen a given) given ≡ Some c) ⊎ BreaksTable F o a.node a.schemas given a.progress c
