-- What an update reads of a node, and what it answers by it.
use Rattle.std.specs.Prelude.{Bool, List}
use Rattle.ps_meaning.specs.Shape.{PhysicalKind}
use Rattle.ps_options.specs.declared.options.Options.{Options}
use Rattle.ps_ports.specs.declared.port_state.PortState.{PortState}
use Rattle.ps_ports.specs.Ports.{Sides, keeping_done}
use Rattle.ps_turns.specs.Heads.{Head}
use Rattle.ps_turns.specs.Progress.{Progress, Stage}
use Rattle.ps_turns.specs.Updates.{answer_by, stage_after}

-- A node as an update sees it: how its query is run, its kind, what it has behind it, the heads of a zip, and which of the pipes that leave a multiplexer are empty.
pub record NodeView : Type 0 where
  pub options : Options
  pub kind : PhysicalKind
  pub progress : Progress
  pub heads : List Head
  pub empties : List Bool

-- the states at a node's inputs and at its outputs
abbrev pub sides_of : (inputs outputs : List PortState) → Sides
sides_of inputs outputs = record { inputs = inputs; outputs = outputs }

-- what the node answers by its table, before what is given as done stays done
abbrev pub row_for : Sides → NodeView → Sides
row_for given n = answer_by n.options n.kind n.progress n.heads n.empties given

-- what it answers to what it is given
abbrev pub answer_to : Sides → NodeView → Sides
answer_to given n = keeping_done given (row_for given n)

-- the stage in which an update leaves it
abbrev pub stage_to : Sides → NodeView → Stage
stage_to given n = stage_after n.options n.kind n.progress given
