-- The updates of nodes of a run: those of the nodes of a graph that they are.
use Rattle.std.specs.Prelude.{◌≡◌, ℕ, List, Option, option_map}
use Rattle.ps_frame.specs.Tables.{Frame, Row}
use Rattle.ps_nodes.specs.Seen.{Updates, seen}
use Rattle.ps_nodes.specs.Told.{IsToldOf}
use Rattle.ps_ports.specs.Ports.{Sides}
use Rattle.turn_laws.specs.Updating.{stages_behind}
use Rattle.node_work.specs.Working.{table_stored, without_table}
use Rattle.flow_runs.specs.declared.node.RunningNode.{RunningNode}

abbrev pub stages_of : RunningNode → ℕ
stages_of n = stages_behind (seen n.flow)

-- nothing else of the node changes
pub record UpdatesNode (a : RunningNode) (given : Sides) (b : RunningNode) (answer : Sides) : Type 0 where
  pub update : Updates a.flow given b.flow answer
  pub others : b ≡ record a { flow = b.flow }

-- it is told how many pieces of work may go on
pub record IsToldIn (a : RunningNode) (pieces : ℕ) (b : RunningNode) : Type 0 where
  pub told : IsToldOf a.flow pieces b.flow
  pub others : b ≡ record a { flow = b.flow }

-- the rows of the table of what it stored, and the node once that was given
abbrev pub rows_stored : RunningNode → Option (List Row)
rows_stored n = option_map (λ (f : Frame). f.rows) (table_stored n.work)

abbrev pub without_rows : RunningNode → RunningNode
without_rows n = record n { work = without_table n.work }
