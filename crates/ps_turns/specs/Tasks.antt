-- Pieces of work, and answers to them.
use Rattle.std.specs.Prelude.{ℕ, List, length}
use Rattle.ps_frame.specs.Causes.{Cause}
use Rattle.ps_frame.specs.Tables.{Fields, Row}
use Rattle.ps_frame.specs.declared.value.DataFault.{DataFault}
use Rattle.ps_meaning.specs.Shape.{PhysicalNode}
use Rattle.ps_meaning.specs.Steps.{JoinStep}

-- What is done with a piece's tables: they are handed on, the node's case is computed over them, a partial of them is kept, the node's case is computed over the rows that have these keys,
-- or a join gives what left rows give over all right rows, or the right rows that come last.
pub data Task : Type 0 where
  hands_on : Task
  computes : PhysicalNode → Task
  keeps : PhysicalNode → Task
  gives_part : PhysicalNode → (keys : List Row) → Task
  probes : PhysicalNode → JoinStep → Task
  gives_last : PhysicalNode → JoinStep → Task

-- A piece out: its place, the number under which its answer goes on, and what is to be computed on which tables.
pub record Piece : Type 0 where
  pub node : ℕ
  pub input : ℕ
  pub number : ℕ
  pub worker : ℕ
  pub gives : ℕ
  pub task : Task
  pub schemas : List Fields
  pub tables : List (List Row)

-- rows, a partial of so many rows over all its tables, or a cause
pub data Answer : Type 0 where
  good : List Row → Answer
  partial : ℕ → Answer
  bad : Cause → Answer

-- what a journal says of an answer
pub data Handed : Type 0 where
  rows : ℕ → Handed
  fault : DataFault → Handed

abbrev pub handed_of : Answer → Handed
handed_of (good rs) = rows (length rs)
handed_of (partial n) = rows n
handed_of (bad c) = fault c.fault
