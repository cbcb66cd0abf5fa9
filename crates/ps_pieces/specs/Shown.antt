-- Which piece of a run's world a piece shows, and which answer an answer.
use Rattle.std.specs.Prelude.{◌≡◌, ℕ, List, [], ◌∷◌, Result, Ok, Err, ⊤}
use Rattle.ps_frame.specs.Functions.{Functions}
use Rattle.ps_frame.specs.Tables.{Fields, Frame, Row}
use Rattle.ps_frame.specs.declared.value.DataFault.{DataFault}
use Rattle.ps_turns.specs.Tasks.{Answer, Piece, Task, bad, computes, good, hands_on}
use Rattle.ps_pieces.specs.Operations.{IsFitFor, kind_computed, rows_taken, schemas_taken}
use Rattle.ps_pieces.specs.declared.answer.Answer.{Answer as GivenAnswer}
use Rattle.ps_pieces.specs.declared.answer.Answer.TheVariants as given
use Rattle.ps_pieces.specs.declared.piece.Piece.{Piece as Held}
use Rattle.ps_pieces.specs.declared.piece.Task.{Task as HeldTask}
use Rattle.ps_pieces.specs.declared.piece.Task.TheVariants as held

-- what is to be done, over which schemas and tables
abbrev pub ShowsTask : Task → List Fields → (tables : List (List Row)) → HeldTask → Type 0
ShowsTask hands_on ss ts (held.HandsOn t) = ts ≡ t.rows ∷ []
ShowsTask (computes p) ss ts (held.Computes q before t) =
    (p.kind ≡ kind_computed q.value before) × (p.origin ≡ q.value.origin.0) × (ss ≡ schemas_taken q.value.operation t) × (ts ≡ rows_taken q.value.operation t)
ShowsTask _ ss ts _ = ⊥

pub record Shows (q : Piece) (h : Held) : Type 0 where
  pub node : h.node ≡ q.node
  pub input : h.input ≡ q.input
  pub number : h.number ≡ q.number
  pub worker : h.worker ≡ q.worker
  pub gives : h.gives ≡ q.gives
  pub task : ShowsTask q.task q.schemas q.tables h.task

-- what is handed on needs nothing, and parameters are fit for their table
abbrev pub IsFit : Functions → HeldTask → Type 0
IsFit F (held.HandsOn t) = ⊤
IsFit F (held.Computes q before t) = IsFitFor F q.value before t

-- the schema of the rows that are handed in
abbrev pub schema_given : HeldTask → Fields
schema_given (held.HandsOn t) = t.schema
schema_given (held.Computes q before t) = q.value.schema

-- the node that its faults are told of; what is handed on has none
abbrev pub origin_of : HeldTask → ℕ
origin_of (held.HandsOn t) = 0
origin_of (held.Computes q before t) = q.value.origin.0

abbrev pub table_given : GivenAnswer → Frame
table_given (given.Rows t) = t

-- rows, or a cause of this node
abbrev pub answer_shown : (origin : ℕ) → Result GivenAnswer DataFault → Answer
answer_shown n (Ok a) = good (table_given a).rows
answer_shown n (Err x) = bad (record { fault = x; node = n })
