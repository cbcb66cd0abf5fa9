-- The rows of an answer have the schema of the piece's node.
use Rattle.std.proofs.Common.{◌≡◌, ◌∙◌, List, Ok, Err, Result}
use Rattle.std.specs.Prelude.{IfOk}
use Rattle.flow_runs.specs.Claims.{IsPieceFor}
use Rattle.flow_runs.specs.Handing.{given_for, schema_in}
use Rattle.ps_frame.specs.Functions.{Functions}
use Rattle.ps_frame.specs.Tables.{Row}
use Rattle.ps_frame.specs.declared.value.DataFault.{DataFault}
use Rattle.ps_meaning.specs.Shape.{PhysicalNode}
use Rattle.ps_pieces.specs.Shown.{origin_of, schema_given, table_given}
use Rattle.ps_pieces.specs.declared.answer.Answer.{Answer as Given}
use Rattle.ps_pieces.specs.declared.piece.Piece.{Piece}
use Rattle.ps_turns.specs.Tasks.{bad, good}

pub of_node : (F : Functions) (piece : Piece) (answer : Result Given DataFault) → IfOk answer (λ a. (table_given a).schema ≡ schema_given piece.task)
    → (p : PhysicalNode) (rs : List Row) → IsPieceFor F p piece → given_for piece answer ≡ good rs → schema_in answer ≡ p.schema
of_node F piece (Ok a) schema p rs is e = schema ∙ is.1
of_node F piece (Err x) schema p rs is e = absurd (let clash : bad (record { fault = x; node = origin_of piece.task }) ≡ good rs = e in cc)
