-- Pieces of nodes of a run, and their answers.
use Rattle.std.specs.Prelude.{[], Result, Ok, Err}
use Rattle.ps_frame.specs.Tables.{Fields}
use Rattle.ps_frame.specs.declared.value.DataFault.{DataFault}
use Rattle.ps_pieces.specs.Shown.{answer_shown, origin_of, table_given}
use Rattle.ps_pieces.specs.declared.answer.Answer.{Answer as Given}
use Rattle.ps_pieces.specs.declared.piece.Piece.{Piece}
use Rattle.ps_turns.specs.Tasks.{Answer}

-- the answer of a run's world: rows, or a cause of the node of the piece
abbrev pub given_for : Piece → Result Given DataFault → Answer
given_for piece answer = answer_shown (origin_of piece.task) answer

-- the schema of its rows; a fault has none
abbrev pub schema_in : Result Given DataFault → Fields
schema_in (Ok a) = (table_given a).schema
schema_in (Err x) = []
