use Rattle.streaming_pieces.proofs.PieceResults.{piece_result}
use Rattle.streaming_pieces.proofs.results.streaming_pieces_have_results.Goals as goal

pub returns : goal.returns
returns c = λ F shape o w n node q sound r there is cq at. piece_result F shape o w sound r n node there is q cq at
