use Rattle.passing_pieces.proofs.Results.{reached_results}
use Rattle.passing_pieces.proofs.pieces.pieces_of_passing_nodes_have_results.Goals as goal

pub returns : goal.returns
returns c = λ F shape o w n p s from to q sound r there kind reads cf rf ct st cq qn. reached_results F shape n p s sound there kind reads o w r from to cf rf ct st q cq qn
