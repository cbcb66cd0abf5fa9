use Rattle.join_run_laws.proofs.JoinPieces.{join_names, join_result}
use Rattle.join_run_laws.proofs.pieces.pieces_of_joins.Goals as goal

pub returns-clause-results : goal.returns-clause-results
returns-clause-results c = λ F w n node j known there shown is holds q cq at. join_result F w n node j known there shown is holds q cq at

pub returns-clause-causes : goal.returns-clause-causes
returns-clause-causes c = λ F w n node j known there shown is holds q cq at cause result. join_names F w n node j known there shown is holds q cq at cause result
