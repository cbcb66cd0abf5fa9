-- The fault is a cause of the node that the piece's task names.
use Rattle.std.proofs.Common.{◌∙◌, ℕ, ap}
use Rattle.flow_runs.specs.Handing.{given_for}
use Rattle.ps_meaning.specs.Errors.{fault_error}
use Rattle.ps_pieces.specs.Shown.{origin_of}
use Rattle.flow_runs.proofs.pieces.RunningNodePieceNode.told.Goals as goal

pub returns-in-Err-clause-fault : goal.returns-in-Err-clause-fault
returns-in-Err-clause-fault c =
    (record { fault = c.in-Err.fault; node = origin_of c.args.piece.now.task }, ap (given_for c.args.piece.now) c.in-Err.is, c.fault_at.ensures ∙ ap (λ (n : ℕ). fault_error n c.in-Err.fault) c.origin.ensures)
