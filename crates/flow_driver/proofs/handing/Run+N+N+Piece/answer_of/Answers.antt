-- The piece is there, and may be computed.
use Rattle.std.proofs.Common.{subst}
use Rattle.worker_pieces.proofs.Choices.{same_piece}
use Rattle.flow_driver.proofs.handing.Run+N+N+Piece.answer_of.Goals as goal

pub compute-requires : goal.compute-requires
compute-requires g c =
    let r = c.requires in
    let same = same_piece _ r.0 c.in-Some.piece.now r.1 c.in-Some.ensures.some in
    record { fit = (r.2.0, subst (g.N.ClaimNode.IsFor (g.C.ComputePiece.told c.args.functions.now) r.2.0) same r.2.1) }

pub unreachable-requires : goal.unreachable-requires
unreachable-requires g c = c.in-None.ensures.none c.requires.0 c.requires.1
