-- The claim that the move is.
use Rattle.std.proofs.Common.{None, refl, rules}
use Rattle.std.proofs.lemmas.Option.{slice_get_within}
use Rattle.flow_driver.proofs.Moves.{has_claimed, stays_at, the_claim}
use Rattle.flow_driver.proofs.making.Run+N+N+Piece.claim.Goals as goal

pub claim-requires : goal.claim-requires
claim-requires g c =
    let r = c.requires in
    let a = c.args in
    let it = the_claim g.N.RunNode.Has g.N.PieceNode.Shows g.N.ClaimNode.IsFor r.0 r.1 r.2 r.3 a.worker a.node a.input a.self.now r.4 in
    (search rules, (r.0, r.3, it.node, it.claim, r.4.at.stands r.4.unmarked, it.may_claim))

pub give_to-requires : goal.give_to-requires
give_to-requires g c = slice_get_within c.args.self.now.pieces.items c.args.worker None c.requires.4.idle

pub returns-in-Ok-clause-made : goal.returns-in-Ok-clause-made
returns-in-Ok-clause-made g c = λ F shape o w may.
    let a = c.args in
    has_claimed g.N.RunNode.Has g.N.PieceNode.Shows g.N.ClaimNode.IsFor F shape o w a.worker a.node a.input a.self.now may _ c.in-Ok.piece
    (λ x cl m. c.in-Ok.ensures.claimed F w x cl (may.at.stands may.unmarked) m) c.give_to.ensures

pub returns-in-Err-clause-stays : goal.returns-in-Err-clause-stays
returns-in-Err-clause-stays g c = λ F shape o w at.
    let none = c.requires.4.unmarked in
    stays_at g.N.RunNode.Has g.N.PieceNode.Shows g.N.ClaimNode.IsFor F shape o w c.args.worker c.args.self.now at none _ (c.in-Err.ensures.stays w (at.stands none)) refl
