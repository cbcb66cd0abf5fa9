-- The node is closed.
use Rattle.std.proofs.Common.{refl, subst, sym}
use Rattle.std.proofs.lemmas.Result.{on_err_weaker, on_ok_weaker}
use Rattle.flow_driver.proofs.Moves.{has_closed, stays_at}
use Rattle.flow_driver.proofs.making.Run+N+N+Piece.close.Goals as goal
use Rattle.ps_flow.specs.Standing.{Stands}

pub returns-clause-made : goal.returns-clause-made
returns-clause-made g c = on_ok_weaker c.close.result
    (λ closed. λ F shape o w worker may.
    has_closed g.N.RunNode.Has g.N.PieceNode.Shows g.N.ClaimNode.IsFor F shape o w worker c.args.node c.args.self.now may _ (λ x here. closed w x (may.at.stands may.unmarked) here) refl) c.close.ensures.closed

pub returns-clause-stays : goal.returns-clause-stays
returns-clause-stays g c = on_err_weaker c.close.result
    (λ left. λ F shape o w at.
    let none = c.requires.5.unmarked in
    stays_at g.N.RunNode.Has g.N.PieceNode.Shows g.N.ClaimNode.IsFor F shape o w 0 c.args.self.now at none _ (subst (Stands g.N.RunNode.Has w) (sym left.0) (at.stands none)) refl) c.close.ensures.memory
