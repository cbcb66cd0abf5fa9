-- The phase is at its end.
use Rattle.std.proofs.Common.{refl, subst, sym}
use Rattle.std.proofs.lemmas.Result.{on_err_weaker, on_ok_weaker}
use Rattle.flow_driver.proofs.Moves.{has_ended, stays_at}
use Rattle.flow_driver.proofs.making.Run+N+N+Piece.end.Goals as goal
use Rattle.ps_flow.specs.Standing.{Stands}

pub returns-clause-made : goal.returns-clause-made
returns-clause-made g c = on_ok_weaker c.end.result
    (λ ended. λ F shape o w worker may.
    has_ended g.N.RunNode.Has g.N.PieceNode.Shows g.N.ClaimNode.IsFor F shape o w worker c.args.self.now may _ (ended w (may.at.stands may.unmarked)) refl) c.end.ensures.ended

pub returns-clause-stays : goal.returns-clause-stays
returns-clause-stays g c = on_err_weaker c.end.result
    (λ left. λ F shape o w at.
    let none = c.requires.5.unmarked in
    stays_at g.N.RunNode.Has g.N.PieceNode.Shows g.N.ClaimNode.IsFor F shape o w 0 c.args.self.now at none _ (subst (Stands g.N.RunNode.Has w) (sym left.0) (at.stands none)) refl) c.end.ensures.memory
