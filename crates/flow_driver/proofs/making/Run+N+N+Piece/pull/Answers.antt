-- The morsel is stored.
use Rattle.std.proofs.Common.{refl}
use Rattle.std.proofs.lemmas.Result.{on_err_weaker, on_ok_weaker}
use Rattle.flow_driver.proofs.Moves.{has_pulled, stays_at}
use Rattle.flow_driver.proofs.making.Run+N+N+Piece.pull.Goals as goal

pub returns-clause-made : goal.returns-clause-made
returns-clause-made g c = on_ok_weaker c.pull.result
    (λ stored. λ F shape o w worker may.
    has_pulled g.N.RunNode.Has g.N.PieceNode.Shows g.N.ClaimNode.IsFor F shape o w worker c.args.node c.args.input c.args.self.now may _ (λ x p m may_store. stored F w x p m (may.at.stands may.unmarked) may_store) refl) c.pull.ensures.pulled

pub returns-clause-stays : goal.returns-clause-stays
returns-clause-stays g c = on_err_weaker c.pull.result
    (λ stays. λ F shape o w at.
    let none = c.requires.5.unmarked in
    stays_at g.N.RunNode.Has g.N.PieceNode.Shows g.N.ClaimNode.IsFor F shape o w 0 c.args.self.now at none _ (stays w (at.stands none)) refl) c.pull.ensures.stays
