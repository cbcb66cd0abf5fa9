-- A phase opens, or a fault was found; without memory that is marked.
use Rattle.std.proofs.Common.{refl, rules}
use Rattle.std.proofs.lemmas.Result.{on_ok_weaker}
use Rattle.worker_pieces.proofs.Choices.{both_on_err}
use Rattle.flow_driver.proofs.Answering.{marked_short}
use Rattle.flow_driver.proofs.Moves.{has_opened, marked_at, opens_here}
use Rattle.flow_driver.proofs.Standing.{facts_at, plain_at}
use Rattle.worker_pieces.proofs.Whole.{is_whole}
use Rattle.flow_driver.proofs.making.Run+N+N+Piece.open.Goals as goal

pub open_phase-requires : goal.open_phase-requires
open_phase-requires g c =
    let r = c.requires in
    let at = r.5.at in
    (search rules, (r.3, at.stands r.5.unmarked, is_whole r.0 r.3 (facts_at r.0 r.1 r.2 r.3 at.driven at.reached)))

pub returns-clause-made : goal.returns-clause-made
returns-clause-made g c = on_ok_weaker c.open_phase.result
    (λ opened. λ F shape o w worker may.
    let at = may.at in
    let here = opens_here g.N.RunNode.Has g.N.PieceNode.Shows g.N.ClaimNode.IsFor F shape o w worker c.args.self.now may in
    let is = opened F w (at.stands may.unmarked) (is_whole F w (facts_at F shape o w at.driven at.reached)) (plain_at F shape o w at.driven at.reached) here.0 here.1 in
    has_opened g.N.RunNode.Has g.N.PieceNode.Shows g.N.ClaimNode.IsFor F shape o w worker c.args.self.now may _ is.0 is.1 is.2 refl) c.open_phase.ensures.opened

pub returns-clause-stays : goal.returns-clause-stays
returns-clause-stays g c = both_on_err c.open_phase.result
    (λ short marked. λ F shape o w at.
    marked_at g.N.RunNode.Has g.N.PieceNode.Shows g.N.ClaimNode.IsFor F shape o w 0 c.args.self.now at _ (short w (at.stands c.requires.5.unmarked)) marked refl) c.open_phase.ensures.short c.open_phase.ensures.marked

pub returns-clause-marked : goal.returns-clause-marked
returns-clause-marked g c = both_on_err c.open_phase.result
    (λ short marked.
    let r = c.requires in
    marked_short g.N.RunNode.Has g.N.PieceNode.Shows g.N.ClaimNode.IsFor r.0 r.1 r.2 r.3 c.args.self.now r.5.at r.5.unmarked _ (short r.3 (r.5.at.stands r.5.unmarked)) marked) c.open_phase.ensures.short c.open_phase.ensures.marked
