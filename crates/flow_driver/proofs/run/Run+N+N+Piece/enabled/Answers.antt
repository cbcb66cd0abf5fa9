-- What is known of reached worlds, and what is promised of them.
use Rattle.std.proofs.Common.{rules}
use Rattle.worker_pieces.proofs.Choices.{at_some, none_on, on_some, unmarked_by}
use Rattle.flow_driver.proofs.Ending.{is_over}
use Rattle.flow_driver.proofs.Standing.{may_pick_at}
use Rattle.flow_driver.proofs.run.Run+N+N+Piece.enabled.Goals as goal

pub enabled-requires : goal.enabled-requires
enabled-requires g c = (search rules, λ none. (c.requires.4.stands none).linked)

pub returns-clause-some : goal.returns-clause-some
returns-clause-some g c = on_some c.enabled.result (λ m is. λ F shape o w at.
    at_some _ c.enabled.result m is c.enabled.ensures.some F w (at.stands (unmarked_by c.args.self.now.world.fault c.enabled.result m c.enabled.ensures.marked is)) (may_pick_at F shape o w at.driven at.reached))

pub returns-clause-unmarked : goal.returns-clause-unmarked
returns-clause-unmarked g c = on_some c.enabled.result (λ m is. unmarked_by c.args.self.now.world.fault c.enabled.result m c.enabled.ensures.marked is)

pub returns-clause-none : goal.returns-clause-none
returns-clause-none g c = none_on c.enabled.result (λ none. λ F shape o w m at unmarked e. none F w m (at.stands unmarked) (may_pick_at F shape o w at.driven at.reached) unmarked e) c.enabled.ensures.none

pub returns-clause-over : goal.returns-clause-over
returns-clause-over g c = none_on c.enabled.result (λ none. λ F shape o w at unmarked idle.
    let kept = c.streaming_runs_keep_promises.ensures F shape o w at.driven.lawful at.driven.sound at.driven.streaming at.reached in
    is_over g.N.RunNode.Has g.N.PieceNode.Shows g.N.ClaimNode.IsFor F shape o w c.args.self.now at unmarked kept.promises.never_stuck
    (λ m e. none F w m (at.stands unmarked) (may_pick_at F shape o w at.driven at.reached) unmarked e) idle) c.enabled.ensures.none
