-- A hand-in, a move, or the end.
use Rattle.std.proofs.Common.{◌∙◌, rules, subst, sym}
use Rattle.worker_pieces.proofs.Choices.{no_mark, none_on}
use Rattle.flow_driver.proofs.Answering.{left_short}
use Rattle.flow_driver.proofs.driving.Run+N+N+Piece.step.Goals as goal
use Rattle.flow_driver.specs.Runs.{IsAt}

pub busy_worker-requires : goal.busy_worker-requires
busy_worker-requires g c = let r = c.requires in (search rules, (g.C.ComputePiece.told c.args.functions.now, r.0, r.1, r.2, r.3))

pub advance-requires-clause-at : goal.advance-requires-clause-at
advance-requires-clause-at g c = λ κs lives. let r = c.requires in (g.C.ComputePiece.told c.args.functions.now, r.0, r.1, r.2, r.3)

pub advance-requires-clause-unmarked : goal.advance-requires-clause-unmarked
advance-requires-clause-unmarked g c = λ κs lives. no_mark c.args.self.now.world.fault (sym c.has_fault.ensures ∙ c.if-has_fault.false)

pub returns-then-has_fault-clause-fault : goal.returns-then-has_fault-clause-fault
returns-then-has_fault-clause-fault g c = λ shape o w at. c.error.ensures.fault (g.C.ComputePiece.told c.args.functions.now) shape o w at

pub returns-in-Ok-clause-stepped : goal.returns-in-Ok-clause-stepped
returns-in-Ok-clause-stepped g c = λ shape o w at.
    let none = no_mark c.args.self.now.world.fault (sym c.has_fault.ensures ∙ c.if-has_fault.false) in
    let handed = c.in-Ok.ensures.handed shape o w at none in
    (handed.0, handed.1, handed.3, handed.4)

pub returns-in-Ok-advance-clause-finished : goal.returns-in-Ok-advance-clause-finished
returns-in-Ok-advance-clause-finished g c = none_on c.in-Ok-advance.next (λ over. λ shape o w at. over (g.C.ComputePiece.told c.args.functions.now) shape o w at) c.in-Ok-advance.ensures.finished

pub returns-then-has_fault-clause-told : goal.returns-then-has_fault-clause-told
returns-then-has_fault-clause-told g c = let r = c.requires in c.error.ensures.told (g.C.ComputePiece.told c.args.functions.now) r.0 r.1 r.2 r.3

pub returns-then-has_fault-clause-stays : goal.returns-then-has_fault-clause-stays
returns-then-has_fault-clause-stays g c = λ F shape o w at. at

pub returns-in-Err-clause-told : goal.returns-in-Err-clause-told
returns-in-Err-clause-told g c =
    let none = no_mark c.args.self.now.world.fault (sym c.has_fault.ensures ∙ c.if-has_fault.false) in
    sym (left_short c.args.self.now c.hand_in.new.self none c.in-Err.ensures.stays)

pub returns-in-Err-clause-stays : goal.returns-in-Err-clause-stays
returns-in-Err-clause-stays g c = λ F shape o w at. subst (IsAt g.N.RunNode.Has g.N.PieceNode.Shows g.N.ClaimNode.IsFor F shape o w) (sym c.in-Err.ensures.stays) at

pub returns-in-Err-advance-clause-told : goal.returns-in-Err-advance-clause-told
returns-in-Err-advance-clause-told g c = sym c.in-Err-advance.ensures.told
