-- A move, or none.
use Rattle.std.proofs.Common.{arith, rules}
use Rattle.flow_driver.proofs.Answering.{still_short}
use Rattle.flow_driver.proofs.Ending.{idle_there}
use Rattle.flow_driver.proofs.driving.Run+N+N+Piece.advance.Goals as goal

pub make-requires : goal.make-requires
make-requires g c =
    let r = c.requires.at in
    let seats = r.4.seats in
    let some = r.2.some_workers in
    let idle = idle_there c.args.self.now.pieces.items 0 (omega (arith, seats, some)) c.requires.idle in
    (search rules, (r.0, r.1, r.2, r.3, record { at = r.4; unmarked = c.requires.unmarked; idle = idle; enabled = c.in-Some.ensures.some r.0 r.1 r.2 r.3 r.4 }))

pub returns-in-Ok-clause-stepped : goal.returns-in-Ok-clause-stepped
returns-in-Ok-clause-stepped g c = λ F shape o w at.
    let seats = at.seats in
    let some = o.some_workers in
    let idle = idle_there c.args.self.now.pieces.items 0 (omega (arith, seats, some)) c.requires.idle in
    let made = c.in-Ok.ensures.made F shape o w (record { at = at; unmarked = c.requires.unmarked; idle = idle; enabled = c.in-Some.ensures.some F shape o w at }) in
    (made.0, made.1, made.3, made.4)

pub returns-in-None-clause-finished : goal.returns-in-None-clause-finished
returns-in-None-clause-finished g c = λ F shape o w at. c.in-None.ensures.over F shape o w at c.requires.unmarked c.requires.idle

pub returns-in-Err-clause-told : goal.returns-in-Err-clause-told
returns-in-Err-clause-told g c =
    let r = c.requires.at in
    still_short g.N.RunNode.Has g.N.PieceNode.Shows g.N.ClaimNode.IsFor r.0 r.1 r.2 r.3 c.args.self.now c.make.new.self r.4 c.requires.unmarked (c.in-Err.ensures.stays r.0 r.1 r.2 r.3 r.4)
