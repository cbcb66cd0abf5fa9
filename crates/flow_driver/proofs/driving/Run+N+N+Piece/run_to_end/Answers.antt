-- From step to step.
use Rattle.std.proofs.Common.{◌++◌, ◌∷◌, [], arith, refl, rules, subst, sym}
use Rattle.worker_pieces.proofs.Choices.{at_none, at_some}
use Rattle.flow_driver.proofs.Ending.{one_record, records_told}
use Rattle.flow_driver.proofs.Reached.{replay_then}
use Rattle.flow_driver.proofs.driving.Run+N+N+Piece.run_to_end.Goals as goal
use Rattle.flow_driver.specs.Runs.{IsAt}

pub loop-next-init : goal.loop-next-init
loop-next-init g c = λ shape o w at. ([], w, refl, at)

pub step-requires : goal.step-requires
step-requires g c =
    let r = c.requires in
    let now = c.loop-next.invariant r.0 r.1 r.2 r.3 in
    (search rules, (r.0, r.1, now.1, now.3))

pub loop-next-preserved : goal.loop-next-preserved
loop-next-preserved g c = λ shape o w at.
    let now = c.loop-next.invariant shape o w at in
    let step = at_some _ c.in-Ok.next c.in-Some.place c.in-Some.is c.in-Ok.ensures.stepped shape o now.1 now.3 in
    (now.0 ++ step.0 ∷ [], step.1, replay_then (g.C.ComputePiece.told c.args.functions.now) w now.1 step.1 now.0 step.0 now.2 step.2, step.3)

pub loop-next-smaller : goal.loop-next-smaller
loop-next-smaller g c =
    let r = c.requires in
    let now = c.loop-next.invariant r.0 r.1 r.2 r.3 in
    let step = at_some _ c.in-Ok.next c.in-Some.place c.in-Some.is c.in-Ok.ensures.stepped r.0 r.1 now.1 now.3 in
    let more = one_record g.N.RunNode.Has g.N.PieceNode.Shows g.N.ClaimNode.IsFor (g.C.ComputePiece.told c.args.functions.now) r.0 r.1 now.1 step.1 step.0 c.loop-next.self c.step.new.self now.3 step.2 step.3 in
    let told = records_told g.N.RunNode.Has g.N.PieceNode.Shows g.N.ClaimNode.IsFor (g.C.ComputePiece.told c.args.functions.now) r.0 r.1 now.1 c.loop-next.self now.3 c.journal-records.result.now (c.journal-records.ensures.told now.1 now.3.tells) in
    let few = c.journal-records.type_inv.0 in
    omega (arith, more, told, few)

pub returns-in-None-clause-finished : goal.returns-in-None-clause-finished
returns-in-None-clause-finished g c = λ shape o w at.
    let now = c.loop-next.invariant shape o w at in
    let same = at_none c.in-Ok.next c.in-None.is c.in-Ok.ensures.same in
    let over = at_none c.in-Ok.next c.in-None.is c.in-Ok.ensures.finished shape o now.1 now.3 in
    (now.1, over, subst (IsAt g.N.RunNode.Has g.N.PieceNode.Shows g.N.ClaimNode.IsFor (g.C.ComputePiece.told c.args.functions.now) shape o now.1) (sym same.0) now.3)

pub returns-in-None-clause-goes_on : goal.returns-in-None-clause-goes_on
returns-in-None-clause-goes_on g c = λ shape o w at.
    let now = c.loop-next.invariant shape o w at in
    let same = at_none c.in-Ok.next c.in-None.is c.in-Ok.ensures.same in
    (now.0, now.1, now.2, subst (IsAt g.N.RunNode.Has g.N.PieceNode.Shows g.N.ClaimNode.IsFor (g.C.ComputePiece.told c.args.functions.now) shape o now.1) (sym same.0) now.3)

pub returns-in-Err-clause-fault : goal.returns-in-Err-clause-fault
returns-in-Err-clause-fault g c = λ shape o w at.
    let now = c.loop-next.invariant shape o w at in
    c.in-Err.ensures.fault shape o now.1 now.3

pub returns-in-Err-clause-goes_on : goal.returns-in-Err-clause-goes_on
returns-in-Err-clause-goes_on g c = λ shape o w at.
    let now = c.loop-next.invariant shape o w at in
    (now.0, now.1, now.2, c.in-Err.ensures.stays (g.C.ComputePiece.told c.args.functions.now) shape o now.1 now.3)
