-- The same error, or want of memory.
use Rattle.std.proofs.Common.{◌∙◌, sym}
use Rattle.flow_driver.proofs.Answering.{again_at, same_fault, stands_with}
use Rattle.flow_driver.proofs.driving.Run+N+N+Piece.error.Goals as goal

pub returns-in-Some-clause-told : goal.returns-in-Some-clause-told
returns-in-Some-clause-told g c = λ F shape o w at.
    c.fault_again.ensures ∙ again_at w.ending c.in-Some.error.now (c.in-Some.ensures.told F shape o w at) ∙ sym (stands_with g.N.RunNode.Has g.N.PieceNode.Shows g.N.ClaimNode.IsFor F shape o w c.args.self.now at)

pub returns-in-Some-clause-fault : goal.returns-in-Some-clause-fault
returns-in-Some-clause-fault g c = λ F shape o w at. same_fault F shape c.in-Some.error.now c.fault_again.result c.fault_again.ensures (c.in-Some.ensures.fault F shape o w at)

pub returns-in-None-clause-told : goal.returns-in-None-clause-told
returns-in-None-clause-told g c = λ F shape o w at. c.in-None.ensures.told F shape o w at ∙ sym (stands_with g.N.RunNode.Has g.N.PieceNode.Shows g.N.ClaimNode.IsFor F shape o w c.args.self.now at)
