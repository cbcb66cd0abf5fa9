-- The piece is out in the run's world, and what was computed is one of its results.
use Rattle.std.proofs.Common.{◌∙◌, rules, sym}
use Rattle.worker_pieces.proofs.Choices.{if_none, no_mark, some_mark}
use Rattle.flow_driver.proofs.HandIns.{has, has_handed_in, some_hand_in}
use Rattle.flow_driver.proofs.handing.Run+N+N+Piece.hand_in.Goals as goal

pub answer_of-requires : goal.answer_of-requires
answer_of-requires g c =
    let none = no_mark c.args.self.now.world.fault (sym c.has_fault.ensures ∙ c.if-has_fault.false) in
    let r = c.requires.at in
    let p = c.requires.piece in
    let it = has g.N.RunNode.Has g.N.PieceNode.Shows g.N.ClaimNode.IsFor (g.C.ComputePiece.told c.args.functions.now) r.0 r.1 r.2 c.args.self.now r.3 none c.args.worker p.0 p.1 in
    (search rules, (p.0, p.1, (it.node, it.suits)))

pub give_in-requires-clause-may : goal.give_in-requires-clause-may
give_in-requires-clause-may g c = λ κs lives none piece there.
    let r = c.requires.at in
    some_hand_in g.N.RunNode.Has g.N.PieceNode.Shows g.N.ClaimNode.IsFor (g.C.ComputePiece.told c.args.functions.now) r.0 r.1 r.2 c.args.self.now r.3 none c.args.worker piece there

pub returns-then-has_fault-clause-handed : goal.returns-then-has_fault-clause-handed
returns-then-has_fault-clause-handed g c = λ shape o w at none. absurd (some_mark c.args.self.now.world.fault (sym c.has_fault.ensures ∙ c.if-has_fault.true) none)

pub returns-in-Ok-clause-handed : goal.returns-in-Ok-clause-handed
returns-in-Ok-clause-handed g c = λ shape o w at none.
    let p = c.requires.piece in
    has_handed_in g.N.RunNode.Has g.N.PieceNode.Shows g.N.ClaimNode.IsFor (g.C.ComputePiece.told c.args.functions.now) shape o w c.args.self.now at none c.args.worker p.0 p.1 _
    (g.N.PieceNode.given p.0 c.in-Ok.answer) (g.N.PieceNode.schema_given c.in-Ok.answer) (c.in-Ok.ensures.result p.0 p.1) (c.in-Ok.ensures.schema p.0 p.1)
    (λ u q x stands may shows schema. c.give_in.ensures.answered none p.0 p.1 (g.C.ComputePiece.told c.args.functions.now) u q x stands may shows schema) c.give_in.ensures.left

pub returns-in-Ok-clause-faulty : goal.returns-in-Ok-clause-faulty
returns-in-Ok-clause-faulty g c = if_none _ c.args.self.now.world.fault (no_mark c.args.self.now.world.fault (sym c.has_fault.ensures ∙ c.if-has_fault.false))
