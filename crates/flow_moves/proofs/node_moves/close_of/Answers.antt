-- By whether a piece of the node is out.
use Rattle.std.proofs.Common.{◌≡◌, ◌∙◌, false, sym, true}
use Rattle.flow_moves.proofs.Moves.{closes, closes_later}
use Rattle.flow_moves.proofs.Parts.{outs_out}
use Rattle.flow_moves.proofs.node_moves.close_of.Goals as goal

pub returns-then-has_piece_of : goal.returns-then-has_piece_of
returns-then-has_piece_of g c = λ F w x stands at finished nothing.
    let out = outs_out g.N.RunNode.Has w c.args.world.now stands c.outs.result.now c.outs.ensures in
    closes_later F w c.args.node nothing (λ none. absurd (let clash : true ≡ false = sym c.if-has_piece_of.true ∙ (c.has_piece_of.ensures w.options.workers w.outs out).1 none in cc))

pub returns-else-has_piece_of : goal.returns-else-has_piece_of
returns-else-has_piece_of g c = λ F w x stands at finished nothing.
    let out = outs_out g.N.RunNode.Has w c.args.world.now stands c.outs.result.now c.outs.ensures in
    closes F w c.args.node x at ((c.has_piece_of.ensures w.options.workers w.outs out).0 c.if-has_piece_of.false) finished
