-- The piece is taken from its worker.
use Rattle.std.proofs.Common.{◌≡◌, ◌∙◌, List, Some, ap, rules, subst}
use Rattle.std.proofs.lemmas.Option.{slice_get_within}
use Rattle.worker_pieces.proofs.Choices.{no_piece, same_piece}
use Rattle.flow_driver.proofs.handing.Run+N+N+Piece.give_in.Goals as goal
use Rattle.ps_flow.specs.Standing.{Stands}
use Rattle.ps_frame.specs.Tables.{Row}
use Rattle.ps_turns.specs.Tasks.{good}
use Rattle.ps_world.specs.Answers.{answered}

pub take_from-requires : goal.take_from-requires
take_from-requires g c = slice_get_within c.args.self.now.pieces.items c.args.worker (Some c.requires.piece.0) c.requires.piece.1

pub hand_in-requires : goal.hand_in-requires
hand_in-requires g c = (search rules, λ none. c.requires.may none c.in-Some.piece (c.take_from.ensures.taken ∙ ap Some c.in-Some.is))

pub unreachable-requires : goal.unreachable-requires
unreachable-requires g c = no_piece _ c.requires.piece.0 c.requires.piece.1 (c.take_from.ensures.taken ∙ ap Some c.in-None.is)

pub returns-clause-answered : goal.returns-clause-answered
returns-clause-answered g c = λ none piece there G u q x stands may.
    let same = same_piece _ c.in-Some.piece piece (c.take_from.ensures.taken ∙ ap Some c.in-Some.is) there in
    subst (λ p. g.N.PieceNode.Shows q p → ((rs : List Row) → g.N.PieceNode.given p c.args.answer ≡ good rs → g.N.PieceNode.schema_given c.args.answer ≡ x.node.schema) → Stands g.N.RunNode.Has (answered u q (g.N.PieceNode.given p c.args.answer)) c.hand_in.new.self) same
    (c.hand_in.ensures.answered none G u q x stands may)
