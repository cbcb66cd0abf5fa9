-- The sink's table.
use Rattle.std.proofs.Common.{rules, subst, sym}
use Rattle.std.proofs.lemmas.Result.{IfOk-weaker}
use Rattle.flow_driver.proofs.Answering.{is_answer, is_sink, the_sink}
use Rattle.flow_driver.proofs.run.Run+N+N+Piece.output.Goals as goal
use Rattle.flow_driver.specs.Runs.{IsAnswer}

pub output-requires : goal.output-requires
output-requires g c =
    let r = c.requires.over in
    let at = r.4 in
    let one = r.6 in
    (search rules, (r.3, one.place, the_sink r.0 r.1 r.2 r.3 at.reached one, at.stands c.requires.unmarked, is_sink r.0 r.1 r.2 r.3 at.reached one))

pub returns-clause-answer : goal.returns-clause-answer
returns-clause-answer g c = IfOk-weaker c.output.result _ _
    (λ table told. λ F shape o w at over one.
    let kept = c.streaming_runs_keep_promises.ensures F shape o w at.driven.lawful at.driven.sound at.driven.streaming at.reached in
    subst (IsAnswer F shape) (sym (told w one.place (the_sink F shape o w at.reached one) (at.stands c.requires.unmarked) (is_sink F shape o w at.reached one)))
    (is_answer F shape o w at.reached one (kept.promises.answered.0 over).0)) c.output.ensures.table
