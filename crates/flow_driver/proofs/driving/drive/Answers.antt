-- From the beginning to the end.
use Rattle.std.proofs.Common.{◌∙◌, [], ap, refl, rules, sym}
use Rattle.flow_driver.proofs.Answering.{stands_with}
use Rattle.flow_driver.proofs.driving.drive.Goals as goal
use Rattle.flow_driver.specs.Runs.{error_at}
use Rattle.ps_world.specs.Opening.{opening}

pub run_to_end-requires : goal.run_to_end-requires
run_to_end-requires g c =
    let r = c.requires.built in
    let o = c.args.options.now in
    (search rules, (r.0, o, opening r.0 o, c.in-Ok.ensures.begun (g.C.ComputePiece.told c.args.functions.now) r.0 r.1 r.3))

pub output-requires-clause-over : goal.output-requires-clause-over
output-requires-clause-over g c = λ κs lives.
    let r = c.requires.built in
    let o = c.args.options.now in
    let begun = c.in-Ok.ensures.begun (g.C.ComputePiece.told c.args.functions.now) r.0 r.1 r.3 in
    let over = c.in-Ok-run_to_end.ensures.finished r.0 o (opening r.0 o) begun in
    (g.C.ComputePiece.told c.args.functions.now, r.0, o, over.0, over.2, over.1, r.2)

pub returns-in-Ok-output-clause-answer : goal.returns-in-Ok-output-clause-answer
returns-in-Ok-output-clause-answer g c = λ shape driven one built.
    let o = c.args.options.now in
    let F = g.C.ComputePiece.told c.args.functions.now in
    let over = c.in-Ok-run_to_end.ensures.finished shape o (opening shape o) (c.in-Ok.ensures.begun F shape driven built) in
    c.in-Ok-output.ensures.answer F shape o over.0 over.2 over.1 one

pub returns-clause-fault : goal.returns-clause-fault
returns-clause-fault g c = λ shape driven built.
    let o = c.args.options.now in
    c.in-Err-run_to_end.ensures.fault shape o (opening shape o) (c.in-Ok.ensures.begun (g.C.ComputePiece.told c.args.functions.now) shape driven built)

pub returns-in-Err-clause-told : goal.returns-in-Err-clause-told
returns-in-Err-clause-told g c = λ shape driven built. (opening shape c.args.options.now, ([], refl), refl)

pub returns-in-Ok-run_to_end-clause-told : goal.returns-in-Ok-run_to_end-clause-told
returns-in-Ok-run_to_end-clause-told g c = λ shape driven built.
    let o = c.args.options.now in
    let over = c.in-Ok-run_to_end.ensures.finished shape o (opening shape o) (c.in-Ok.ensures.begun (g.C.ComputePiece.told c.args.functions.now) shape driven built) in
    (over.0, over.2.reached, sym (ap error_at over.1))

pub returns-clause-told : goal.returns-clause-told
returns-clause-told g c = λ shape driven built.
    let F = g.C.ComputePiece.told c.args.functions.now in
    let o = c.args.options.now in
    let at = c.run_to_end.ensures.goes_on shape o (opening shape o) (c.in-Ok.ensures.begun F shape driven built) in
    (at.1, at.3.reached, c.in-Err-run_to_end.ensures.told ∙ stands_with g.N.RunNode.Has g.N.PieceNode.Shows g.N.ClaimNode.IsFor F shape o at.1 c.run_to_end.new.self at.3)
