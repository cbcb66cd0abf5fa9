-- One pipe more, and in the end all.
use Rattle.std.proofs.Common.{◌∙◌, ◌<◌, arith, ap, length, subst}
use Rattle.std.specs.Prelude.{map}
use Rattle.ps_flow.proofs.Begun.{next_pipe}
use Rattle.ps_flow.proofs.beginning.empty_pipes.Goals as goal
use Rattle.ps_flow.specs.Openings.{empty_pipe}
use Rattle.ps_graph.proofs.Places.{count_there, length_there}
use Rattle.ps_graph.proofs.Scanning.{take_all}
use Rattle.ps_graph.specs.Shown.{values, wire_of, wires_of}
use Rattle.ps_graph.specs.declared.key.LogicalPipeKey.{LogicalPipeKey}
use Rattle.ps_settle.proofs.Members.{length_map}
use Rattle.world_pipes.specs.Shown.{AreShown}

pub loop-number-init : goal.loop-number-init
loop-number-init g c = λ s room bounds. c.new-pipes.ensures s

pub loop-number-preserved : goal.loop-number-preserved
loop-number-preserved g c = λ s room bounds.
    let count = c.len-number-end.ensures.count ∙ count_there c.args.graph.now.pipes.slots c.requires.linked.pipes_there in
    let test = c.loop-number-test.true in
    let inside : c.loop-number.number < length c.args.graph.now.pipes.slots = omega (arith, count, test) in
    let key = ap (λ (k : LogicalPipeKey). k.0) c.from_number.ensures in
    next_pipe g.N.RunNode.Has c.args.graph.now c.requires.linked s bounds c.loop-number.number c.from_number.result.0 key inside c.is_unbounded-is_unbounded.result c.loop-number.pipes c.add.new.self c.is_unbounded-is_unbounded.ensures (c.loop-number.invariant s room bounds)
    (λ ps sender port receiver input bound shown. c.in_ok-add.ensures.shown s ps sender port receiver input room bound shown)

pub returns-clause-shown : goal.returns-clause-shown
returns-clause-shown g c = λ s room bounds.
    let slots = c.args.graph.now.pipes.slots in
    let count = c.len-number-end.ensures.count ∙ count_there slots c.requires.linked.pipes_there in
    let over = c.loop-number-test.false in
    let long = length_map wire_of (values slots) ∙ length_there slots c.requires.linked.pipes_there in
    subst (λ ws. AreShown s (map empty_pipe ws) c.loop-number.pipes) (take_all c.loop-number.number (wires_of slots) (omega (arith, count, over, long))) (c.loop-number.invariant s room bounds)
