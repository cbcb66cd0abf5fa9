-- One node more, and in the end all.
use Rattle.std.proofs.Common.{◌≤◌, ◌∙◌, ap, arith, length, sym}
use Rattle.ps_graph.specs.declared.key.GraphNodeKey.{GraphNodeKey}
use Rattle.flow_run_trials.proofs.Looking.{found_new, found_old}
use Rattle.flow_run_trials.proofs.Plans.{one_sink_found}
use Rattle.flow_run_trials.specs.Ready.{IsSink}
use Rattle.flow_run_trials.proofs.looks.one_sink.Goals as goal
use Rattle.flow_run_trials.proofs.looks.one_sink.Goals.{else-is_sink_at, then-is_sink_at+else-is_some}

pub loop-number-preserved : goal.loop-number-preserved
loop-number-preserved c =
    let slots = c.args.graph.now.nodes.slots in
    let key = ap (λ (k : GraphNodeKey). k.0) c.from_number.ensures in
    elim c.if-is_sink_at.branch [
      | then-is_sink_at+else-is_some w ↦
          found_new IsSink slots c.loop-number.number c.from_number.result.0 c.loop-number.found c.if-is_sink_at.found c.is_sink_at.result key w.if-is_sink_at.true c.is_sink_at.ensures.there c.is_sink_at.ensures.kind c.loop-number.invariant (sym w.is_some.ensures ∙ w.if-is_some.false) w.found-is
      | else-is_sink_at w ↦ found_old IsSink slots c.loop-number.number c.from_number.result.0 c.loop-number.found c.if-is_sink_at.found c.is_sink_at.result key w.if-is_sink_at.false c.is_sink_at.ensures.kind c.loop-number.invariant w.found-is
    ]

pub returns : goal.returns
returns c =
    let all = c.inserts-number-end.ensures in
    let test = c.loop-number-test.false in
    let long : length c.args.graph.now.nodes.slots ≤ c.loop-number.number = omega (arith, all, test) in
    one_sink_found c.args.graph.now.nodes.slots c.loop-number.number c.loop-number.found long c.loop-number.invariant
