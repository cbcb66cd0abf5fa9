use Rattle.std.proofs.Common.{◌≤◌, length, arith}
use Rattle.ps_frame.specs.Eval.{picked}
use Rattle.ps_frame.specs.Evaluated.{Holds}
use Rattle.ps_compute.proofs.Places.{zip-all, zip-more}
use Rattle.ps_compute.proofs.selection.gathered.Goals as goal

pub loop-i-preserved : goal.loop-i-preserved
loop-i-preserved g c = λ node.
    zip-more Holds (picked node (g.V.ValueList.values c.args.values.now)) (g.I.ValueList.values c.args.indices.now) c.loop-i.i c.loop-i.cells.items c.push.new.self.items _ c.value.result.now c.value.ensures
    c.in_ok-push.ensures.items (c.loop-i.invariant node) (c.in_ok-pick.ensures.cell node)

pub returns-clause-cells : goal.returns-clause-cells
returns-clause-cells g c = λ node.
    let indices = g.I.ValueList.values c.args.indices.now in
    let h : length indices ≤ c.loop-i.i = omega arith in
    zip-all Holds (picked node (g.V.ValueList.values c.args.values.now)) indices c.loop-i.i c.loop-i.cells.items h (c.loop-i.invariant node)
