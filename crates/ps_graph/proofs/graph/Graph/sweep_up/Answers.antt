-- A sweep begins, goes on by one turn, and is over; each step is a turn of another node.
use Rattle.std.proofs.Common.{◌<◌, ◌+◌, refl, sym, subst, ◌∙◌, arith}
use Rattle.ps_settle.proofs.Passes.{up_more, up_start}
use Rattle.ps_graph.specs.Marking.{is_marked}
use Rattle.ps_graph.specs.Shown.{standing_of}
use Rattle.ps_graph.specs.Turning.{origins_of}
use Rattle.ps_graph.proofs.Failing.{fails_later}
use Rattle.ps_graph.proofs.Sweeping.{up_over}
use Rattle.ps_graph.proofs.Turned.{nodes_long}
use Rattle.ps_graph.proofs.graph.Graph.sweep_up.Goals as goal

pub loop-number-init : goal.loop-number-init
loop-number-init g c =
    let laws = g.met.N.ComputeNode g.world.𝓛 g.world.𝓜 g.world.𝓡 ((λ s x. x), (λ x. x), (λ x. x), λ x. x) in
    let long = nodes_long g.N.ComputeNode.HasPorts c.args.self.now c.requires.can in
    record {
      can = c.requires.can;
      ticks = 0;
      counted = omega arith;
      swept = up_start g.N.ComputeNode.stages g.N.ComputeNode.Update laws.laws (standing_of c.args.self.now) (is_marked c.args.here.now) (is_marked c.args.later.now) c.requires.fresh c.requires.others
          (λ n h. subst (λ k. n < k) (sym long) (c.requires.inside n h));
      origins = refl;
    }

pub turn-requires-clause-inside : goal.turn-requires-clause-inside
turn-requires-clause-inside g c =
    let long = nodes_long g.N.ComputeNode.HasPorts c.loop-number.self c.loop-number.invariant.can in
    let ahead = c.loop-number.invariant.swept.ahead c.in-Some.number c.in-Some.ensures.taken in
    omega (arith, ahead, long)

pub loop-number-smaller : goal.loop-number-smaller
loop-number-smaller g c =
    let long = nodes_long g.N.ComputeNode.HasPorts c.args.self.now c.requires.can in
    let ahead = c.loop-number.invariant.swept.ahead c.in-Some.number c.in-Some.ensures.taken in
    let many = c.loop-number.invariant.swept.as_many.0 in
    let counted = c.loop-number.invariant.counted in
    let tick = c.tick.ensures in
    omega (arith, ahead, long, many, counted, tick)

pub loop-number-preserved : goal.loop-number-preserved
loop-number-preserved g c =
    let laws = g.met.N.ComputeNode g.world.𝓛 g.world.𝓜 g.world.𝓡 ((λ s x. x), (λ x. x), (λ x. x), λ x. x) in
    let counted = c.loop-number.invariant.counted in
    let tick = c.tick.ensures in
    record {
      can = c.in-Ok.ensures.can;
      ticks = c.loop-number.invariant.ticks + 1;
      counted = omega (arith, counted, tick);
      swept = up_more g.N.ComputeNode.stages g.N.ComputeNode.Update laws.laws (standing_of c.args.self.now) (standing_of c.loop-number.self) (standing_of c.turn.new.self) c.in-Some.number c.loop-number.invariant.ticks
          (is_marked c.loop-number.here) (is_marked c.take_first.new.self) (is_marked c.turn.new.readers) (is_marked c.loop-number.later) (is_marked c.turn.new.senders) (is_marked c.mark_if.new.marks) c.in-Ok.changed
          c.loop-number.invariant.can.wired c.loop-number.invariant.swept (record { was = c.in-Some.ensures.taken; gone = c.in-Some.ensures.gone; others = c.in-Some.ensures.others }) c.in-Some.ensures.least c.in-Ok.ensures.turned
          c.in_ok-mark_if.ensures.marked;
      origins = c.in-Ok.ensures.origins ∙ c.loop-number.invariant.origins;
    }

pub returns-clause-swept : goal.returns-clause-swept
returns-clause-swept g c = (
  c.loop-number.invariant.ticks,
  c.loop-number.invariant.counted,
  up_over g.N.ComputeNode.stages g.N.ComputeNode.Update (standing_of c.args.self.now) (standing_of c.loop-number.self) (is_marked c.loop-number.here) (is_marked c.take_first.new.self) (is_marked c.loop-number.later) c.loop-number.invariant.ticks
      (c.in_default.ensures.nothing refl) (c.in_default.ensures.stays refl) c.loop-number.invariant.swept,
)

pub returns-clause-cost : goal.returns-clause-cost
returns-clause-cost g c =
    let long = nodes_long g.N.ComputeNode.HasPorts c.args.self.now c.requires.can in
    let few = c.loop-number.invariant.swept.few in
    let many = c.loop-number.invariant.swept.as_many.0 in
    let counted = c.loop-number.invariant.counted in
    omega (arith, few, long, many, counted)

pub returns-in-Err-clause-cost : goal.returns-in-Err-clause-cost
returns-in-Err-clause-cost g c =
    let long = nodes_long g.N.ComputeNode.HasPorts c.args.self.now c.requires.can in
    let ahead = c.loop-number.invariant.swept.ahead c.in-Some.number c.in-Some.ensures.taken in
    let many = c.loop-number.invariant.swept.as_many.0 in
    let counted = c.loop-number.invariant.counted in
    let tick = c.tick.ensures in
    omega (arith, ahead, long, many, counted, tick)

pub returns-in_err-mark_if-clause-cost : goal.returns-in_err-mark_if-clause-cost
returns-in_err-mark_if-clause-cost g c =
    let long = nodes_long g.N.ComputeNode.HasPorts c.args.self.now c.requires.can in
    let ahead = c.loop-number.invariant.swept.ahead c.in-Some.number c.in-Some.ensures.taken in
    let many = c.loop-number.invariant.swept.as_many.0 in
    let counted = c.loop-number.invariant.counted in
    let tick = c.tick.ensures in
    omega (arith, ahead, long, many, counted, tick)

pub returns-in-Err-clause-fault : goal.returns-in-Err-clause-fault
returns-in-Err-clause-fault g c =
    fails_later g.N.ComputeNode.stages g.N.ComputeNode.Update g.N.ComputeNode.Faults (standing_of c.args.self.now) (standing_of c.loop-number.self) (origins_of c.args.self.now.nodes.slots) (origins_of c.loop-number.self.nodes.slots)
    c.in-Err.error c.loop-number.invariant.swept.reached c.loop-number.invariant.origins c.in-Err.ensures.fault
