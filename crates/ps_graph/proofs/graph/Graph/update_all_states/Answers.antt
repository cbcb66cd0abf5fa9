-- All nodes are marked at first; each two sweeps lead on, or to rest.
use Rattle.std.proofs.Common.{◌≡◌, ◌+◌, true, false, refl, sym, ◌∙◌, arith}
use Rattle.ps_settle.proofs.Passes.{at_rest, begun_within, both_swept, down_reached, down_within, first_marks, half_within, less, of_later, up_reached, up_within}
use Rattle.ps_graph.specs.Marking.{is_marked}
use Rattle.ps_graph.specs.Shown.{standing_of}
use Rattle.ps_graph.specs.Turning.{origins_of}
use Rattle.ps_graph.proofs.Failing.{fails_later}
use Rattle.ps_graph.proofs.Turned.{limit_slots, nodes_long}
use Rattle.ps_graph.proofs.graph.Graph.update_all_states.Goals as goal

pub loop-error-init : goal.loop-error-init
loop-error-init g c =
    let laws = g.met.N.ComputeNode g.world.𝓛 g.world.𝓜 g.world.𝓡 ((λ s x. x), (λ x. x), (λ x. x), λ x. x) in
    let long = nodes_long g.N.ComputeNode.HasPorts c.args.self.now c.requires.can in
    let count = c.count.ensures in
    record {
      can = c.requires.can;
      ticks = 0;
      counted = omega arith;
      swept = first_marks g.N.ComputeNode.stages g.N.ComputeNode.Update laws.laws (standing_of c.args.self.now) (is_marked c.in_ok-upward.upward) (λ n h. c.in_ok-upward.ensures.marked n (omega (arith, h, long, count)))
          (λ n h. let i = c.in_ok-upward.ensures.inside n h in omega (arith, i, long, count));
      fresh = c.new-downward.ensures;
      origins = refl;
    }

pub sweep_up-requires-clause-inside : goal.sweep_up-requires-clause-inside
sweep_up-requires-clause-inside g c = λ lifetimes outlive n h.
    let long = nodes_long g.N.ComputeNode.HasPorts c.loop-error.self c.loop-error.invariant.can in
    let i = c.loop-error.invariant.swept.inside n h in
    omega (arith, i, long)

pub returns-in-Err-clause-limit : goal.returns-in-Err-clause-limit
returns-in-Err-clause-limit g c =
    let laws = g.met.N.ComputeNode g.world.𝓛 g.world.𝓜 g.world.𝓡 ((λ s x. x), (λ x. x), (λ x. x), λ x. x) in
    let limit = limit_slots g.N.ComputeNode.HasPorts c.args.self.now c.requires.can in
    let counted = c.loop-error.invariant.counted in
    let long = nodes_long g.N.ComputeNode.HasPorts c.args.self.now c.requires.can in
    let long' = nodes_long g.N.ComputeNode.HasPorts c.loop-error.self c.loop-error.invariant.can in
    let many = c.loop-error.invariant.swept.as_many.0 in
    let cost = c.in-Err.ensures.cost in
    let within = begun_within g.N.ComputeNode.stages g.N.ComputeNode.Update laws.laws (standing_of c.args.self.now) (standing_of c.loop-error.self) (is_marked c.loop-error.upward) c.loop-error.invariant.ticks c.loop-error.invariant.swept in
    omega (arith, limit, counted, long, long', many, cost, within)

pub returns-in-Err-clause-fault : goal.returns-in-Err-clause-fault
returns-in-Err-clause-fault g c =
    fails_later g.N.ComputeNode.stages g.N.ComputeNode.Update g.N.ComputeNode.Faults (standing_of c.args.self.now) (standing_of c.loop-error.self) (origins_of c.args.self.now.nodes.slots) (origins_of c.loop-error.self.nodes.slots)
    c.in-Err.error c.loop-error.invariant.swept.reached c.loop-error.invariant.origins c.in-Err.ensures.fault

pub returns-then-is_empty-clause-reached : goal.returns-then-is_empty-clause-reached
returns-then-is_empty-clause-reached g c =
    let laws = g.met.N.ComputeNode g.world.𝓛 g.world.𝓜 g.world.𝓡 ((λ s x. x), (λ x. x), (λ x. x), λ x. x) in
    up_reached g.N.ComputeNode.stages g.N.ComputeNode.Update laws.laws (standing_of c.args.self.now) (standing_of c.loop-error.self) (standing_of c.sweep_up.new.self) (is_marked c.loop-error.upward) (is_marked c.sweep_up.new.here) (is_marked c.sweep_up.new.later) c.loop-error.invariant.ticks c.in-Ok.ensures.swept.0 c.loop-error.invariant.swept c.in-Ok.ensures.swept.2

pub returns-then-is_empty-clause-settled : goal.returns-then-is_empty-clause-settled
returns-then-is_empty-clause-settled g c =
    let laws = g.met.N.ComputeNode g.world.𝓛 g.world.𝓜 g.world.𝓡 ((λ s x. x), (λ x. x), (λ x. x), λ x. x) in
    at_rest g.N.ComputeNode.stages g.N.ComputeNode.Update laws.laws (standing_of c.sweep_up.new.self) (is_marked c.sweep_up.new.later) c.in-Ok.ensures.can.wired (of_later g.N.ComputeNode.stages g.N.ComputeNode.Update laws.laws (standing_of c.sweep_up.new.self) (is_marked c.sweep_up.new.here) (is_marked c.sweep_up.new.later) c.in-Ok.ensures.over c.in-Ok.ensures.swept.2.others) (c.is_empty.ensures.0 c.if-is_empty.true)

pub returns-then-is_empty-clause-limit : goal.returns-then-is_empty-clause-limit
returns-then-is_empty-clause-limit g c =
    let laws = g.met.N.ComputeNode g.world.𝓛 g.world.𝓜 g.world.𝓡 ((λ s x. x), (λ x. x), (λ x. x), λ x. x) in
    let limit = limit_slots g.N.ComputeNode.HasPorts c.args.self.now c.requires.can in
    let counted = c.loop-error.invariant.counted in
    let up = c.in-Ok.ensures.swept.1 in
    let within = up_within g.N.ComputeNode.stages g.N.ComputeNode.Update laws.laws (standing_of c.args.self.now) (standing_of c.loop-error.self) (standing_of c.sweep_up.new.self) (is_marked c.loop-error.upward) (is_marked c.sweep_up.new.here) (is_marked c.sweep_up.new.later) c.loop-error.invariant.ticks c.in-Ok.ensures.swept.0 c.loop-error.invariant.swept c.in-Ok.ensures.swept.2 in
    omega (arith, limit, counted, up, within)

pub sweep_down-requires-clause-inside : goal.sweep_down-requires-clause-inside
sweep_down-requires-clause-inside g c = λ lifetimes outlive n h.
    let long = nodes_long g.N.ComputeNode.HasPorts c.sweep_up.new.self c.in-Ok.ensures.can in
    let i = c.in-Ok.ensures.swept.2.inside n h in
    omega (arith, i, long)

pub returns-in-Err-sweep_down-clause-limit : goal.returns-in-Err-sweep_down-clause-limit
returns-in-Err-sweep_down-clause-limit g c =
    let laws = g.met.N.ComputeNode g.world.𝓛 g.world.𝓜 g.world.𝓡 ((λ s x. x), (λ x. x), (λ x. x), λ x. x) in
    let limit = limit_slots g.N.ComputeNode.HasPorts c.args.self.now c.requires.can in
    let counted = c.loop-error.invariant.counted in
    let long = nodes_long g.N.ComputeNode.HasPorts c.args.self.now c.requires.can in
    let long' = nodes_long g.N.ComputeNode.HasPorts c.sweep_up.new.self c.in-Ok.ensures.can in
    let many = c.in-Ok.ensures.swept.2.as_many.0 in
    let many' = c.loop-error.invariant.swept.as_many.0 in
    let up = c.in-Ok.ensures.swept.1 in
    let cost = c.in-Err-sweep_down.ensures.cost in
    let within = half_within g.N.ComputeNode.stages g.N.ComputeNode.Update laws.laws (standing_of c.args.self.now) (standing_of c.loop-error.self) (standing_of c.sweep_up.new.self) (is_marked c.loop-error.upward) (is_marked c.sweep_up.new.here) (is_marked c.sweep_up.new.later) c.loop-error.invariant.ticks c.in-Ok.ensures.swept.0 c.loop-error.invariant.swept c.in-Ok.ensures.swept.2 in
    omega (arith, limit, counted, long, long', many, many', up, cost, within)

pub returns-in-Err-sweep_down-clause-fault : goal.returns-in-Err-sweep_down-clause-fault
returns-in-Err-sweep_down-clause-fault g c =
    let laws = g.met.N.ComputeNode g.world.𝓛 g.world.𝓜 g.world.𝓡 ((λ s x. x), (λ x. x), (λ x. x), λ x. x) in
    fails_later g.N.ComputeNode.stages g.N.ComputeNode.Update g.N.ComputeNode.Faults (standing_of c.args.self.now) (standing_of c.sweep_up.new.self) (origins_of c.args.self.now.nodes.slots) (origins_of c.sweep_up.new.self.nodes.slots)
    c.in-Err-sweep_down.error (up_reached g.N.ComputeNode.stages g.N.ComputeNode.Update laws.laws (standing_of c.args.self.now) (standing_of c.loop-error.self) (standing_of c.sweep_up.new.self) (is_marked c.loop-error.upward) (is_marked c.sweep_up.new.here) (is_marked c.sweep_up.new.later) c.loop-error.invariant.ticks c.in-Ok.ensures.swept.0 c.loop-error.invariant.swept c.in-Ok.ensures.swept.2) (c.in-Ok.ensures.origins ∙ c.loop-error.invariant.origins) c.in-Err-sweep_down.ensures.fault

pub returns-then-is_empty-2-clause-reached : goal.returns-then-is_empty-2-clause-reached
returns-then-is_empty-2-clause-reached g c =
    let laws = g.met.N.ComputeNode g.world.𝓛 g.world.𝓜 g.world.𝓡 ((λ s x. x), (λ x. x), (λ x. x), λ x. x) in
    down_reached g.N.ComputeNode.stages g.N.ComputeNode.Update laws.laws (standing_of c.args.self.now) (standing_of c.loop-error.self) (standing_of c.sweep_up.new.self) (is_marked c.loop-error.upward) (is_marked c.sweep_up.new.here) (is_marked c.sweep_up.new.later) c.loop-error.invariant.ticks c.in-Ok.ensures.swept.0 c.loop-error.invariant.swept c.in-Ok.ensures.swept.2 c.in-Ok.ensures.over (standing_of c.sweep_down.new.self) (is_marked c.sweep_down.new.here) (is_marked c.sweep_down.new.later) c.in-Ok-sweep_down.ensures.swept.0 c.in-Ok-sweep_down.ensures.swept.2

pub returns-then-is_empty-2-clause-settled : goal.returns-then-is_empty-2-clause-settled
returns-then-is_empty-2-clause-settled g c =
    let laws = g.met.N.ComputeNode g.world.𝓛 g.world.𝓜 g.world.𝓡 ((λ s x. x), (λ x. x), (λ x. x), λ x. x) in
    at_rest g.N.ComputeNode.stages g.N.ComputeNode.Update laws.laws (standing_of c.sweep_down.new.self) (is_marked c.sweep_down.new.later) c.in-Ok-sweep_down.ensures.can.wired (of_later g.N.ComputeNode.stages g.N.ComputeNode.Update laws.laws (standing_of c.sweep_down.new.self) (is_marked c.sweep_down.new.here) (is_marked c.sweep_down.new.later) c.in-Ok-sweep_down.ensures.over c.in-Ok-sweep_down.ensures.swept.2.others) (c.is_empty-in-loop-error.ensures.0 c.if-is_empty-2.true)

pub returns-then-is_empty-2-clause-limit : goal.returns-then-is_empty-2-clause-limit
returns-then-is_empty-2-clause-limit g c =
    let laws = g.met.N.ComputeNode g.world.𝓛 g.world.𝓜 g.world.𝓡 ((λ s x. x), (λ x. x), (λ x. x), λ x. x) in
    let limit = limit_slots g.N.ComputeNode.HasPorts c.args.self.now c.requires.can in
    let counted = c.loop-error.invariant.counted in
    let up = c.in-Ok.ensures.swept.1 in
    let down = c.in-Ok-sweep_down.ensures.swept.1 in
    let within = down_within g.N.ComputeNode.stages g.N.ComputeNode.Update laws.laws (standing_of c.args.self.now) (standing_of c.loop-error.self) (standing_of c.sweep_up.new.self) (is_marked c.loop-error.upward) (is_marked c.sweep_up.new.here) (is_marked c.sweep_up.new.later) c.loop-error.invariant.ticks c.in-Ok.ensures.swept.0 c.loop-error.invariant.swept c.in-Ok.ensures.swept.2 c.in-Ok.ensures.over (standing_of c.sweep_down.new.self) (is_marked c.sweep_down.new.here) (is_marked c.sweep_down.new.later) c.in-Ok-sweep_down.ensures.swept.0 c.in-Ok-sweep_down.ensures.swept.2 in
    omega (arith, limit, counted, up, down, within)

pub loop-error-preserved : goal.loop-error-preserved
loop-error-preserved g c =
    let laws = g.met.N.ComputeNode g.world.𝓛 g.world.𝓜 g.world.𝓡 ((λ s x. x), (λ x. x), (λ x. x), λ x. x) in
    let counted = c.loop-error.invariant.counted in
    let up = c.in-Ok.ensures.swept.1 in
    let down = c.in-Ok-sweep_down.ensures.swept.1 in
    record {
      can = c.in-Ok-sweep_down.ensures.can;
      ticks = c.loop-error.invariant.ticks + c.in-Ok.ensures.swept.0 + c.in-Ok-sweep_down.ensures.swept.0;
      counted = omega (arith, counted, up, down);
      swept = both_swept g.N.ComputeNode.stages g.N.ComputeNode.Update laws.laws (standing_of c.args.self.now) (standing_of c.loop-error.self) (standing_of c.sweep_up.new.self) (is_marked c.loop-error.upward) (is_marked c.sweep_up.new.here) (is_marked c.sweep_up.new.later) c.loop-error.invariant.ticks c.in-Ok.ensures.swept.0 c.loop-error.invariant.swept c.in-Ok.ensures.swept.2 c.in-Ok.ensures.over (standing_of c.sweep_down.new.self) (is_marked c.sweep_down.new.here) (is_marked c.sweep_down.new.later) c.in-Ok-sweep_down.ensures.swept.0 c.in-Ok-sweep_down.ensures.swept.2 c.in-Ok-sweep_down.ensures.over (λ all. let t = c.is_empty-in-loop-error.ensures.1 all in absurd (let clash : false ≡ true = sym c.if-is_empty-2.false ∙ t in cc));
      fresh = c.in-Ok-sweep_down.ensures.over;
      origins = c.in-Ok-sweep_down.ensures.origins ∙ c.in-Ok.ensures.origins ∙ c.loop-error.invariant.origins;
    }

pub loop-error-smaller : goal.loop-error-smaller
loop-error-smaller g c =
    let laws = g.met.N.ComputeNode g.world.𝓛 g.world.𝓜 g.world.𝓡 ((λ s x. x), (λ x. x), (λ x. x), λ x. x) in
    less g.N.ComputeNode.stages g.N.ComputeNode.Update laws.laws (standing_of c.args.self.now) (standing_of c.loop-error.self) (standing_of c.sweep_up.new.self) (is_marked c.loop-error.upward) (is_marked c.sweep_up.new.here) (is_marked c.sweep_up.new.later) c.loop-error.invariant.ticks c.in-Ok.ensures.swept.0 c.loop-error.invariant.swept c.in-Ok.ensures.swept.2 c.in-Ok.ensures.over (standing_of c.sweep_down.new.self) (is_marked c.sweep_down.new.here) (is_marked c.sweep_down.new.later) c.in-Ok-sweep_down.ensures.swept.0 c.in-Ok-sweep_down.ensures.swept.2 (λ all. let t = c.is_empty-in-loop-error.ensures.1 all in absurd (let clash : false ≡ true = sym c.if-is_empty-2.false ∙ t in cc))
