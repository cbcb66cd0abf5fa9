-- One flag more; in the end the flags are those of the phase.
use Rattle.std.proofs.Common.{◌≡◌, ℕ, ◌+◌, ◌-◌, ◌<◌, List, length, refl, sym, ap, ◌∙◌, arith}
use Rattle.std.specs.Prelude.{slice_set}
use Rattle.ps_ports.specs.Wires.{Wire}
use Rattle.ps_settle.proofs.Passes.{length_set}
use Rattle.ps_graph.specs.Running.{are_intensive, flag_of, phase_blockers}
use Rattle.ps_graph.specs.Shown.{wires_of}
use Rattle.ps_graph.proofs.Choosing.{blockers_inside}
use Rattle.ps_graph.proofs.Scanning.{scan_more, scan_over, wires_forward}
use Rattle.ps_graph.proofs.graph.Graph.flags.Goals as goal

pub loop-number-init : goal.loop-number-init
loop-number-init g c = record {
  long = (let count = c.count-count.ensures in let long = c.in_ok-flags.ensures.len in omega (arith, count, long));
  each = λ m lo hi. absurd (let count = c.count-count.ensures in omega (arith, lo, hi, count));
}

pub loop-number-preserved : goal.loop-number-preserved
loop-number-preserved g c =
    let ws : List Wire = wires_of c.args.self.now.pipes.slots in
    let bs : List ℕ = phase_blockers g.N.ComputeNode.intensive c.args.self.now in
    let u : ℕ = c.loop-number.number - 1 in
    let test = c.loop-number-test.true in
    let within = c.loop-number.auto.number in
    let count = c.count-count.ensures in
    let long = c.loop-number.invariant.long in
    let next : c.loop-number.number ≡ u + 1 = omega (arith, test) in
    let inside : u < length c.loop-number.flags.items = omega (arith, test, within, count, long) in
    record {
      long = length_set c.loop-number.flags.items u c.is_running-flag.result ∙ long;
      each = scan_more (length c.args.self.now.nodes.slots) ws (wires_forward c.args.self.now c.requires) bs c.loop-number.flags.items (slice_set c.loop-number.flags.items u c.is_running-flag.result) u c.is_running-flag.result refl inside
          (c.is_running-flag.ensures ∙ ap (λ l. flag_of ws bs l u) c.as_slice.ensures.value) (λ m lo hi. c.loop-number.invariant.each m (omega (arith, lo, next)) hi);
    }

pub returns-clause-flagged : goal.returns-clause-flagged
returns-clause-flagged g c =
    let ws : List Wire = wires_of c.args.self.now.pipes.slots in
    let over = c.loop-number-test.false in
    sym (scan_over (length c.args.self.now.nodes.slots) ws (wires_forward c.args.self.now c.requires) (phase_blockers g.N.ComputeNode.intensive c.args.self.now)
    (blockers_inside ws (are_intensive g.N.ComputeNode.intensive c.args.self.now) (length c.args.self.now.nodes.slots)) c.loop-number.flags.items c.loop-number.invariant.long (λ m hi. c.loop-number.invariant.each m (omega (arith, over)) hi))
