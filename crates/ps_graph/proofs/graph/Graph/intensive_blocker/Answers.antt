-- A candidate is chosen if it has as many readers that are ready as the one so far.
use Rattle.std.proofs.Common.{◌≡◌, ℕ, ◌≤◌, ◌<◌, Bool, true, false, List, length, refl, sym, ap, ◌∙◌, arith}
use Rattle.std.specs.Prelude.{◌&&◌}
use Rattle.ps_ports.specs.Phases.{is_blocker, ready_readers}
use Rattle.ps_ports.specs.Wires.{Wire}
use Rattle.ps_graph.specs.Running.{are_intensive, chosen_below}
use Rattle.ps_graph.specs.Shown.{wires_of}
use Rattle.ps_graph.proofs.Choosing.{chosen_now, chosen_stays, chosen_still, readers_at}
use Rattle.ps_graph.proofs.graph.Graph.intensive_blocker.Goals as goal
use Rattle.ps_graph.proofs.graph.Graph.intensive_blocker.Goals.{then-is_intensive_blocker+then-readers-most, then-is_intensive_blocker+else-readers-most, else-is_intensive_blocker}

pub loop-number-init : goal.loop-number-init
loop-number-init g c = record { chosen = refl; most = refl }

pub loop-number-preserved : goal.loop-number-preserved
loop-number-preserved g c =
    let ws : List Wire = wires_of c.args.self.now.pipes.slots in
    let intensive : ℕ → Bool = are_intensive g.N.ComputeNode.intensive c.args.self.now in
    let so_far = c.loop-number.invariant in
    elim c.if-is_intensive_blocker.branch [
      | then-is_intensive_blocker+then-readers-most w ↦
          let candidate : (is_blocker ws c.loop-number.number && intensive c.loop-number.number) ≡ true = sym c.is_intensive_blocker.ensures ∙ w.if-is_intensive_blocker.true in
          let readers = w.ready_readers-readers.ensures in
          let most = so_far.most in
          let test = w.if-readers-most.true in
          let enough : readers_at ws (chosen_below ws intensive c.loop-number.number) ≤ ready_readers ws c.loop-number.number = omega (arith, readers, most, test) in
          let now = chosen_now ws intensive c.loop-number.number candidate enough in
          record { chosen = w.chosen-is ∙ now; most = w.most-is ∙ readers ∙ ap (readers_at ws) now }
      | then-is_intensive_blocker+else-readers-most w ↦
          let candidate : (is_blocker ws c.loop-number.number && intensive c.loop-number.number) ≡ true = sym c.is_intensive_blocker.ensures ∙ w.if-is_intensive_blocker.true in
          let readers = w.ready_readers-readers.ensures in
          let most = so_far.most in
          let test = w.if-readers-most.false in
          let fewer : ready_readers ws c.loop-number.number < readers_at ws (chosen_below ws intensive c.loop-number.number) = omega (arith, readers, most, test) in
          let still = chosen_still ws intensive c.loop-number.number candidate fewer in
          record { chosen = w.chosen-is ∙ so_far.chosen ∙ still; most = w.most-is ∙ so_far.most ∙ ap (readers_at ws) still }
      | else-is_intensive_blocker w ↦
          let other : (is_blocker ws c.loop-number.number && intensive c.loop-number.number) ≡ false = sym c.is_intensive_blocker.ensures ∙ w.if-is_intensive_blocker.false in
          let stays = chosen_stays ws intensive c.loop-number.number other in
          record { chosen = w.chosen-is ∙ so_far.chosen ∙ stays; most = w.most-is ∙ so_far.most ∙ ap (readers_at ws) stays }
    ]

pub returns : goal.returns
returns g c =
    let over = c.loop-number-test.false in
    let within = c.loop-number.auto.number-end in
    let count = c.count-number-end.ensures in
    let all : c.loop-number.number ≡ length c.args.self.now.nodes.slots = omega (arith, over, within, count) in
    c.loop-number.invariant.chosen ∙ ap (chosen_below (wires_of c.args.self.now.pipes.slots) (are_intensive g.N.ComputeNode.intensive c.args.self.now)) all
