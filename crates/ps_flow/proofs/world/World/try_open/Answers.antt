-- What an Open leads to.
use Rattle.std.proofs.Common.{◌+◌, ◌≤◌, arith, refl}
use Rattle.ps_flow.proofs.Opened.{begins_phase, breaks_off, can_run, on_ok}
use Rattle.ps_flow.proofs.world.World.try_open.Goals as goal

pub settle-requires-clause-can : goal.settle-requires-clause-can
settle-requires-clause-can g c = λ κs lives.
    let laws = g.met.N.RunNode g.world.𝓛 g.world.𝓜 g.world.𝓡 ((λ s x. x), (λ x. x), (λ x. x), λ x. x) in
    let known = c.requires.whole in
    can_run g.N.RunNode.Has g.N.ComputeNode.HasPorts laws.has_ports known.0 c.args.self.now known.1 known.2

pub returns-in-Ok-settle-clause-opened : goal.returns-in-Ok-settle-clause-opened
returns-in-Ok-settle-clause-opened g c =
    let laws = g.met.N.RunNode g.world.𝓛 g.world.𝓜 g.world.𝓡 ((λ s x. x), (λ x. x), (λ x. x), λ x. x) in
    let own = g.met.N.ComputeNode g.world.𝓛 g.world.𝓜 g.world.𝓡 ((λ s x. x), (λ x. x), (λ x. x), λ x. x) in
    let h = c.args.self.now in
    let room = c.in-Ok.ensures.spare in
    let workers = c.workers.ensures in
    let enough : h.options.workers + 1 ≤ c.reserve.new.self.spare = omega (arith, room, workers) in
    on_ok c.begin.result
    (λ begun F w stands whole plain shut goes.
    begins_phase g.N.RunNode.Has g.N.ComputeNode.stages g.N.ComputeNode.Update F (laws.updates F) w h stands plain goes shut c.in-Some.phase c.in-Some.ensures.1 (record h { graph = c.settle.new.graph; journal = c.reserve.new.self }) c.begin.new.self refl
    c.reserve.ensures.same enough g.N.ComputeNode.HasPorts own.laws (laws.rests F) g.N.ComputeNode.intensive laws.keeps c.in-Ok-settle.ensures.can c.in-Ok-settle.ensures.reached c.in-Ok-settle.ensures.settled c.in-Ok-settle.ensures.origins begun)
    c.begin.ensures.begun

pub returns-in-Err-clause-opened : goal.returns-in-Err-clause-opened
returns-in-Err-clause-opened g c =
    let laws = g.met.N.RunNode g.world.𝓛 g.world.𝓜 g.world.𝓡 ((λ s x. x), (λ x. x), (λ x. x), λ x. x) in
    let h = c.args.self.now in
    let room = c.in-Ok.ensures.spare in
    let workers = c.workers.ensures in
    let enough : h.options.workers + 1 ≤ c.reserve.new.self.spare = omega (arith, room, workers) in
    on_ok c.fail.result
    (λ broken F w stands whole plain shut goes.
    breaks_off g.N.RunNode.Has g.N.ComputeNode.stages g.N.ComputeNode.Update F (laws.updates F) w h stands plain goes shut c.in-Some.phase c.in-Some.ensures.1 (record h { graph = c.settle.new.graph; journal = c.reserve.new.self }) c.fail.new.self refl
    c.reserve.ensures.same enough g.N.ComputeNode.Faults (laws.finds F) c.in-Err.error c.in-Err.ensures.fault broken)
    c.fail.ensures.broken
