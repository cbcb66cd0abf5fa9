-- Of a new source none were claimed.
use Rattle.std.proofs.Common.{◌≡◌, ap, ◌∙◌, arith}
use Rattle.plain_nodes.specs.declared.source.InMemorySourceNode.{InMemorySourceNode}
use Rattle.turn_laws.specs.Updating.{SeenNode}
use Rattle.flow_trials.proofs.sources.holds_of_source.Goals as goal

pub loop-init : goal.loop-init
loop-init c =
    let none : c.cut_by.new.self.sent ≡ 0 = ap (λ (n : InMemorySourceNode). n.sent) c.cut_by.ensures ∙ ap (λ (s : SeenNode). s.progress.sent) c.new-source.ensures.new in
    omega (arith, none)
