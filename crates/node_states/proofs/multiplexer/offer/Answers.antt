-- One output more is answered.
use Rattle.std.proofs.Common.{◌≡◌, ◌+◌, ◌<◌, ◌∷◌, cond, drop, get_or, length, sym, ap, ◌∙◌, arith}
use Rattle.node_states.proofs.Steps.{offer_at, offer_rest}
use Rattle.node_states.proofs.Walks.{write_more}
use Rattle.node_states.specs.Pipes.{is_empty_at}
use Rattle.ps_ports.specs.declared.port_state.PortState.TheVariants as port
use Rattle.ps_ports.specs.Ports.{kept_state}
use Rattle.node_states.proofs.multiplexer.offer.Goals as goal

pub loop-i-preserved : goal.loop-i-preserved
loop-i-preserved c =
    let inside : c.loop-i.i < length c.loop-i.send = omega arith in
    let value : c.answered.result ≡ kept_state (get_or c.loop-i.send c.loop-i.i port.Blocked) (cond (is_empty_at c.args.empties.now c.loop-i.i) c.args.input port.Ready) =
    c.answered.ensures ∙ ap (λ e. kept_state (get_or c.loop-i.send c.loop-i.i port.Blocked) (cond e c.args.input port.Ready)) c.is_empty_at.ensures in
    write_more (offer_rest c.args.input (drop c.loop-i.i c.args.empties.now)) (offer_rest c.args.input (drop (c.loop-i.i + 1) c.args.empties.now)) c.loop-i.send c.loop-i.i port.Blocked c.answered.result _ inside
    (offer_at c.args.input c.args.empties.now c.loop-i.i _ _ ∙ ap (λ v. v ∷ offer_rest c.args.input (drop (c.loop-i.i + 1) c.args.empties.now) (drop (c.loop-i.i + 1) c.loop-i.send)) (sym value)) c.loop-i.invariant
