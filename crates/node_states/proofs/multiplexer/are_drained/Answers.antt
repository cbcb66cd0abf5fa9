-- Each output settles the answer, or leaves it to those behind it.
use Rattle.std.proofs.Common.{◌≡◌, ◌||◌, true, false, get_or, sym, ap, ◌∙◌}
use Rattle.node_states.proofs.Steps.{undone_here, undone_more}
use Rattle.node_states.specs.Pipes.{is_empty_at}
use Rattle.ps_ports.specs.declared.port_state.PortState.TheVariants as port
use Rattle.ps_ports.specs.Ports.{is_done}
use Rattle.node_states.proofs.multiplexer.are_drained.Goals as goal

pub returns-then-not-is_drained : goal.returns-then-not-is_drained
returns-then-not-is_drained c =
    let waits : (is_done (get_or c.args.send.now c.loop-i.i port.Blocked) || is_empty_at c.args.empties.now c.loop-i.i) ≡ false =
    ap (λ e. is_done (get_or c.args.send.now c.loop-i.i port.Blocked) || e) (sym c.is_empty_at.ensures) ∙ sym c.is_drained.ensures ∙ c.if-not-is_drained.true in
    sym (undone_here c.args.empties.now c.args.send.now c.loop-i.i c.loop-i-test.true waits) ∙ c.loop-i.invariant

pub loop-i-preserved : goal.loop-i-preserved
loop-i-preserved c =
    let drained : (is_done (get_or c.args.send.now c.loop-i.i port.Blocked) || is_empty_at c.args.empties.now c.loop-i.i) ≡ true =
    ap (λ e. is_done (get_or c.args.send.now c.loop-i.i port.Blocked) || e) (sym c.is_empty_at.ensures) ∙ sym c.is_drained.ensures ∙ c.if-not-is_drained.false in
    undone_more c.args.empties.now c.args.send.now c.loop-i.i c.loop-i-test.true drained ∙ c.loop-i.invariant
