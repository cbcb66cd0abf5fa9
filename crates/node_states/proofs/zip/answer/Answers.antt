-- Each case writes its row.
use Rattle.std.proofs.Common.{◌≡◌, [], ◌∷◌, cond, sym, ap, ◌∙◌}
use Rattle.node_states.proofs.Answered.{answered}
use Rattle.node_states.proofs.HeadLemmas.{zip_blocked_row, zip_open_row, zip_over_row}
use Rattle.node_states.specs.Views.{sides_of}
use Rattle.ps_ports.specs.declared.port_state.PortState.TheVariants as port
use Rattle.ps_ports.specs.Ports.{first_port, is_blocked, kept_done, repeated}
use Rattle.node_states.proofs.zip.answer.Goals as goal

pub returns-then-is_over : goal.returns-then-is_over
returns-then-is_over c n extend h =
    answered (sides_of c.args.recv.now c.args.send.now) (record { inputs = repeated port.Done c.args.recv.now; outputs = port.Done ∷ [] }) _ _ n c.set_all.ensures c.set_one.ensures
    (zip_over_row _ extend c.args.heads.now n h (sym c.is_over.ensures ∙ c.if-is_over.true))

pub returns-then-any_blocked : goal.returns-then-any_blocked
returns-then-any_blocked c n extend h =
    answered (sides_of c.args.recv.now c.args.send.now) (record { inputs = repeated port.Blocked c.args.recv.now; outputs = port.Blocked ∷ [] }) _ _ n c.set_all-then-any_blocked.ensures c.set_one-then-any_blocked.ensures
    (zip_blocked_row _ extend c.args.heads.now n h (sym c.is_over.ensures ∙ c.if-is_over.false) (sym c.any_blocked.ensures ∙ c.if-any_blocked.true))

pub returns-else-any_blocked : goal.returns-else-any_blocked
returns-else-any_blocked c n extend h =
    let stop : c.blocked_if.result ≡ cond (is_blocked (first_port c.args.send.now)) port.Blocked port.Ready =
    c.blocked_if.ensures ∙ ap (λ b. cond b port.Blocked port.Ready) (c.is_blocked-is_stopped.ensures ∙ ap is_blocked c.first.ensures) in
    answered (sides_of c.args.recv.now c.args.send.now) (record { inputs = repeated (cond (is_blocked (first_port c.args.send.now)) port.Blocked port.Ready) c.args.recv.now; outputs = port.Ready ∷ [] }) _ _ n
    (c.set_all-else-any_blocked.ensures ∙ ap (λ s. kept_done c.args.recv.now (repeated s c.args.recv.now)) stop) c.set_one-else-any_blocked.ensures
    (zip_open_row _ extend c.args.heads.now n h (sym c.is_over.ensures ∙ c.if-is_over.false) (sym c.any_blocked.ensures ∙ c.if-any_blocked.false))
