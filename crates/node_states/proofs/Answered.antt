-- How what was written on both sides is the answer of a node.
use Rattle.std.proofs.Common.{◌≡◌, List, sym, ap, ◌∙◌}
use Rattle.node_states.specs.Views.{NodeView, answer_to, row_for, sides_of}
use Rattle.ps_ports.specs.declared.port_state.PortState.{PortState}
use Rattle.ps_ports.specs.Ports.{Sides, kept_done, keeping_done}

pub answered : (given row : Sides) (recv send : List PortState) (n : NodeView) → recv ≡ kept_done given.inputs row.inputs → send ≡ kept_done given.outputs row.outputs → row_for given n ≡ row
    → sides_of recv send ≡ answer_to given n
answered given row recv send n r s e =
    ap (λ x. sides_of x send) r ∙ ap (λ y. sides_of (kept_done given.inputs row.inputs) y) s ∙ ap (keeping_done given) (sym e)
