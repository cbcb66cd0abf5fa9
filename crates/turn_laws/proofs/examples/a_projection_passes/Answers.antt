use Rattle.std.proofs.Common.{◌≡◌, ap, inl, refl, arith}
use Rattle.ps_ports.specs.declared.port_state.PortState.TheVariants as port
use Rattle.ps_ports.specs.Ports.{Sides, first_port}
use Rattle.turn_laws.proofs.examples.a_projection_passes.Goals as goal

pub returns-clause-passes : goal.returns-clause-passes
returns-clause-passes c = λ F o. record { ports = (refl, refl); agrees = refl; turns = inl (refl, refl); others = refl; answers = refl }

pub returns-clause-nothing_else : goal.returns-clause-nothing_else
returns-clause-nothing_else c = λ F o b u. let no : port.Ready ≡ port.Blocked = ap (λ (s : Sides). first_port s.inputs) u.answers in absurd cc

pub returns-clause-one_input : goal.returns-clause-one_input
returns-clause-one_input c = λ h. let no : 2 ≡ 1 = h.0 in absurd (omega (arith, no))
