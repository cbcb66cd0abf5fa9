-- Small facts of tests and of port states that the files beside this one share.
use Rattle.std.proofs.Common.{◌≡◌, Bool, true, false, refl}
use Rattle.std.specs.Prelude.{not, ◌||◌}
use Rattle.ps_ports.specs.Ports.{is_blocked, is_done, is_ready}
use Rattle.ps_ports.specs.declared.port_state.PortState.{PortState}
use Rattle.ps_ports.specs.declared.port_state.PortState.TheVariants as port

pub neither : (a b : Bool) → (a || b) ≡ false → (a ≡ false) × (b ≡ false)
neither true b e = absurd (let no : true ≡ false = e in cc)
neither false b e = (refl, e)

pub not_true : (b : Bool) → not b ≡ true → b ≡ false
not_true true e = absurd (let no : false ≡ true = e in cc)
not_true false e = refl

pub not_false : (b : Bool) → b ≡ false → not b ≡ true
not_false true e = absurd (let no : true ≡ false = e in cc)
not_false false e = refl

pub ready_not_done : (s : PortState) → is_ready s ≡ true → is_done s ≡ false
ready_not_done port.Ready e = refl
ready_not_done port.Blocked e = refl
ready_not_done port.Done e = absurd (let no : false ≡ true = e in cc)

pub ready_not_blocked : (s : PortState) → is_ready s ≡ true → is_blocked s ≡ false
ready_not_blocked port.Ready e = refl
ready_not_blocked port.Done e = refl
ready_not_blocked port.Blocked e = absurd (let no : false ≡ true = e in cc)
