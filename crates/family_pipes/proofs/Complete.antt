-- What is known of a complete output: each of its places was filled.
use Rattle.std.proofs.Common.{◌≡◌, ℕ, ◌<◌, ◌≤◌, ◌-◌, Bool, true, false, length, Some, refl, sym, ap, ◌∙◌, List, arith}
use Rattle.std.specs.Prelude.{Contains, nat_eq, not, slice_get, ◌&&◌, ◌||◌}
use Rattle.ps_frame.specs.Functions.{Functions}
use Rattle.ps_frame.specs.Tables.{Row}
use Rattle.ps_ports.specs.Ports.{is_done, is_ready}
use Rattle.ps_ports.specs.declared.port_state.PortState.{PortState}
use Rattle.ps_ports.specs.declared.port_state.PortState.TheVariants as port
use Rattle.ps_world.specs.Facts.{PipeFacts}
use Rattle.ps_world.specs.World.{Pipe, World, multiplexes}
use Rattle.world_facts.proofs.CutOff.{both_true}
use Rattle.world_laws.proofs.PassingPorts.{same_number}
use Rattle.world_claims.specs.Numbering.{Known}
use Rattle.world_families.specs.Work.{IsComplete}

pub not_is : (b : Bool) → not b ≡ true → b ≡ false
not_is true e = absurd (let never : false ≡ true = e in cc)
not_is false e = refl

-- a state that is done isn't ready
pub not_ready : (s : PortState) → is_done s ≡ true → is_ready s ≡ true → ⊥
not_ready port.Done d r = let never : false ≡ true = r in cc
not_ready port.Ready d r = let never : false ≡ true = d in cc
not_ready port.Blocked d r = let never : false ≡ true = d in cc

-- what a complete pipe is
pub record Whole (p : Pipe) : Type 0 where
  pub done : is_done p.wire.send_state ≡ true
  pub dropped : p.is_dropped ≡ false
  pub unread : p.is_unread ≡ false

pub whole : (p : Pipe) → IsComplete p → Whole p
whole p c =
    let a = both_true (is_done p.wire.send_state) (not p.is_dropped && not p.is_unread) c in
    let b = both_true (not p.is_dropped) (not p.is_unread) a.1 in
    record { done = a.0; dropped = not_is p.is_dropped b.0; unread = not_is p.is_unread b.1 }

pub complete : (p : Pipe) → Whole p → IsComplete p
complete p c = λ i. c.done i && (not (c.dropped i) && not (c.unread i))

module _ (F : Functions) (w : World) (p : Pipe) (known : Known F w) (there : Contains w.pipes p) where
  facts : PipeFacts w p
  facts = known.facts.pipes p there

  -- it stands in no phase
  pub in_no_phase : IsComplete p → p.in_phase ≡ false
  in_no_phase c = by p.in_phase refl
    where
      by : (b : Bool) → p.in_phase ≡ b → p.in_phase ≡ false
      by true on =
          let ready = both_true (is_ready p.wire.send_state) (is_ready p.wire.receive_state) (facts.at_hand on).0 in
          absurd (not_ready p.wire.send_state (whole p c).done ready.0)
      by false off = off

  -- nothing waits in it
  pub read_out : multiplexes (slice_get w.nodes p.wire.sender) ≡ false → IsComplete p → length p.got ≤ p.next
  read_out single c =
      let drained = facts.drained (in_no_phase c) (ap not single) in
      let none : nat_eq (length p.got - p.next) 0 ≡ true = sym (ap (λ b. b || nat_eq (length p.got - p.next) 0) (whole p c).dropped) ∙ drained in
      let zero = same_number (length p.got - p.next) 0 none in
      omega arith

  pub filled : multiplexes (slice_get w.nodes p.wire.sender) ≡ false → IsComplete p → (k : ℕ) → k < length p.got → (rs : List Row) × (slice_get p.got k ≡ Some (Some rs))
  filled single c k h = let all = read_out single c in facts.came k (omega arith)
