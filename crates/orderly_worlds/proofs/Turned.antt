-- A pipe after an update beside the one before: what it got stays, and an end is newly done only where its node says so.
use Rattle.std.proofs.Common.{◌≡◌, ℕ, ◌⊎◌, Bool, true, false, cond, refl, sym, ap, subst, ◌∙◌, inl, inr}
use Rattle.std.specs.Prelude.{Contains, get_or, map, nat_eq, not, slice_set, ◌&&◌, ◌||◌}
use Rattle.ps_ports.specs.Ports.{Sides, is_done, kept_state}
use Rattle.ps_ports.specs.declared.port_state.PortState.{PortState}
use Rattle.ps_ports.specs.declared.port_state.PortState.TheVariants as port
use Rattle.ps_turns.specs.Progress.{Progress}
use Rattle.ps_world.specs.Facts.{joins_of}
use Rattle.ps_world.specs.Pipes.{put_progress}
use Rattle.ps_world.specs.Updates.{answer_at, received, sent, updated, written}
use Rattle.ps_world.specs.World.{Node, Pipe, World}
use Rattle.std.specs.Prelude.{Some, slice_get}
use Rattle.world_claims.proofs.Steps.{map_map}
use Rattle.world_laws.proofs.Agree.{from_map}
use Rattle.world_laws.proofs.PassingPorts.{same_number}

abbrev pub written_pipe : ℕ → Sides → Pipe → Pipe
written_pipe m a p =
    let q = cond (nat_eq p.wire.receiver m) (received (get_or a.inputs p.wire.input p.wire.receive_state) p) p in
    cond (nat_eq q.wire.sender m) (sent (get_or a.outputs q.wire.port q.wire.send_state) q) q

pub kept_cases : (old new : PortState) → is_done (kept_state old new) ≡ true → (is_done old ≡ true) ⊎ (is_done new ≡ true)
kept_cases port.Done new e = inl refl
kept_cases port.Ready new e = inr e
kept_cases port.Blocked new e = inr e

still_done : (old new : PortState) → is_done old ≡ true → is_done (kept_state old new) ≡ true
still_done port.Done new e = refl
still_done port.Ready new e = absurd (let never : false ≡ true = e in cc)
still_done port.Blocked new e = absurd (let never : false ≡ true = e in cc)

or_more : (a b c : Bool) → (a || b) ≡ true → (a || (b || c)) ≡ true
or_more true b c e = refl
or_more false true c e = refl
or_more false false c e = absurd (let never : false ≡ true = e in cc)

or_new : (a b s : Bool) → s ≡ true → (a || (b || (s && not a))) ≡ true
or_new true b s e = refl
or_new false true s e = refl
or_new false false s e = ap (λ z. z && true) e

or_first : (a b c : Bool) → (a ≡ true → c ≡ true) → (a || b) ≡ true → (c || b) ≡ true
or_first true b c h e = ap (λ z. z || b) (h refl)
or_first false true true h e = refl
or_first false true false h e = refl
or_first false false c h e = absurd (let never : false ≡ true = e in cc)

none_of : (a b : Bool) → (a || b) ≡ false → a ≡ false
none_of true b e = absurd (let never : true ≡ false = e in cc)
none_of false b e = refl

-- what was sent to the end isn't unread by its reader's being done
read_too : (a b s d : Bool) → b ≡ true → a ≡ false → (a || (s && not b)) ≡ false
read_too a b s d e h = (λ i. h i || (s && not (e i))) ∙ by s
  where
    by : (s : Bool) → (s && false) ≡ false
    by true = refl
    by false = refl

-- where its reader is done, the sender is or the pipe is unread
abbrev pub ReadFirst : Pipe → Type 0
ReadFirst x = is_done x.wire.receive_state ≡ true → (is_done x.wire.send_state || x.is_unread) ≡ true

-- a node's answer to an update in a pipe
pub record Turned (m : ℕ) (a : Sides) (x y : Pipe) : Type 0 where
  pub joins : joins_of y ≡ joins_of x
  pub got : y.got ≡ x.got
  pub next : y.next ≡ x.next
  pub in_phase : y.in_phase ≡ x.in_phase
  pub dropped : y.is_dropped ≡ x.is_dropped
  pub unread : y.is_unread ≡ false → x.is_unread ≡ false
  pub still_read : is_done x.wire.send_state ≡ true → x.is_unread ≡ false → y.is_unread ≡ false
  pub read_first : ReadFirst x → ReadFirst y
  pub sent_on : is_done x.wire.send_state ≡ true → is_done y.wire.send_state ≡ true
  pub sent_new : is_done y.wire.send_state ≡ true → (is_done x.wire.send_state ≡ true) ⊎ (x.wire.sender ≡ m) × (is_done (get_or a.outputs x.wire.port x.wire.send_state) ≡ true)
  pub received_on : is_done x.wire.receive_state ≡ true → is_done y.wire.receive_state ≡ true
  pub received_new : is_done y.wire.receive_state ≡ true → (is_done x.wire.receive_state ≡ true) ⊎ (x.wire.receiver ≡ m) × (is_done (get_or a.inputs x.wire.input x.wire.receive_state) ≡ true)

-- what a node says of one of its inputs, and of one of its outputs
abbrev said_in : Sides → Pipe → PortState
said_in a x = get_or a.inputs x.wire.input x.wire.receive_state

abbrev said_out : Sides → Pipe → PortState
said_out a y = get_or a.outputs y.wire.port y.wire.send_state

record Receives (m : ℕ) (a : Sides) (x y : Pipe) : Type 0 where
  joins : joins_of y ≡ joins_of x
  sender : y.wire.sender ≡ x.wire.sender
  port_of : y.wire.port ≡ x.wire.port
  send : y.wire.send_state ≡ x.wire.send_state
  got : y.got ≡ x.got
  next : y.next ≡ x.next
  in_phase : y.in_phase ≡ x.in_phase
  dropped : y.is_dropped ≡ x.is_dropped
  unread : y.is_unread ≡ false → x.is_unread ≡ false
  still_read : is_done x.wire.send_state ≡ true → x.is_unread ≡ false → y.is_unread ≡ false
  read_first : ReadFirst x → ReadFirst y
  received_on : is_done x.wire.receive_state ≡ true → is_done y.wire.receive_state ≡ true
  received_new : is_done y.wire.receive_state ≡ true → (is_done x.wire.receive_state ≡ true) ⊎ (x.wire.receiver ≡ m) × (is_done (get_or a.inputs x.wire.input x.wire.receive_state) ≡ true)

receives : (m : ℕ) (a : Sides) (x : Pipe) (b : Bool) → nat_eq x.wire.receiver m ≡ b → Receives m a x (cond b (received (get_or a.inputs x.wire.input x.wire.receive_state) x) x)
receives m a x false e =
    record { joins = refl; sender = refl; port_of = refl; send = refl; got = refl; next = refl; in_phase = refl; dropped = refl; unread = λ u. u; still_read = λ d u. u; read_first = λ h. h; received_on = λ d. d; received_new = inl }
receives m a x true e =
    record {
      joins = refl;
      sender = refl;
      port_of = refl;
      send = refl;
      got = refl;
      next = refl;
      in_phase = refl;
      dropped = refl;
      unread = λ u. none_of x.is_unread (is_done (said_in a x) && not (is_done x.wire.send_state)) u;
      still_read = λ d u. read_too x.is_unread (is_done x.wire.send_state) (is_done (said_in a x)) true d u;
      read_first = λ h d. by h (kept_cases x.wire.receive_state (said_in a x) d);
      received_on = λ d. still_done x.wire.receive_state (said_in a x) d;
      received_new = λ d. new (kept_cases x.wire.receive_state (said_in a x) d);
    }
  where
    by : ReadFirst x → (is_done x.wire.receive_state ≡ true) ⊎ (is_done (said_in a x) ≡ true) → (is_done x.wire.send_state || (x.is_unread || (is_done (said_in a x) && not (is_done x.wire.send_state)))) ≡ true
    by h (inl old) = or_more (is_done x.wire.send_state) x.is_unread (is_done (said_in a x) && not (is_done x.wire.send_state)) (h old)
    by h (inr now) = or_new (is_done x.wire.send_state) x.is_unread (is_done (said_in a x)) now

    new : (is_done x.wire.receive_state ≡ true) ⊎ (is_done (said_in a x) ≡ true) → (is_done x.wire.receive_state ≡ true) ⊎ (x.wire.receiver ≡ m) × (is_done (said_in a x) ≡ true)
    new (inl old) = inl old
    new (inr now) = inr (same_number x.wire.receiver m e, now)

record Sends (m : ℕ) (a : Sides) (x y : Pipe) : Type 0 where
  joins : joins_of y ≡ joins_of x
  receive : y.wire.receive_state ≡ x.wire.receive_state
  got : y.got ≡ x.got
  next : y.next ≡ x.next
  in_phase : y.in_phase ≡ x.in_phase
  dropped : y.is_dropped ≡ x.is_dropped
  unread : y.is_unread ≡ x.is_unread
  read_first : ReadFirst x → ReadFirst y
  sent_on : is_done x.wire.send_state ≡ true → is_done y.wire.send_state ≡ true
  sent_new : is_done y.wire.send_state ≡ true → (is_done x.wire.send_state ≡ true) ⊎ (x.wire.sender ≡ m) × (is_done (get_or a.outputs x.wire.port x.wire.send_state) ≡ true)

sends : (m : ℕ) (a : Sides) (y : Pipe) (b : Bool) → nat_eq y.wire.sender m ≡ b → Sends m a y (cond b (sent (get_or a.outputs y.wire.port y.wire.send_state) y) y)
sends m a y false e = record { joins = refl; receive = refl; got = refl; next = refl; in_phase = refl; dropped = refl; unread = refl; read_first = λ h. h; sent_on = λ d. d; sent_new = inl }
sends m a y true e =
    record {
      joins = refl;
      receive = refl;
      got = refl;
      next = refl;
      in_phase = refl;
      dropped = refl;
      unread = refl;
      read_first = λ h d. or_first (is_done y.wire.send_state) y.is_unread (is_done (kept_state y.wire.send_state (said_out a y))) (still_done y.wire.send_state (said_out a y)) (h d);
      sent_on = λ d. still_done y.wire.send_state (said_out a y) d;
      sent_new = λ d. by (kept_cases y.wire.send_state (said_out a y) d);
    }
  where
    by : (is_done y.wire.send_state ≡ true) ⊎ (is_done (said_out a y) ≡ true) → (is_done y.wire.send_state ≡ true) ⊎ (y.wire.sender ≡ m) × (is_done (said_out a y) ≡ true)
    by (inl old) = inl old
    by (inr new) = inr (same_number y.wire.sender m e, new)

pub turns : (m : ℕ) (a : Sides) (x : Pipe) → Turned m a x (written_pipe m a x)
turns m a x =
    let y = cond (nat_eq x.wire.receiver m) (received (get_or a.inputs x.wire.input x.wire.receive_state) x) x in
    let r = receives m a x (nat_eq x.wire.receiver m) refl in
    let o = sends m a y (nat_eq y.wire.sender m) refl in
    record {
      joins = o.joins ∙ r.joins;
      got = o.got ∙ r.got;
      next = o.next ∙ r.next;
      in_phase = o.in_phase ∙ r.in_phase;
      dropped = o.dropped ∙ r.dropped;
      unread = λ u. r.unread (sym o.unread ∙ u);
      still_read = λ d u. o.unread ∙ r.still_read d u;
      read_first = λ h. o.read_first (r.read_first h);
      sent_on = λ d. o.sent_on (ap is_done r.send ∙ d);
      sent_new = λ d. by y r (o.sent_new d);
      received_on = λ d. ap is_done o.receive ∙ r.received_on d;
      received_new = λ d. r.received_new (ap is_done (sym o.receive) ∙ d);
    }
  where
    by : (y : Pipe) → Receives m a x y → (is_done y.wire.send_state ≡ true) ⊎ (y.wire.sender ≡ m) × (is_done (get_or a.outputs y.wire.port y.wire.send_state) ≡ true)
        → (is_done x.wire.send_state ≡ true) ⊎ (x.wire.sender ≡ m) × (is_done (get_or a.outputs x.wire.port x.wire.send_state) ≡ true)
    by y r (inl old) = inl (ap is_done (sym r.send) ∙ old)
    by y r (inr new) = inr (sym r.sender ∙ new.0, (λ i. is_done (get_or a.outputs (sym r.port_of i) (sym r.send i))) ∙ new.1)

-- AN UPDATE OF A NODE
module _ (w : World) (m : ℕ) (other : Node) (progress : Progress) (at : slice_get w.nodes m ≡ Some other) where
  abbrev pub answer : Sides
  answer = answer_at w m other progress

  abbrev pub turned : World
  turned = record w { nodes = slice_set w.nodes m (record other { progress = progress }); pipes = map (written_pipe m answer) w.pipes }

  pub updated_is : updated w m other progress ≡ turned
  updated_is =
      ap (written m answer) (λ i. put_progress (at i) m progress w)
      ∙ (λ i. record w { nodes = slice_set w.nodes m (record other { progress = progress }); pipes = map_map (λ (p : Pipe). cond (nat_eq p.wire.receiver m) (received (get_or answer.inputs p.wire.input p.wire.receive_state) p) p) (λ (p : Pipe). cond (nat_eq p.wire.sender m) (sent (get_or answer.outputs p.wire.port p.wire.send_state) p) p) w.pipes i })

  pub turned_from : (y : Pipe) → Contains turned.pipes y → (x : Pipe) × Contains w.pipes x × Turned m answer x y
  turned_from y c = let x = from_map (written_pipe m answer) y w.pipes c in (x.0, x.1, subst (Turned m answer x.0) x.2 (turns m answer x.0))
