-- What a node that hands on is done with was sent to its end, or it has no use for more.
use Rattle.std.proofs.Common.{◌≡◌, ◌≢◌, ℕ, ◌⊎◌, Bool, true, false, List, Some, refl, sym, ap, subst, ◌∙◌, inl, inr}
use Rattle.std.specs.Prelude.{Contains, IsTrue, get_or, map, slice_get, ◌||◌}
use Rattle.std.proofs.lemmas.Bool.{cases_eq}
use Rattle.ps_frame.specs.Functions.{Functions}
use Rattle.ps_frame.specs.Tables.{Row}
use Rattle.ps_meaning.specs.Shape.{PhysicalKind, streaming_slice}
use Rattle.ps_ports.specs.Ports.{is_done}
use Rattle.ps_ports.specs.Wires.{Wire}
use Rattle.ps_turns.specs.Progress.{Progress}
use Rattle.ps_turns.specs.Pulls.{pulls}
use Rattle.ps_world.specs.Claims.{inputs_in_phase, next_morsel}
use Rattle.ps_world.specs.Facts.{HasNoUse, Joins, is_over_slice, joins_of}
use Rattle.ps_world.specs.Opening.{pipes_from}
use Rattle.ps_world.specs.Updates.{empty_outs, given_at}
use Rattle.ps_world.specs.World.{Node, Pipe, World, heads_of, inputs_done, schemas_for, shape_of}
use Rattle.world_claims.proofs.Forms.{stays_over}
use Rattle.world_claims.specs.Numbering.{Known}
use Rattle.world_facts.proofs.Slots.{set_here, set_other}
use Rattle.world_laws.proofs.Agree.{from_map}
use Rattle.world_laws.proofs.Answered.{in_shape}
use Rattle.world_laws.proofs.InOrder.{contains_map}
use Rattle.family_pipes.proofs.Complete.{complete}
use Rattle.family_pipes.proofs.Sent.{node_of}
use Rattle.family_pipes.proofs.SourceSteps.{same_node}
use Rattle.world_families.specs.Work.{Enters, IsComplete, Leaves}
use Rattle.orderly_worlds.proofs.Goes.{GoesOn, IsTakenBy, IsTakenOf, NoneTaken}
use Rattle.orderly_worlds.proofs.Orderly.{Orderly, complete_rests, complete_turned}
use Rattle.orderly_worlds.proofs.PortPipes.{given_input}
use Rattle.orderly_worlds.proofs.Says.{WhyDone, input_done, is_over, reader_done, reader_pipe, sent_all}
use Rattle.orderly_worlds.proofs.Seen.{Seen, StandsAt, TakenElsewhere, claims, pulls_in, stands_still}
use Rattle.orderly_worlds.proofs.Stands.{stored_progress}
use Rattle.orderly_worlds.proofs.Turned.{Turned, answer, turned, turned_from}
use Rattle.world_families.specs.Kinds.{HandsOn}

abbrev pub DoneFits : World → ℕ → Type 0
DoneFits w n = (q : Pipe) → Enters w n q → is_done q.wire.receive_state ≡ true → IsComplete q ⊎ HasNoUse w n

-- a pipe beside the one before: a reader that is done stays so, and what is dropped stays so
pub record Onward (x y : Pipe) : Type 0 where
  pub joins : joins_of y ≡ joins_of x
  pub dropped : x.is_dropped ≡ true → y.is_dropped ≡ true
  pub received : is_done x.wire.receive_state ≡ true → is_done y.wire.receive_state ≡ true

abbrev pub AllOnward : World → World → Type 0
AllOnward w v = (y : Pipe) → Contains v.pipes y → (x : Pipe) × Contains w.pipes x × Onward x y

abbrev pub StaysOver : World → World → ℕ → Type 0
StaysOver w v n = (x y : Node) → slice_get w.nodes n ≡ Some x → slice_get v.nodes n ≡ Some y → is_over_slice x.node.kind x.progress.booked ≡ true → is_over_slice y.node.kind y.progress.booked ≡ true

or_on : (a b c d : Bool) → (a ≡ true → c ≡ true) → (b ≡ true → d ≡ true) → (a || b) ≡ true → (c || d) ≡ true
or_on true b c d f g e = ap (λ z. z || d) (f refl)
or_on false true c d f g e = by c (g refl)
  where
    by : (c : Bool) → d ≡ true → (c || d) ≡ true
    by true h = refl
    by false h = h
or_on false false c d f g e = absurd (let no : false ≡ true = e in cc)

module _ (F : Functions) (w v : World) (kw : Known F w) (kv : Known F v) (shape : shape_of v ≡ shape_of w) (back : AllOnward w v) (n : ℕ) (over : StaysOver w v n) where
  -- a pipe goes on as one of the same ends
  onto : (z : Pipe) → Contains w.pipes z → (y : Pipe) × Contains v.pipes y × (joins_of y ≡ joins_of z)
  onto z c =
      let same : map joins_of w.pipes ≡ map joins_of v.pipes = kw.facts.wires ∙ ap (λ s. map joins_of (pipes_from s 0)) (sym shape) ∙ sym kv.facts.wires in
      from_map joins_of (joins_of z) v.pipes (subst (λ js. Contains js (joins_of z)) same (contains_map joins_of z w.pipes c))

  pub no_use_on : HasNoUse w n → HasNoUse v n
  no_use_on (inl (x, at, e)) =
      let y = node_of v n x.node (ap (λ ps. slice_get ps n) shape ∙ in_shape w n x at) in
      inl (y.0, y.1, over x y.0 at y.1 e)
  no_use_on (inr (z, c, from, each)) =
      let y = onto z c in
      inr (
        y.0,
        y.1,
        ap (λ (j : Joins). j.sender) y.2 ∙ from,
        λ q cq s.
            let x = back q cq in
            or_on x.0.is_dropped (is_done x.0.wire.receive_state) q.is_dropped (is_done q.wire.receive_state) x.2.dropped x.2.received (each x.0 x.1 (sym (ap (λ (j : Joins). j.sender) x.2.joins) ∙ s)),
      )

  -- what was complete stays so, and a reader that is done was so before
  pub done_on : ((y : Pipe) → Enters v n y → is_done y.wire.receive_state ≡ true → (x : Pipe) × Enters w n x × (is_done x.wire.receive_state ≡ true) × (IsComplete x → IsComplete y)) → DoneFits w n → DoneFits v n
  done_on from h y c d = let x = from y c d in by x.0 x.3 (h x.0 x.1 x.2)
    where
      by : (x : Pipe) → (IsComplete x → IsComplete y) → IsComplete x ⊎ HasNoUse w n → IsComplete y ⊎ HasNoUse v n
      by x f (inl is) = inl (f is)
      by x f (inr none) = inr (no_use_on none)

-- A STEP OF A PHASE
pub wire_joins : (x y : Pipe) → y.wire ≡ x.wire → joins_of y ≡ joins_of x
wire_joins x y e = ap (λ (u : Wire). let j : Joins = record { sender = u.sender; port = u.port; receiver = u.receiver; input = u.input } in j) e

pub goes_onward : (Takes Musts : Pipe → Type 0) (w v : World) → GoesOn Takes Musts w v → AllOnward w v
goes_onward Takes Musts w v g y c =
    let x = g y c in
    (x.0, x.1, record { joins = wire_joins x.0 y x.2.wire; dropped = x.2.kept; received = λ d. ap (λ (u : Wire). is_done u.receive_state) x.2.wire ∙ d })

over_not_pulls : (kind : PhysicalKind) (k : ℕ) → is_over_slice kind k ≡ true → pulls kind ≡ true → ⊥
over_not_pulls (streaming_slice offset n) k e p = let no : false ≡ true = p in cc
over_not_pulls kind k e p = let no : false ≡ true = e in cc

module _ (F : Functions) (w v : World) (n : ℕ) (node : Node) (o : Orderly F w) (kv : Known F v) (begun : w.is_open ≡ true) (shape : shape_of v ≡ shape_of w) (there : slice_get w.nodes n ≡ Some node) where
  of_goes : (Takes Musts : Pipe → Type 0) → ((x : Pipe) → Takes x → (rs : List Row) × (slice_get x.got x.next ≡ Some (Some rs))) → GoesOn Takes Musts w v → StaysOver w v n → DoneFits w n → DoneFits v n
  of_goes Takes Musts some g over h =
      done_on F w v o.known kv shape (goes_onward Takes Musts w v g) n over
      (λ y c d.
      let x = g y c.0 in
      (x.0, (x.1, ap (λ (u : Wire). u.receiver) (sym x.2.wire) ∙ c.1), ap (λ (u : Wire). is_done u.receive_state) (sym x.2.wire) ∙ d, λ is. (complete_rests F w Takes Musts o begun some x.0 y x.1 x.2 is).is_complete)) h

  over_if : (progress : Progress) → StandsAt v n (record node { progress = progress }) → (is_over_slice node.node.kind node.progress.booked ≡ true → is_over_slice node.node.kind progress.booked ≡ true) → StaysOver w v n
  over_if progress s stays x y at e is =
      let same = same_node w n x node at there in
      let t = s y e in
      (λ i. is_over_slice (t.node i).kind (t.booked i)) ∙ stays ((λ i. is_over_slice (sym same i).node.kind (sym same i).progress.booked) ∙ is)

  pub done_step : Seen F w v n node → DoneFits w n → DoneFits v n
  done_step (stands_still g s at outs) h = of_goes (TakenElsewhere n) NoneTaken (λ x t. t.1) g (over_if node.progress at (λ e. e)) h
  done_step (claims i c is g s at outs) h =
      of_goes (IsTakenOf n i) (IsTakenBy n i c.takes_morsel) (λ x t. t.1) g
      (over_if c.progress at (λ e. stays_over w.options node.node (schemas_for w node) node.progress (heads_of w n node) (inputs_done w n) i (next_morsel (inputs_in_phase w n i)) c node.node.kind is e)) h
  done_step (pulls_in i p rs pulling cp input is g s at outs) h = of_goes (IsTakenOf n i) (IsTakenBy n i true) (λ x t. t.1) g (over_if (stored_progress node i rs) at (λ e. absurd (over_not_pulls node.node.kind node.progress.booked e pulling))) h

-- AN UPDATE
module _ (F : Functions) (w : World) (m : ℕ) (other : Node) (progress : Progress) (o : Orderly F w) (shut : w.is_open ≡ false) (at : slice_get w.nodes m ≡ Some other) (booked : progress.booked ≡ other.progress.booked) where
  abbrev v : World
  v = turned w m other progress at

  turned_onward : AllOnward w v
  turned_onward y c = let x = turned_from w m other progress at y c in (x.0, x.1, record { joins = x.2.joins; dropped = λ d. x.2.dropped ∙ d; received = x.2.received_on })

  over_turned : (n : ℕ) → StaysOver w v n
  over_turned n x y before after e = by (cases_eq n m)
    where
      by : (n ≡ m) ⊎ (n ≢ m) → is_over_slice y.node.kind y.progress.booked ≡ true
      by (inl here) =
          let a = same_node w m x other (ap (slice_get w.nodes) (sym here) ∙ before) at in
          let there : slice_get v.nodes m ≡ Some y = ap (slice_get v.nodes) (sym here) ∙ after in
          let b = same_node v m (record other { progress = progress }) y (set_here w.nodes m other (record other { progress = progress }) at) there in
          (λ i. is_over_slice (sym b i).node.kind (sym b i).progress.booked) ∙ ap (is_over_slice other.node.kind) booked ∙ (λ i. is_over_slice (sym a i).node.kind (sym a i).progress.booked) ∙ e
      by (inr apart) =
          let same = same_node w n x y before (sym (set_other w.nodes m n (record other { progress = progress }) apart) ∙ after) in
          (λ i. is_over_slice (sym same i).node.kind (sym same i).progress.booked) ∙ e

  -- an input that is sent to its end and of which the reader isn't done is complete, or nobody wants its rows
  pub sent_cases : (n : ℕ) (x : Pipe) → Enters w n x → is_done x.wire.send_state ≡ true → DoneFits w n → IsComplete x ⊎ HasNoUse w n
  sent_cases n x c d h = by x.is_dropped x.is_unread refl refl
    where
      by : (a b : Bool) → x.is_dropped ≡ a → x.is_unread ≡ b → IsComplete x ⊎ HasNoUse w n
      by true b gone e = inr (subst (HasNoUse w) c.1 ((o.known.facts.pipes x c.0).why_dropped gone))
      by false true gone e = h x c ((o.known.facts.pipes x c.0).unread_done e)
      by false false gone e = inl (complete x (record { done = d; dropped = gone; unread = e }))

  module _ (kv : Known F v) (shape : shape_of v ≡ shape_of w) (n : ℕ) (h : DoneFits w n) where
    -- the node itself says that it is done
    said : n ≡ m → HandsOn other.node.kind → ((p r : Pipe) → Leaves w n p → Leaves w n r → p ≡ r) → (y x : Pipe) → Contains v.pipes y → Enters w n x → Turned m (answer w m other progress at) x y → is_done x.wire.receive_state ≡ false
        → is_done (get_or (answer w m other progress at).inputs x.wire.input x.wire.receive_state) ≡ true → IsComplete y ⊎ HasNoUse v n
    said here hands one y x cy c t undone now = by (input_done w.options progress (heads_of w m other) (empty_outs w m) (given_at w m) other.node.kind hands x.wire.input x.wire.send_state x.wire.receive_state given undone now)
      where
        given : slice_get (given_at w m).inputs x.wire.input ≡ Some x.wire.send_state
        given = ap (λ k. slice_get (given_at w k).inputs x.wire.input) (sym here ∙ sym c.1) ∙ given_input F w o.known.facts x c.0

        of : IsComplete x ⊎ HasNoUse w n → IsComplete y ⊎ HasNoUse v n
        of (inl is) = inl (complete_turned F w m other progress o shut at x y t is)
        of (inr none) = inr (no_use_on F w v o.known kv shape turned_onward n (over_turned n) none)

        by : WhyDone progress (given_at w m) other.node.kind x.wire.send_state → IsComplete y ⊎ HasNoUse v n
        by (sent_all e) = of (sent_cases n x c e h)
        by (is_over e) = inr (inl (record other { progress = progress }, ap (slice_get v.nodes) here ∙ set_here w.nodes m other (record other { progress = progress }) at, e))
        by (reader_done k s stands d) =
            let z = reader_pipe w m k s stands in
            let l : Leaves w n z.0 = (z.1, z.2 ∙ sym here) in
            inr
            (no_use_on F w v o.known kv shape turned_onward n (over_turned n)
            (inr (z.0, z.1, l.1, λ q cq from. subst (λ (p : Pipe). IsTrue (p.is_dropped || is_done p.wire.receive_state)) (one z.0 q l (cq, from)) (second z.0.is_dropped (is_done z.0.wire.receive_state) (ap is_done z.3 ∙ d)))))
          where
            second : (a b : Bool) → b ≡ true → (a || b) ≡ true
            second true b e = refl
            second false b e = e

    pub done_turned : (n ≡ m → HandsOn other.node.kind) → ((p r : Pipe) → Leaves w n p → Leaves w n r → p ≡ r) → DoneFits v n
    done_turned hands one y c d =
        let x = turned_from w m other progress at y c.0 in
        let enters : Enters w n x.0 = (x.1, ap (λ (j : Joins). j.receiver) (sym x.2.joins) ∙ c.1) in
        by x.0 enters x.2 (is_done x.0.wire.receive_state) refl (x.2.received_new d)
      where
        by : (x : Pipe) → Enters w n x → Turned m (answer w m other progress at) x y → (b : Bool) → is_done x.wire.receive_state ≡ b → (is_done x.wire.receive_state ≡ true) ⊎ (x.wire.receiver ≡ m) × (is_done (get_or (answer w m other progress at).inputs x.wire.input x.wire.receive_state) ≡ true)
            → IsComplete y ⊎ HasNoUse v n
        by x e t true was new = of (h x e was)
          where
            of : IsComplete x ⊎ HasNoUse w n → IsComplete y ⊎ HasNoUse v n
            of (inl is) = inl (complete_turned F w m other progress o shut at x y t is)
            of (inr none) = inr (no_use_on F w v o.known kv shape turned_onward n (over_turned n) none)
        by x e t false was (inl is) = absurd (let no : true ≡ false = sym is ∙ was in cc)
        by x e t false was (inr (at_m, now)) = let here : n ≡ m = sym e.1 ∙ at_m in said here (hands here) one y x c.0 e t was now
