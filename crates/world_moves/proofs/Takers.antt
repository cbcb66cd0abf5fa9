-- Which inputs a node takes in a phase: those that its stage takes; and a zip that takes one takes all that aren't done.
use Rattle.std.proofs.Common.{◌≡◌, ℕ, zero, suc, ◌<◌, ◌⊎◌, Bool, true, false, cond, List, [], ◌∷◌, length, Option, None, Some, refl, sym, ap, subst, ◌∙◌, inl, inr, arith}
use Rattle.std.specs.Prelude.{Contains, IsFalse, get_or, option_map, slice_get, ◌&&◌, ◌||◌}
use Rattle.std.specs.List.{list_any}
use Rattle.std.proofs.lemmas.Option.{get_or_from_slice_get, slice_get-map, slice_get_within}
use Rattle.ps_frame.specs.Functions.{Functions}
use Rattle.ps_meaning.specs.Shape.{PhysicalKind, PhysicalNode, equi_join, group_by_node, reduce, zip_node}
use Rattle.ps_meaning.specs.Sound.{HasInputs}
use Rattle.ps_meaning.specs.Steps.{JoinStep}
use Rattle.ps_options.specs.declared.options.Options.{Options}
use Rattle.ps_ports.specs.Phases.{is_one_of}
use Rattle.ps_ports.specs.Ports.{Sides, first_port, is_blocked, is_done, is_ready, kept_state, repeated}
use Rattle.ps_ports.specs.Wires.{Wire, both_ready, wires_in}
use Rattle.ps_ports.specs.declared.port_state.PortState.{PortState}
use Rattle.ps_ports.specs.declared.port_state.PortState.TheVariants as port
use Rattle.ps_turns.specs.Claims.{owes_last}
use Rattle.ps_turns.specs.Heads.{Head}
use Rattle.ps_turns.specs.Progress.{Progress, Stage, giving, is_giving, is_taking, spent, taking}
use Rattle.ps_turns.specs.Updates.{answer_by, join_answer, keeper_answer, zip_is_over}
use Rattle.ps_world.specs.Facts.{Facts}
use Rattle.ps_world.specs.Phases.{nodes_of_phase, with_phase}
use Rattle.ps_world.specs.Updates.{IsSettled, empty_outs, given_at}
use Rattle.ps_world.specs.World.{Node, Pipe, Record, World, heads_of, wires_of}
use Rattle.world_claims.proofs.Beside.{marked_from}
use Rattle.world_facts.proofs.CutOff.{and_true, both_true}
use Rattle.world_facts.proofs.Placing.{answered, has_inputs, has_readers, in_place}
use Rattle.world_facts.proofs.Wired.{input_place}
use Rattle.world_facts.proofs.Wiring.{each_of}
use Rattle.world_laws.proofs.Agree.{from_map, reader_says}
use Rattle.world_laws.proofs.InOrder.{contains_map}
use Rattle.world_ends.proofs.Back.{kept_at, read_ready, ready_new, wire_of}
use Rattle.world_ends.proofs.InPhase.{stands_in}
use Rattle.world_ends.proofs.NotIdle.{Same}
use Rattle.world_ends.proofs.Reasons.{IsReadyAt, repeated_at}
use Rattle.world_ends.proofs.Tests.{neither}
use Rattle.world_moves.proofs.Standing.{Alike, mark, stand}

abbrev pub takes_input : PhysicalKind → (input : ℕ) → Stage → Bool
takes_input (reduce es) i st = is_taking st
takes_input (group_by_node keys aggregates) i st = is_taking st
takes_input (equi_join j) zero st = is_giving st
takes_input (equi_join j) (suc i) st = is_taking st
takes_input kind i st = true

abbrev pub is_zip : PhysicalKind → Bool
is_zip (zip_node extend) = true
is_zip kind = false

pub record InputsFit (w : World) : Type 0 where
  pub takes : (q : Pipe) (node : Node) → Contains w.pipes q → slice_get w.nodes q.wire.receiver ≡ Some node → q.in_phase ≡ true → takes_input node.node.kind q.wire.input node.progress.stage ≡ true
  pub zips : (q z : Pipe) (node : Node) → Contains w.pipes q → Contains w.pipes z → slice_get w.nodes q.wire.receiver ≡ Some node → is_zip node.node.kind ≡ true → q.in_phase ≡ true → z.wire.receiver ≡ q.wire.receiver → (z.in_phase ≡ true) ⊎ (is_done z.wire.send_state ≡ true)

-- between phases no pipe is marked
pub shut_fits : (F : Functions) (w : World) → Facts F w → IsFalse w.is_open → InputsFit w
shut_fits F w f shut = record { takes = λ q node c at on. absurd (unmarked q c on); zips = λ q z node c d at k on r. absurd (unmarked q c on) }
  where
    unmarked : (q : Pipe) → Contains w.pipes q → q.in_phase ≡ true → ⊥
    unmarked q c on = let no : false ≡ true = sym (neither q.in_phase q.is_closed (each_of (λ (p : Pipe). IsFalse (p.in_phase || p.is_closed)) w.pipes q (f.no_marks shut).1 c)).0 ∙ on in cc

-- steps of a phase keep it
from_stand : (o : Option Node) (s : PhysicalNode × Stage) → option_map stand o ≡ Some s → (x : Node) × (o ≡ Some x) × (stand x ≡ s)
from_stand None s e = absurd (let no : None ≡ Some s = e in cc)
from_stand (Some x) s e = (x, refl, let q : Some (stand x) ≡ Some s = e in cc)

module _ (w v : World) (h : Alike w v) where
  pipe_before : (q : Pipe) → Contains v.pipes q → (x : Pipe) × Contains w.pipes x × (mark x ≡ mark q)
  pipe_before q c = from_map mark (mark q) w.pipes (subst (λ ms. Contains ms (mark q)) h.pipes (contains_map mark q v.pipes c))

  node_before : (m : ℕ) (y : Node) → slice_get v.nodes m ≡ Some y → (x : Node) × (slice_get w.nodes m ≡ Some x) × (stand x ≡ stand y)
  node_before m y e = from_stand (slice_get w.nodes m) (stand y) (sym (slice_get-map stand w.nodes m) ∙ ap (λ ss. slice_get ss m) (sym h.nodes) ∙ slice_get-map stand v.nodes m ∙ ap (option_map stand) e)

  pub alike_fits : InputsFit w → InputsFit v
  alike_fits f =
      record {
        takes = λ q node c at on.
            let x = pipe_before q c in
            let y = node_before q.wire.receiver node at in
            let there = ap (λ (m : Wire × Bool). slice_get w.nodes m.0.receiver) x.2 ∙ y.1 in
            (λ i. takes_input (sym y.2 i).0.kind (sym x.2 i).0.input (sym y.2 i).1) ∙ f.takes x.0 y.0 x.1 there (ap (λ (m : Wire × Bool). m.1) x.2 ∙ on);
        zips = λ q z node c d at k on r.
            let x = pipe_before q c in
            let u = pipe_before z d in
            let y = node_before q.wire.receiver node at in
            let there = ap (λ (m : Wire × Bool). slice_get w.nodes m.0.receiver) x.2 ∙ y.1 in
            by z u.0 u.2 (f.zips x.0 u.0 y.0 x.1 u.1 there (ap (λ (s : PhysicalNode × Stage). is_zip s.0.kind) y.2 ∙ k) (ap (λ (m : Wire × Bool). m.1) x.2 ∙ on) (ap (λ (m : Wire × Bool). m.0.receiver) u.2 ∙ r ∙ ap (λ (m : Wire × Bool). m.0.receiver) (sym x.2)));
      }
    where
      by : (z u : Pipe) → mark u ≡ mark z → (u.in_phase ≡ true) ⊎ (is_done u.wire.send_state ≡ true) → (z.in_phase ≡ true) ⊎ (is_done z.wire.send_state ≡ true)
      by z u e (inl on) = inl (ap (λ (m : Wire × Bool). m.1) (sym e) ∙ on)
      by z u e (inr d) = inr (ap (λ (m : Wire × Bool). is_done m.0.send_state) (sym e) ∙ d)

-- WHAT IS ANSWERED READY
keeper_takes : (st : Stage) (given : Sides) (i : ℕ) (d : PortState) → i < length given.inputs → is_ready (get_or (keeper_answer st given).inputs i d) ≡ true → is_taking st ≡ true
keeper_takes taking given i d h e = refl
keeper_takes giving given i d h e = absurd (let no : false ≡ true = sym (ap is_ready (repeated_at port.Done given.inputs i h d)) ∙ e in cc)
keeper_takes spent given i d h e = absurd (let no : false ≡ true = sym (ap is_ready (repeated_at port.Done given.inputs i h d)) ∙ e in cc)

abbrev join_by : Sides → Bool → Sides
join_by given b = cond b (record { inputs = port.Done ∷ port.Done ∷ []; outputs = port.Ready ∷ [] }) (record { inputs = first_port given.outputs ∷ port.Done ∷ []; outputs = first_port given.inputs ∷ [] })

second_done : (given : Sides) (b : Bool) (d : PortState) → is_ready (get_or (join_by given b).inputs 1 d) ≡ true → ⊥
second_done given true d e = let no : false ≡ true = e in cc
second_done given false d e = let no : false ≡ true = e in cc

join_takes : (j : JoinStep) (a : Progress) (st : Stage) (given : Sides) (i : ℕ) (d : PortState) → i < 2 → is_ready (get_or (join_answer j a st given).inputs i d) ≡ true → takes_input (equi_join j) i st ≡ true
join_takes j a taking given zero d h e = absurd (let no : false ≡ true = e in cc)
join_takes j a taking given (suc i) d h e = refl
join_takes j a giving given zero d h e = refl
join_takes j a giving given (suc zero) d h e = absurd (second_done given (is_done (first_port given.inputs) && owes_last j a) d e)
join_takes j a giving given (suc (suc i)) d h e = absurd (omega arith)
join_takes j a spent given zero d h e = absurd (let no : false ≡ true = e in cc)
join_takes j a spent given (suc zero) d h e = absurd (let no : false ≡ true = e in cc)
join_takes j a spent given (suc (suc i)) d h e = absurd (omega arith)

answer_takes : (o : Options) (kind : PhysicalKind) (a : Progress) (hs : List Head) (es : List Bool) (given : Sides) (i : ℕ) (d : PortState) → HasInputs kind (length given.inputs) → i < length given.inputs → is_ready (get_or (answer_by o kind a hs es given).inputs i d) ≡ true → takes_input kind i a.stage ≡ true
answer_takes o (reduce s) a hs es given i d ins h e = keeper_takes a.stage given i d h e
answer_takes o (group_by_node keys aggregates) a hs es given i d ins h e = keeper_takes a.stage given i d h e
answer_takes o (equi_join j) a hs es given i d ins h e = join_takes j a a.stage given i d (omega (arith, ins, h)) e
answer_takes o kind a hs es given i d ins h e = refl

abbrev zip_by : Sides → Bool → Bool → Sides
zip_by given a b =
    cond a (record { inputs = repeated port.Done given.inputs; outputs = port.Done ∷ [] })
    (cond b (record { inputs = repeated port.Blocked given.inputs; outputs = port.Blocked ∷ [] }) (record { inputs = repeated (cond (is_blocked (first_port given.outputs)) port.Blocked port.Ready) given.inputs; outputs = port.Ready ∷ [] }))

-- a zip that is ready to one input is so to all, and none is blocked
zip_takes : (given : Sides) (a b : Bool) → list_any is_blocked given.inputs ≡ b → (i : ℕ) (d : PortState) → i < length given.inputs → is_ready (get_or (zip_by given a b).inputs i d) ≡ true
    → (list_any is_blocked given.inputs ≡ false) × ((j : ℕ) → j < length given.inputs → IsReadyAt (zip_by given a b).inputs j)
zip_takes given true b q i d h e = absurd (let no : false ≡ true = sym (ap is_ready (repeated_at port.Done given.inputs i h d)) ∙ e in cc)
zip_takes given false true q i d h e = absurd (let no : false ≡ true = sym (ap is_ready (repeated_at port.Blocked given.inputs i h d)) ∙ e in cc)
zip_takes given false false q i d h e =
    let s = cond (is_blocked (first_port given.outputs)) port.Blocked port.Ready in
    let ready : is_ready s ≡ true = sym (ap is_ready (repeated_at s given.inputs i h d)) ∙ e in
    (q, λ j g x. ap is_ready (repeated_at s given.inputs j g x) ∙ ready)

not_blocked : (ss : List PortState) (j : ℕ) (d : PortState) → j < length ss → list_any is_blocked ss ≡ false → is_blocked (get_or ss j d) ≡ false
not_blocked [] j d h e = absurd (omega arith)
not_blocked (s ∷ ss) zero d h e = (neither (is_blocked s) (list_any is_blocked ss) e).0
not_blocked (s ∷ ss) (suc j) d h e = not_blocked ss j d (omega arith) (neither (is_blocked s) (list_any is_blocked ss) e).1

zip_answers : (o : Options) (kind : PhysicalKind) (a : Progress) (hs : List Head) (es : List Bool) (given : Sides) (i : ℕ) (d : PortState) → is_zip kind ≡ true → i < length given.inputs → is_ready (get_or (answer_by o kind a hs es given).inputs i d) ≡ true
    → (list_any is_blocked given.inputs ≡ false) × ((j : ℕ) → j < length given.inputs → IsReadyAt (answer_by o kind a hs es given).inputs j)
zip_answers o (zip_node extend) a hs es given i d k h e = zip_takes given (zip_is_over hs given) (list_any is_blocked given.inputs) refl i d h e
zip_answers o kind a hs es given i d k h e = absurd (let no : false ≡ true = k in cc)

-- A SETTLED WORLD
module _ (F : Functions) (s : World) (f : Facts F s) (rest : IsSettled s) where
  there : (x : Pipe) → Contains s.pipes x → slice_get (given_at s x.wire.receiver).inputs x.wire.input ≡ Some x.wire.send_state
  there x c = slice_get-map (λ (p : Wire). p.send_state) (wires_in x.wire.receiver (wires_of s)) x.wire.input ∙ ap (option_map (λ (p : Wire). p.send_state)) (input_place F s f x.wire (wire_of F s f rest x c))

  within : (x : Pipe) → Contains s.pipes x → x.wire.input < length (given_at s x.wire.receiver).inputs
  within x c = slice_get_within (given_at s x.wire.receiver).inputs x.wire.input x.wire.send_state (there x c)

  -- what is read ready is answered ready
  answered_ready : (x : Pipe) → Contains s.pipes x → (node : Node) → slice_get s.nodes x.wire.receiver ≡ Some node → is_ready x.wire.receive_state ≡ true
      → is_ready (get_or (answer_by s.options node.node.kind node.progress (heads_of s x.wire.receiver node) (empty_outs s x.wire.receiver) (given_at s x.wire.receiver)).inputs x.wire.input x.wire.receive_state) ≡ true
  answered_ready x c node e ready =
      let n = x.wire.receiver in
      let d = x.wire.receive_state in
      let enough = (answered s.options node.node.kind node.progress (heads_of s n node) (empty_outs s n) (given_at s n) (has_inputs F s f n node e) (has_readers F s f n node e)).0 in
      let new = answer_by s.options node.node.kind node.progress (heads_of s n node) (empty_outs s n) (given_at s n) in
      let answer = kept_at (given_at s n).inputs new.inputs x.wire.input d (within x c) enough in
      let says : d ≡ kept_state d (kept_state (get_or (given_at s n).inputs x.wire.input d) (get_or new.inputs x.wire.input d)) = reader_says s (in_place F s f) rest x c node e ∙ ap (kept_state d) answer in
      ready_new (get_or (given_at s n).inputs x.wire.input d) (get_or new.inputs x.wire.input d) (ready_new d (kept_state (get_or (given_at s n).inputs x.wire.input d) (get_or new.inputs x.wire.input d)) (ap is_ready (sym says) ∙ ready))

  settled_takes : (x : Pipe) → Contains s.pipes x → (node : Node) → slice_get s.nodes x.wire.receiver ≡ Some node → both_ready x.wire ≡ true → takes_input node.node.kind x.wire.input node.progress.stage ≡ true
  settled_takes x c node e ready =
      answer_takes s.options node.node.kind node.progress (heads_of s x.wire.receiver node) (empty_outs s x.wire.receiver) (given_at s x.wire.receiver) x.wire.input x.wire.receive_state (has_inputs F s f x.wire.receiver node e) (within x c)
      (answered_ready x c node e (both_true (is_ready x.wire.send_state) (is_ready x.wire.receive_state) ready).1)

  settled_zips : (x z : Pipe) → Contains s.pipes x → Contains s.pipes z → (node : Node) → slice_get s.nodes x.wire.receiver ≡ Some node → is_zip node.node.kind ≡ true → both_ready x.wire ≡ true → z.wire.receiver ≡ x.wire.receiver → (both_ready z.wire ≡ true) ⊎ (is_done z.wire.send_state ≡ true)
  settled_zips x z c d node e k ready r = by z.wire.send_state refl
    where
      n : ℕ
      n = z.wire.receiver

      here : slice_get s.nodes n ≡ Some node
      here = ap (slice_get s.nodes) r ∙ e

      all : (list_any is_blocked (given_at s n).inputs ≡ false) × ((j : ℕ) → j < length (given_at s n).inputs → IsReadyAt (answer_by s.options node.node.kind node.progress (heads_of s n node) (empty_outs s n) (given_at s n)).inputs j)
      all =
          subst (λ m. (list_any is_blocked (given_at s m).inputs ≡ false) × ((j : ℕ) → j < length (given_at s m).inputs → IsReadyAt (answer_by s.options node.node.kind node.progress (heads_of s m node) (empty_outs s m) (given_at s m)).inputs j)) (sym r)
          (zip_answers s.options node.node.kind node.progress (heads_of s x.wire.receiver node) (empty_outs s x.wire.receiver) (given_at s x.wire.receiver) x.wire.input x.wire.receive_state k (within x c)
          (answered_ready x c node e (both_true (is_ready x.wire.send_state) (is_ready x.wire.receive_state) ready).1))

      by : (st : PortState) → z.wire.send_state ≡ st → (both_ready z.wire ≡ true) ⊎ (is_done z.wire.send_state ≡ true)
      by port.Done q = inr (ap is_done q)
      by port.Ready q = let send = ap is_ready q in inl (and_true (is_ready z.wire.send_state) (is_ready z.wire.receive_state) send (read_ready F s f rest z d node here (all.1 z.wire.input (within z d)) send))
      by port.Blocked q =
          let given = get_or_from_slice_get (given_at s n).inputs z.wire.input z.wire.send_state port.Done (there z d) in
          let no : false ≡ true = sym (not_blocked (given_at s n).inputs z.wire.input port.Done (within z d) all.0) ∙ ap is_blocked given ∙ ap is_blocked q in
          absurd cc

  abbrev marked : Pipe → Pipe
  marked p = record p { in_phase = stands_in s p.wire }

  -- so the phase that opens over it fits
  pub phase_fits : (phase : ℕ) (journal : List Record) → InputsFit (record (with_phase s) { phase = phase; journal = journal })
  phase_fits phase journal =
      record {
        takes = λ q node c at on. let x = from_map marked q s.pipes c in takes_at q node x.0 x.1 x.2 at on;
        zips = λ q z node c d at k on r. let x = from_map marked q s.pipes c in let u = from_map marked z s.pipes d in zips_at q z node x.0 u.0 x.1 u.1 x.2 u.2 at k on r;
      }
    where
      ready : (x q : Pipe) → marked x ≡ q → q.in_phase ≡ true → stands_in s x.wire ≡ true
      ready x q e on = ap (λ (p : Pipe). p.in_phase) e ∙ on

      was : (m : ℕ) (y : Node) → slice_get (with_phase s).nodes m ≡ Some y → (z : Node) × (slice_get s.nodes m ≡ Some z) × Same z y
      was m y at = marked_from Same (λ x b. (refl, refl)) (nodes_of_phase s) 0 s.nodes m y at

      takes_at : (q : Pipe) (node : Node) (x : Pipe) → Contains s.pipes x → marked x ≡ q → slice_get (with_phase s).nodes q.wire.receiver ≡ Some node → q.in_phase ≡ true → takes_input node.node.kind q.wire.input node.progress.stage ≡ true
      takes_at q node x c e at on =
          let y = was q.wire.receiver node at in
          let here = ap (λ (p : Pipe). slice_get s.nodes p.wire.receiver) e ∙ y.1 in
          let parts = both_true (both_ready x.wire) (is_one_of x.wire.receiver (nodes_of_phase s)) (ready x q e on) in
          (λ i. takes_input (y.2.0 i).kind (sym e i).wire.input (y.2.1 i).stage) ∙ settled_takes x c y.0 here parts.0

      zips_at : (q z : Pipe) (node : Node) (x u : Pipe) → Contains s.pipes x → Contains s.pipes u → marked x ≡ q → marked u ≡ z → slice_get (with_phase s).nodes q.wire.receiver ≡ Some node → is_zip node.node.kind ≡ true → q.in_phase ≡ true → z.wire.receiver ≡ q.wire.receiver → (z.in_phase ≡ true) ⊎ (is_done z.wire.send_state ≡ true)
      zips_at q z node x u c d e g at k on r =
          by (settled_zips x u c d y.0 here (ap (λ (p : PhysicalNode). is_zip p.kind) (sym y.2.0) ∙ k) parts.0 same)
        where
          y : (o : Node) × (slice_get s.nodes q.wire.receiver ≡ Some o) × Same o node
          y = was q.wire.receiver node at

          here : slice_get s.nodes x.wire.receiver ≡ Some y.0
          here = ap (λ (p : Pipe). slice_get s.nodes p.wire.receiver) e ∙ y.1

          parts : (both_ready x.wire ≡ true) × (is_one_of x.wire.receiver (nodes_of_phase s) ≡ true)
          parts = both_true (both_ready x.wire) (is_one_of x.wire.receiver (nodes_of_phase s)) (ready x q e on)

          same : u.wire.receiver ≡ x.wire.receiver
          same = ap (λ (p : Pipe). p.wire.receiver) g ∙ r ∙ ap (λ (p : Pipe). p.wire.receiver) (sym e)

          by : (both_ready u.wire ≡ true) ⊎ (is_done u.wire.send_state ≡ true) → (z.in_phase ≡ true) ⊎ (is_done z.wire.send_state ≡ true)
          by (inl b) = inl (ap (λ (p : Pipe). p.in_phase) (sym g) ∙ and_true (both_ready u.wire) (is_one_of u.wire.receiver (nodes_of_phase s)) b (ap (λ m. is_one_of m (nodes_of_phase s)) same ∙ parts.1))
          by (inr b) = inr (ap (λ (p : Pipe). is_done p.wire.send_state) (sym g) ∙ b)
