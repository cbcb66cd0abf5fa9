-- A world between phases as a graph of nodes that their updates see.
use Rattle.std.proofs.Common.{◌≡◌, ℕ, zero, suc, ◌+◌, ◌-◌, Bool, true, false, cond, List, [], ◌∷◌, length, Some, None, refl, sym, ap, ◌∙◌, arith}
use Rattle.std.specs.Prelude.{get_or, map, nat_eq, nat_lt, slice_get, slice_set, ◌||◌}
use Rattle.std.specs.List.{filter as kept}
use Rattle.ps_frame.specs.Sorting.{in_order}
use Rattle.ps_meaning.specs.Shape.{PhysicalKind, zip_node}
use Rattle.ps_ports.specs.Ports.{Sides, is_done, kept_state}
use Rattle.ps_ports.specs.Wires.{Wire, wires_in, received as received_wire, sent as sent_wire, written as written_wires}
use Rattle.ps_settle.specs.Standings.{Standing}
use Rattle.ps_settle.proofs.Members.{in_order-map, kept-map, map_twice}
use Rattle.ps_turns.specs.Heads.{heads_by, stored_inputs}
use Rattle.ps_world.specs.Facts.{joins_of}
use Rattle.ps_world.specs.Updates.{empty_outs, given_at, received, sent}
use Rattle.ps_world.specs.World.{Node, Pipe, World, heads_of, inputs_done, is_drained, schemas_for, wires_of}
use Rattle.turn_laws.specs.Updating.{SeenNode, heads_given, heads_seen}

abbrev pub seen_at : World → ℕ → Node → SeenNode
seen_at w n node = record { node = node.node; schemas = schemas_for w node; empties = empty_outs w n; progress = node.progress }

abbrev pub seen_from : World → ℕ → List Node → List SeenNode
seen_from w k [] = []
seen_from w k (x ∷ xs) = seen_at w k x ∷ seen_from w (k + 1) xs

abbrev pub standing_of : World → Standing SeenNode
standing_of w = record { nodes = seen_from w 0 w.nodes; wires = wires_of w }

-- NODES
pub length_seen : (w : World) (k : ℕ) (xs : List Node) → length (seen_from w k xs) ≡ length xs
length_seen w k [] = refl
length_seen w k (x ∷ xs) = ap suc (length_seen w (k + 1) xs)

seen_number : (w : World) (x : Node) (m n : ℕ) (a : SeenNode) → m ≡ n → seen_at w m x ≡ a → seen_at w n x ≡ a
seen_number w x m n a e s = ap (λ k. seen_at w k x) (sym e) ∙ s

-- what stands at a place is the node there, as it is seen
seen_there : (w : World) (k : ℕ) (xs : List Node) (n : ℕ) (a : SeenNode) → slice_get (seen_from w k xs) n ≡ Some a → (x : Node) × (slice_get xs n ≡ Some x) × (seen_at w (k + n) x ≡ a)
seen_there w k [] n a e = absurd (let no : None ≡ Some a = e in cc)
seen_there w k (x ∷ xs) zero a e = (x, refl, seen_number w x k (k + 0) a (omega arith) (let q : Some (seen_at w k x) ≡ Some a = e in cc))
seen_there w k (x ∷ xs) (suc n) a e =
    let rest = seen_there w (k + 1) xs n a e in
    (rest.0, rest.1, seen_number w rest.0 (k + 1 + n) (k + suc n) a (omega arith) rest.2)

pub seen_node : (w : World) (n : ℕ) (a : SeenNode) → slice_get (standing_of w).nodes n ≡ Some a → (x : Node) × (slice_get w.nodes n ≡ Some x) × (seen_at w n x ≡ a)
seen_node w n a e = let there = seen_there w 0 w.nodes n a e in (there.0, there.1, seen_number w there.0 (0 + n) n a (omega arith) there.2)

there_seen : (w : World) (k : ℕ) (xs : List Node) (n : ℕ) (x : Node) → slice_get xs n ≡ Some x → slice_get (seen_from w k xs) n ≡ Some (seen_at w (k + n) x)
there_seen w k [] n x e = absurd (let no : None ≡ Some x = e in cc)
there_seen w k (y ∷ ys) zero x e =
    let same : y ≡ x = let q : Some y ≡ Some x = e in cc in
    ap (λ z. Some (seen_at w k z)) same ∙ ap (λ m. Some (seen_at w m x)) (let z : k ≡ k + 0 = omega arith in z)
there_seen w k (y ∷ ys) (suc n) x e = there_seen w (k + 1) ys n x e ∙ ap (λ m. Some (seen_at w m x)) (let z : k + 1 + n ≡ k + suc n = omega arith in z)

pub node_seen : (w : World) (n : ℕ) (x : Node) → slice_get w.nodes n ≡ Some x → slice_get (standing_of w).nodes n ≡ Some (seen_at w n x)
node_seen w n x e = there_seen w 0 w.nodes n x e ∙ ap (λ m. Some (seen_at w m x)) (let z : 0 + n ≡ n = omega arith in z)

-- another node in its place
seen_set : (w : World) (k : ℕ) (xs : List Node) (n : ℕ) (y : Node) → seen_from w k (slice_set xs n y) ≡ slice_set (seen_from w k xs) n (seen_at w (k + n) y)
seen_set w k [] n y = refl
seen_set w k (x ∷ xs) zero y = ap (λ m. seen_at w m y ∷ seen_from w (k + 1) xs) (let z : k ≡ k + 0 = omega arith in z)
seen_set w k (x ∷ xs) (suc n) y =
    ap (λ l. seen_at w k x ∷ l) (seen_set w (k + 1) xs n y) ∙ ap (λ m. seen_at w k x ∷ slice_set (seen_from w (k + 1) xs) n (seen_at w m y)) (let z : k + 1 + n ≡ k + suc n = omega arith in z)

pub set_seen : (w : World) (n : ℕ) (y : Node) → seen_from w 0 (slice_set w.nodes n y) ≡ slice_set (seen_from w 0 w.nodes) n (seen_at w n y)
set_seen w n y = seen_set w 0 w.nodes n y ∙ ap (λ m. slice_set (seen_from w 0 w.nodes) n (seen_at w m y)) (let z : 0 + n ≡ n = omega arith in z)

-- two worlds that show each node the same
pub seen_alike : (v w : World) (k : ℕ) (xs : List Node) → ((m : ℕ) (x : Node) → seen_at v m x ≡ seen_at w m x) → seen_from v k xs ≡ seen_from w k xs
seen_alike v w k [] h = refl
seen_alike v w k (x ∷ xs) h = let a = h k x in let rest = seen_alike v w (k + 1) xs h in λ i. a i ∷ rest i

-- PIPES
-- a pipe with a node's answer at its ends
abbrev pub written_pipe : ℕ → Sides → Pipe → Pipe
written_pipe n a p =
    let q = cond (nat_eq p.wire.receiver n) (received (get_or a.inputs p.wire.input p.wire.receive_state) p) p in
    cond (nat_eq q.wire.sender n) (sent (get_or a.outputs q.wire.port q.wire.send_state) q) q

-- what an answer leaves of a pipe
record Leaves (x y : Pipe) : Type 0 where
  got : y.got ≡ x.got
  next : y.next ≡ x.next
  is_dropped : y.is_dropped ≡ x.is_dropped
  joins : joins_of y ≡ joins_of x

leaves : (n : ℕ) (a : Sides) (x : Pipe) → Leaves x (written_pipe n a x)
leaves n a x =
    let q = cond (nat_eq x.wire.receiver n) (received (get_or a.inputs x.wire.input x.wire.receive_state) x) x in
    let i = into (nat_eq x.wire.receiver n) in
    let o = out q (nat_eq q.wire.sender n) in
    record { got = o.got ∙ i.got; next = o.next ∙ i.next; is_dropped = o.is_dropped ∙ i.is_dropped; joins = o.joins ∙ i.joins }
  where
    out : (y : Pipe) (b : Bool) → Leaves y (cond b (sent (get_or a.outputs y.wire.port y.wire.send_state) y) y)
    out y true = record { got = refl; next = refl; is_dropped = refl; joins = refl }
    out y false = record { got = refl; next = refl; is_dropped = refl; joins = refl }

    into : (b : Bool) → Leaves x (cond b (received (get_or a.inputs x.wire.input x.wire.receive_state) x) x)
    into true = record { got = refl; next = refl; is_dropped = refl; joins = refl }
    into false = record { got = refl; next = refl; is_dropped = refl; joins = refl }

-- it leaves which outgoing pipes are empty
pub drained_alike : (n : ℕ) (a : Sides) (w v : World) → v.pipes ≡ map (written_pipe n a) w.pipes → (m : ℕ) → empty_outs v m ≡ empty_outs w m
drained_alike n a w v e m =
    ap (λ ps. map is_drained (in_order (λ (p q : Pipe). nat_lt p.wire.port q.wire.port) (kept (λ (p : Pipe). nat_eq p.wire.sender m) ps))) e
    ∙ ap (λ l. map is_drained (in_order (λ (p q : Pipe). nat_lt p.wire.port q.wire.port) l)) (kept-map (λ (p : Pipe). nat_eq p.wire.sender m) (written_pipe n a) w.pipes)
    ∙ ap (map is_drained) (in_order-map (λ (p q : Pipe). nat_lt p.wire.port q.wire.port) (written_pipe n a) (kept (λ (p : Pipe). nat_eq (written_pipe n a p).wire.sender m) w.pipes))
    ∙ map_twice is_drained (written_pipe n a)
    (in_order (λ (p q : Pipe). nat_lt (written_pipe n a p).wire.port (written_pipe n a q).wire.port) (kept (λ (p : Pipe). nat_eq (written_pipe n a p).wire.sender m) w.pipes))
    ∙ (λ i. map (λ (p : Pipe). (leaves n a p).is_dropped i || nat_eq (length ((leaves n a p).got i) - (leaves n a p).next i) 0)
    (in_order (λ (p q : Pipe). nat_lt ((leaves n a p).joins i).port ((leaves n a q).joins i).port) (kept (λ (p : Pipe). nat_eq ((leaves n a p).joins i).sender m) w.pipes)))

-- and writes to the wires what the graph itself writes
module _ (n : ℕ) (a : Sides) where
  into : Bool → Wire → Wire
  into b q = cond b (record q { receive_state = kept_state q.receive_state (get_or a.inputs q.input q.receive_state) }) q

  out : Bool → Wire → Wire
  out b q = cond b (record q { send_state = kept_state q.send_state (get_or a.outputs q.port q.send_state) }) q

  wire_into : (b : Bool) (p : Pipe) → (cond {A = Pipe} b (received (get_or a.inputs p.wire.input p.wire.receive_state) p) p).wire ≡ into b p.wire
  unfolding into
  wire_into true p = refl
  wire_into false p = refl

  wire_out : (b : Bool) (p : Pipe) → (cond {A = Pipe} b (sent (get_or a.outputs p.wire.port p.wire.send_state) p) p).wire ≡ out b p.wire
  unfolding out
  wire_out true p = refl
  wire_out false p = refl

  into_sender : (b : Bool) (q : Wire) → (into b q).sender ≡ q.sender
  unfolding into
  into_sender true q = refl
  into_sender false q = refl

  out_receiver : (b : Bool) (q : Wire) → (out b q).receiver ≡ q.receiver
  unfolding out
  out_receiver true q = refl
  out_receiver false q = refl

  either_order : (b d : Bool) (q : Wire) → out d (into b q) ≡ into b (out d q)
  unfolding into out
  either_order true true q = refl
  either_order true false q = refl
  either_order false true q = refl
  either_order false false q = refl

  as_graph : (q : Wire) → into (nat_eq (out (nat_eq q.sender n) q).receiver n) (out (nat_eq q.sender n) q) ≡ received_wire n a (sent_wire n a q)
  unfolding into out
  as_graph q = refl

  pub wire_written : (p : Pipe) → (written_pipe n a p).wire ≡ received_wire n a (sent_wire n a p.wire)
  wire_written p =
      let b = nat_eq p.wire.receiver n in
      let d = nat_eq p.wire.sender n in
      let q : Pipe = cond b (received (get_or a.inputs p.wire.input p.wire.receive_state) p) p in
      let at_into : q.wire ≡ into b p.wire = wire_into b p in
      let at_sender : q.wire.sender ≡ p.wire.sender = ap (λ (x : Wire). x.sender) at_into ∙ into_sender b p.wire in
      wire_out (nat_eq q.wire.sender n) q ∙ (λ i. out (nat_eq (at_sender i) n) (at_into i)) ∙ either_order b d p.wire
      ∙ (λ i. into (nat_eq (sym (out_receiver d p.wire) i) n) (out d p.wire)) ∙ as_graph p.wire

pub wires_written : (n : ℕ) (a : Sides) (ps : List Pipe) → map (λ (p : Pipe). p.wire) (map (written_pipe n a) ps) ≡ written_wires n a (map (λ (p : Pipe). p.wire) ps)
wires_written n a ps =
    map_twice (λ (p : Pipe). p.wire) (written_pipe n a) ps ∙ (λ i. map (λ (p : Pipe). wire_written n a p i) ps) ∙ sym (map_twice (λ (q : Wire). received_wire n a (sent_wire n a q)) (λ (p : Pipe). p.wire) ps)

-- HEADS
wires_to : (n : ℕ) (ps : List Pipe)
    → wires_in n (map (λ (p : Pipe). p.wire) ps) ≡ map (λ (p : Pipe). p.wire) (in_order (λ (p q : Pipe). nat_lt p.wire.input q.wire.input) (kept (λ (p : Pipe). nat_eq p.wire.receiver n) ps))
wires_to n ps =
    ap (in_order (λ (p q : Wire). nat_lt p.input q.input)) (kept-map (λ (p : Wire). nat_eq p.receiver n) (λ (p : Pipe). p.wire) ps)
    ∙ in_order-map (λ (p q : Wire). nat_lt p.input q.input) (λ (p : Pipe). p.wire) (kept (λ (p : Pipe). nat_eq p.wire.receiver n) ps)

done_given : (w : World) (n : ℕ) → map is_done (given_at w n).inputs ≡ inputs_done w n
done_given w n =
    ap (λ l. map is_done (map (λ (p : Wire). p.send_state) l)) (wires_to n w.pipes)
    ∙ ap (map is_done) (map_twice (λ (p : Wire). p.send_state) (λ (p : Pipe). p.wire) (in_order (λ (p q : Pipe). nat_lt p.wire.input q.wire.input) (kept (λ (p : Pipe). nat_eq p.wire.receiver n) w.pipes)))
    ∙ map_twice is_done (λ (p : Pipe). p.wire.send_state) (in_order (λ (p q : Pipe). nat_lt p.wire.input q.wire.input) (kept (λ (p : Pipe). nat_eq p.wire.receiver n) w.pipes))

-- the heads of a zip in a world are those that its update sees
pub heads_are : (w : World) (n : ℕ) (node : Node) → heads_of w n node ≡ heads_seen (seen_at w n node) (given_at w n)
heads_are w n node = by node.node.kind
  where
    by : (kind : PhysicalKind) → heads_of w n (record node { node = record node.node { kind = kind } }) ≡ heads_given kind node.progress (given_at w n)
    by (zip_node extend) = λ i. heads_by extend node.progress.booked (stored_inputs (sym (done_given w n) i) node.progress.stores)
    by kind = refl
