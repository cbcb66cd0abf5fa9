-- What a node is given, read off its pipes by their ports.
use Rattle.std.proofs.Common.{◌≡◌, ◌≢◌, ℕ, ◌<◌, ◌⊎◌, Bool, true, false, List, [], ◌∷◌, ◌++◌, length, Option, Some, refl, sym, ap, subst, ◌∙◌, inl, inr, arith}
use Rattle.std.specs.Prelude.{Contains, IsTrue, ◌||◌, nat_eq, nat_lt, slice_get, slice_set}
use Rattle.std.specs.List.{filter as kept}
use Rattle.std.proofs.lemmas.Bool.{cases_eq}
use Rattle.std.proofs.lemmas.Option.{slice_get_within}
use Rattle.keyed_slots.specs.Slots.{value_at}
use Rattle.ps_ports.specs.declared.port_state.PortState.{PortState}
use Rattle.ps_ports.specs.Phases.{is_one_of}
use Rattle.ps_ports.specs.Wires.{Wire, given_to, wires_in, wires_out}
use Rattle.ps_settle.proofs.Ends.{is_in, is_number, is_out, same_number, has_in, has_out}
use Rattle.ps_settle.proofs.Members.{at_both, at_map, contains_at, item_at, kept-map, length_map, map_at, number_at, place_of, same_items, set_here, set_other}
use Rattle.ps_graph.specs.declared.end.End.{End}
use Rattle.ps_graph.specs.declared.end.End.TheVariants as at
use Rattle.ps_graph.specs.declared.graph.LogicalPipe.{LogicalPipe}
use Rattle.ps_graph.specs.declared.key.LogicalPipeKey.{LogicalPipeKey}
use Rattle.ps_graph.specs.Ends.{AreAt, other_state, place_at}
use Rattle.ps_graph.specs.Linked.{AreKeysOf}
use Rattle.ps_graph.specs.Shown.{is_from, is_to, numbers, values, wire_of, wires_of}
use Rattle.ps_graph.proofs.Places.{is_place, length_in_order, length_places, place_test, value_there}
use Rattle.ps_graph.proofs.Telling.{one_more-cases}

-- one key more is read
pub read_more : (end : End) (slots : List (Option LogicalPipe)) (ks : List ℕ) (x : ℕ) (q : LogicalPipe) (items items' : List PortState)
    → ((k : ℕ) (p : LogicalPipe) → IsTrue (is_one_of k ks) → value_at slots k ≡ Some p → place_at end p ≡ place_at end q → other_state end p ≡ other_state end q)
    → value_at slots x ≡ Some q → place_at end q < length items → items' ≡ slice_set items (place_at end q) (other_state end q)
    → ((k : ℕ) (p : LogicalPipe) → IsTrue (is_one_of k ks) → value_at slots k ≡ Some p → slice_get items (place_at end p) ≡ Some (other_state end p))
    → (k : ℕ) (p : LogicalPipe) → IsTrue (is_one_of k (ks ++ x ∷ [])) → value_at slots k ≡ Some p → slice_get items' (place_at end p) ≡ Some (other_state end p)
read_more end slots ks x q items items' alike at inside write so_far k p among there = elim (cases_eq (place_at end p) (place_at end q)) [
  | inl same ↦
      let old = item_at items (place_at end q) inside in
      let now : slice_get items' (place_at end q) ≡ Some (other_state end q) = ap (λ xs. slice_get xs (place_at end q)) write ∙ set_here items (place_at end q) old.0 (other_state end q) old.1 in
      ap (slice_get items') same ∙ now ∙ ap Some (sym (says same))
  | inr other ↦ ap (λ xs. slice_get xs (place_at end p)) write ∙ set_other items (place_at end q) (place_at end p) (other_state end q) other ∙ so_far k p (earlier other) there
]
  where
    split : IsTrue (is_one_of k ks) ⊎ (k ≡ x)
    split = by (is_one_of k ks) (nat_eq k x) refl refl (sym (one_more-cases k x ks) ∙ among)
      where
        by : (a b : Bool) → is_one_of k ks ≡ a → nat_eq k x ≡ b → IsTrue (a || b) → IsTrue (is_one_of k ks) ⊎ (k ≡ x)
        by true b e d h = inl e
        by false b e d h = inr (is_number k x (d ∙ h))

    is_q : k ≡ x → p ≡ q
    is_q e = let both : Some p ≡ Some q = sym there ∙ ap (value_at slots) e ∙ at in cc

    says : place_at end p ≡ place_at end q → other_state end p ≡ other_state end q
    says same = elim split [ inl h ↦ alike k p h there same | inr e ↦ ap (other_state end) (is_q e) ]

    earlier : place_at end p ≢ place_at end q → IsTrue (is_one_of k ks)
    earlier other = elim split [ inl h ↦ h | inr e ↦ absurd (other (ap (place_at end) (is_q e))) ]

module _ (n : ℕ) (inputs outputs : List LogicalPipeKey) (slots : List (Option LogicalPipe)) (keys : AreKeysOf n inputs outputs slots) where
  -- the pipe of a key, and its wire
  pub pipe_in : (k : ℕ) → IsTrue (is_one_of k (numbers inputs)) → (p : LogicalPipe) × (slice_get (values slots) k ≡ Some p) × (p.receiver.0 ≡ n)
  pipe_in k e =
      let P : List ℕ → Type 0 = λ l. IsTrue (is_one_of k l) in
      let p = is_place 0 (is_to n) (values slots) k (subst P keys.into e) in
      let same : p.0 ≡ k = let is = p.4 in omega (arith, is) in
      (p.1, subst (λ i. slice_get (values slots) i ≡ Some p.1) same p.2, is_number p.1.receiver.0 n p.3)

  pub pipe_out : (k : ℕ) → IsTrue (is_one_of k (numbers outputs)) → (p : LogicalPipe) × (slice_get (values slots) k ≡ Some p) × (p.sender.0 ≡ n)
  pipe_out k e =
      let P : List ℕ → Type 0 = λ l. IsTrue (is_one_of k l) in
      let p = is_place 0 (is_from n) (values slots) k (subst P keys.from e) in
      let same : p.0 ≡ k = let is = p.4 in omega (arith, is) in
      (p.1, subst (λ i. slice_get (values slots) i ≡ Some p.1) same p.2, is_number p.1.sender.0 n p.3)

  wire_at : (k : ℕ) (p : LogicalPipe) → slice_get (values slots) k ≡ Some p → Contains (wires_of slots) (wire_of p)
  wire_at k p e = contains_at (wires_of slots) k (wire_of p) (map_at wire_of (values slots) k p e)

  -- a pipe into the node stands at its place among the wires into it
  place_in : (k : ℕ) (p : LogicalPipe) → slice_get (values slots) k ≡ Some p → p.receiver.0 ≡ n → slice_get (wires_in n (wires_of slots)) p.recv_port ≡ Some (wire_of p)
  place_in k p e to =
      let i = place_of (wires_in n (wires_of slots)) (wire_of p) (is_in n (wires_of slots) (wire_of p) (wire_at k p e) to) in
      let number : p.recv_port ≡ i.0 = number_at (λ (w : Wire). w.input) (wires_in n (wires_of slots)) i.0 (wire_of p) (keys.wired.1.inputs n) i.1 in
      ap (slice_get (wires_in n (wires_of slots))) number ∙ i.1

  place_out : (k : ℕ) (p : LogicalPipe) → slice_get (values slots) k ≡ Some p → p.sender.0 ≡ n → slice_get (wires_out n (wires_of slots)) p.send_port ≡ Some (wire_of p)
  place_out k p e from =
      let i = place_of (wires_out n (wires_of slots)) (wire_of p) (is_out n (wires_of slots) (wire_of p) (wire_at k p e) from) in
      let number : p.send_port ≡ i.0 = number_at (λ (w : Wire). w.port) (wires_out n (wires_of slots)) i.0 (wire_of p) (keys.wired.1.ports n) i.1 in
      ap (slice_get (wires_out n (wires_of slots))) number ∙ i.1

  pub length_inputs : length inputs ≡ length (wires_in n (wires_of slots))
  length_inputs =
      sym (length_map (λ (key : LogicalPipeKey). key.0) inputs) ∙ ap length keys.into ∙ length_places 0 (is_to n) (values slots)
      ∙ sym (length_in_order (λ (p q : Wire). nat_lt p.input q.input) (kept (λ (w : Wire). nat_eq w.receiver n) (wires_of slots)) ∙ ap length (kept-map (λ (w : Wire). nat_eq w.receiver n) wire_of (values slots)) ∙ length_map wire_of (kept (is_to n) (values slots)))

  pub length_outputs : length outputs ≡ length (wires_out n (wires_of slots))
  length_outputs =
      sym (length_map (λ (key : LogicalPipeKey). key.0) outputs) ∙ ap length keys.from ∙ length_places 0 (is_from n) (values slots)
      ∙ sym (length_in_order (λ (p q : Wire). nat_lt p.port q.port) (kept (λ (w : Wire). nat_eq w.sender n) (wires_of slots)) ∙ ap length (kept-map (λ (w : Wire). nat_eq w.sender n) wire_of (values slots)) ∙ length_map wire_of (kept (is_from n) (values slots)))

  pub at_inputs : AreAt at.Receiver (length inputs) (numbers inputs) slots
  at_inputs k e =
      let p = pipe_in k e in
      let inside = slice_get_within (wires_in n (wires_of slots)) p.0.recv_port (wire_of p.0) (place_in k p.0 p.1 p.2) in
      let long = length_inputs in
      (p.0, value_there slots keys.there k ∙ p.1, omega (arith, inside, long))

  pub at_outputs : AreAt at.Sender (length outputs) (numbers outputs) slots
  at_outputs k e =
      let p = pipe_out k e in
      let inside = slice_get_within (wires_out n (wires_of slots)) p.0.send_port (wire_of p.0) (place_out k p.0 p.1 p.2) in
      let long = length_outputs in
      (p.0, value_there slots keys.there k ∙ p.1, omega (arith, inside, long))

  the_pipe : (k : ℕ) (p q : LogicalPipe) → slice_get (values slots) k ≡ Some p → value_at slots k ≡ Some q → p ≡ q
  the_pipe k p q e d = at_both (values slots) k p q e (sym (value_there slots keys.there k) ∙ d)

  pub alike_inputs : (j k : ℕ) (p q : LogicalPipe) → IsTrue (is_one_of j (numbers inputs)) → IsTrue (is_one_of k (numbers inputs)) → value_at slots j ≡ Some p → value_at slots k ≡ Some q → p.recv_port ≡ q.recv_port → p.send_state ≡ q.send_state
  alike_inputs j k p q ej ek atj atk same =
      let a = pipe_in j ej in
      let b = pipe_in k ek in
      let p_is = the_pipe j a.0 p a.1 atj in
      let q_is = the_pipe k b.0 q b.1 atk in
      let place : a.0.recv_port ≡ b.0.recv_port = ap (λ (z : LogicalPipe). z.recv_port) p_is ∙ same ∙ sym (ap (λ (z : LogicalPipe). z.recv_port) q_is) in
      let one : wire_of a.0 ≡ wire_of b.0 = at_both (wires_in n (wires_of slots)) b.0.recv_port (wire_of a.0) (wire_of b.0) (ap (slice_get (wires_in n (wires_of slots))) (sym place) ∙ place_in j a.0 a.1 a.2) (place_in k b.0 b.1 b.2) in
      sym (ap (λ (z : LogicalPipe). z.send_state) p_is) ∙ ap (λ (w : Wire). w.send_state) one ∙ ap (λ (z : LogicalPipe). z.send_state) q_is

  pub alike_outputs : (j k : ℕ) (p q : LogicalPipe) → IsTrue (is_one_of j (numbers outputs)) → IsTrue (is_one_of k (numbers outputs)) → value_at slots j ≡ Some p → value_at slots k ≡ Some q → p.send_port ≡ q.send_port → p.recv_state ≡ q.recv_state
  alike_outputs j k p q ej ek atj atk same =
      let a = pipe_out j ej in
      let b = pipe_out k ek in
      let p_is = the_pipe j a.0 p a.1 atj in
      let q_is = the_pipe k b.0 q b.1 atk in
      let place : a.0.send_port ≡ b.0.send_port = ap (λ (z : LogicalPipe). z.send_port) p_is ∙ same ∙ sym (ap (λ (z : LogicalPipe). z.send_port) q_is) in
      let one : wire_of a.0 ≡ wire_of b.0 = at_both (wires_out n (wires_of slots)) b.0.send_port (wire_of a.0) (wire_of b.0) (ap (slice_get (wires_out n (wires_of slots))) (sym place) ∙ place_out j a.0 a.1 a.2) (place_out k b.0 b.1 b.2) in
      sym (ap (λ (z : LogicalPipe). z.recv_state) p_is) ∙ ap (λ (w : Wire). w.receive_state) one ∙ ap (λ (z : LogicalPipe). z.recv_state) q_is

  -- a wire of the node is that of one of its keys
  pub key_in : (w : Wire) → Contains (wires_of slots) w → w.receiver ≡ n → (k : ℕ) × (p : LogicalPipe) × (value_at slots k ≡ Some p) × (wire_of p ≡ w) × IsTrue (is_one_of k (numbers inputs))
  key_in w c to =
      let k = place_of (wires_of slots) w c in
      let p = at_map wire_of (values slots) k.0 w k.1 in
      let t : is_to n p.0 ≡ true = same_number p.0.receiver.0 n (ap (λ (x : Wire). x.receiver) p.2 ∙ to) in
      (k.0, p.0, value_there slots keys.there k.0 ∙ p.1, p.2, ap (is_one_of k.0) keys.into ∙ place_test (is_to n) (values slots) k.0 p.0 p.1 ∙ t)

  pub key_out : (w : Wire) → Contains (wires_of slots) w → w.sender ≡ n → (k : ℕ) × (p : LogicalPipe) × (value_at slots k ≡ Some p) × (wire_of p ≡ w) × IsTrue (is_one_of k (numbers outputs))
  key_out w c from =
      let k = place_of (wires_of slots) w c in
      let p = at_map wire_of (values slots) k.0 w k.1 in
      let t : is_from n p.0 ≡ true = same_number p.0.sender.0 n (ap (λ (x : Wire). x.sender) p.2 ∙ from) in
      (k.0, p.0, value_there slots keys.there k.0 ∙ p.1, p.2, ap (is_one_of k.0) keys.from ∙ place_test (is_from n) (values slots) k.0 p.0 p.1 ∙ t)

  -- what was read by ports is what the node is given
  pub inputs_given : (items : List PortState) → length items ≡ length inputs → ((k : ℕ) (p : LogicalPipe) → IsTrue (is_one_of k (numbers inputs)) → value_at slots k ≡ Some p → slice_get items p.recv_port ≡ Some p.send_state)
      → items ≡ (given_to n (wires_of slots)).inputs
  inputs_given items long reads = same_items items (given_to n (wires_of slots)).inputs (long ∙ length_inputs ∙ sym (length_map (λ (w : Wire). w.send_state) (wires_in n (wires_of slots)))) at_each
    where
      at_each : (i : ℕ) (x y : PortState) → slice_get items i ≡ Some x → slice_get (given_to n (wires_of slots)).inputs i ≡ Some y → x ≡ y
      at_each i x y ex ey =
          let w = at_map (λ (w : Wire). w.send_state) (wires_in n (wires_of slots)) i y ey in
          let c = has_in n (wires_of slots) w.0 (contains_at (wires_in n (wires_of slots)) i w.0 w.1) in
          let k = key_in w.0 c.0 c.1 in
          let number : w.0.input ≡ i = number_at (λ (v : Wire). v.input) (wires_in n (wires_of slots)) i w.0 (keys.wired.1.inputs n) w.1 in
          let port : k.1.recv_port ≡ i = ap (λ (v : Wire). v.input) k.3 ∙ number in
          at_both items i x k.1.send_state ex (ap (slice_get items) (sym port) ∙ reads k.0 k.1 k.4 k.2) ∙ ap (λ (v : Wire). v.send_state) k.3 ∙ w.2

  pub outputs_given : (items : List PortState) → length items ≡ length outputs → ((k : ℕ) (p : LogicalPipe) → IsTrue (is_one_of k (numbers outputs)) → value_at slots k ≡ Some p → slice_get items p.send_port ≡ Some p.recv_state)
      → items ≡ (given_to n (wires_of slots)).outputs
  outputs_given items long reads = same_items items (given_to n (wires_of slots)).outputs (long ∙ length_outputs ∙ sym (length_map (λ (w : Wire). w.receive_state) (wires_out n (wires_of slots)))) at_each
    where
      at_each : (i : ℕ) (x y : PortState) → slice_get items i ≡ Some x → slice_get (given_to n (wires_of slots)).outputs i ≡ Some y → x ≡ y
      at_each i x y ex ey =
          let w = at_map (λ (w : Wire). w.receive_state) (wires_out n (wires_of slots)) i y ey in
          let c = has_out n (wires_of slots) w.0 (contains_at (wires_out n (wires_of slots)) i w.0 w.1) in
          let k = key_out w.0 c.0 c.1 in
          let number : w.0.port ≡ i = number_at (λ (v : Wire). v.port) (wires_out n (wires_of slots)) i w.0 (keys.wired.1.ports n) w.1 in
          let port : k.1.send_port ≡ i = ap (λ (v : Wire). v.port) k.3 ∙ number in
          at_both items i x k.1.recv_state ex (ap (slice_get items) (sym port) ∙ reads k.0 k.1 k.4 k.2) ∙ ap (λ (v : Wire). v.receive_state) k.3 ∙ w.2
