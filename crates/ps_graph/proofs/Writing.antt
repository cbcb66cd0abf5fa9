-- An answer that is written to the pipes out of a node and then to those into it: the wires afterwards, and who is told.
use Rattle.std.proofs.Common.{◌≡◌, ℕ, suc, zero, ◌<◌, ◌⊎◌, Bool, true, false, List, [], ◌∷◌, length, Option, Some, None, get_or, refl, sym, ap, subst, ◌∙◌, inl, inr, arith}
use Rattle.std.specs.Prelude.{IsTrue, map, nat_eq, slice_get}
use Rattle.keyed_slots.specs.Slots.{value_at}
use Rattle.ps_ports.specs.Phases.{is_one_of}
use Rattle.ps_ports.specs.Ports.{Sides, kept_state}
use Rattle.ps_ports.specs.Wires.{Wire, received, sent, written}
use Rattle.ps_settle.specs.Sweeps.{TellsReaders, TellsSenders, answered}
use Rattle.ps_settle.proofs.Ends.{answered-receive, answered-send, is_number}
use Rattle.ps_settle.proofs.Members.{at_both, at_map, contains_at, item_at, length_map, map_at, same_items}
use Rattle.ps_graph.specs.declared.end.End.TheVariants as at
use Rattle.ps_graph.specs.declared.graph.LogicalPipe.{LogicalPipe}
use Rattle.ps_graph.specs.declared.key.LogicalPipeKey.{LogicalPipeKey}
use Rattle.ps_graph.specs.Ends.{Told, says}
use Rattle.ps_graph.specs.Linked.{AreKeysOf, JoinAlike, joined}
use Rattle.ps_graph.specs.Shown.{are_there, is_from, is_to, numbers, values, wire_of, wires_of}
use Rattle.ps_graph.proofs.Places.{all_there, length_there, place_test, value_there}
use Rattle.ps_graph.proofs.Reading.{key_in, key_out}

flag : (b : Bool) → (b ≡ true) ⊎ (b ≡ false)
flag true = inl refl
flag false = inr refl

module _ (n : ℕ) (inputs outputs : List LogicalPipeKey) (slots mid new : List (Option LogicalPipe)) (keys : AreKeysOf n inputs outputs slots) (a : Sides) (m m' s s' : ℕ → Bool)
    (sends : Told at.Sender a.outputs (numbers outputs) slots mid m m') (receives : Told at.Receiver a.inputs (numbers inputs) mid new s s') where
  -- the pipe at a place, first and after the first half
  half : (k : ℕ) (p : LogicalPipe) → value_at slots k ≡ Some p → (q : LogicalPipe) × (value_at mid k ≡ Some q) × (wire_of q ≡ sent n a (wire_of p)) × (joined q ≡ joined p) × (q.recv_state ≡ p.recv_state)
  half k p e = elim (flag (is_from n p)) [
    | inl from ↦
        let among : IsTrue (is_one_of k (numbers outputs)) = ap (is_one_of k) keys.from ∙ place_test (is_from n) (values slots) k p (sym (value_there slots keys.there k) ∙ e) ∙ from in
        (says at.Sender a.outputs p, sends.written k p among e, rw from refl, refl, refl)
    | inr not_from ↦
        let out : is_one_of k (numbers outputs) ≡ false = ap (is_one_of k) keys.from ∙ place_test (is_from n) (values slots) k p (sym (value_there slots keys.there k) ∙ e) ∙ not_from in
        (p, sends.others k out ∙ e, rw not_from refl, refl, refl)
  ]

  whole : (k : ℕ) (p : LogicalPipe) → value_at slots k ≡ Some p → (r : LogicalPipe) × (value_at new k ≡ Some r) × (wire_of r ≡ answered n a (wire_of p)) × (joined r ≡ joined p)
  whole k p e =
      let q = half k p e in
      let to : is_to n q.0 ≡ is_to n p = ap (λ (j : ℕ × ℕ × ℕ × ℕ). nat_eq j.2 n) q.3 in
      let test = ap (is_one_of k) keys.into ∙ place_test (is_to n) (values slots) k p (sym (value_there slots keys.there k) ∙ e) ∙ sym to in
      let second = by q.0 q.1 test in
      (second.0, second.1, second.2 ∙ ap (received n a) q.2, second.3 ∙ q.3)
    where
      by : (q : LogicalPipe) → value_at mid k ≡ Some q → is_one_of k (numbers inputs) ≡ is_to n q → (r : LogicalPipe) × (value_at new k ≡ Some r) × (wire_of r ≡ received n a (wire_of q)) × (joined r ≡ joined q)
      by q there test = elim (flag (is_to n q)) [
        | inl into ↦ (says at.Receiver a.inputs q, receives.written k q (test ∙ into) there, rw into refl, refl)
        | inr not_into ↦ (q, receives.others k (test ∙ not_into) ∙ there, rw not_into refl, refl)
      ]

  long : length new ≡ length slots
  long = receives.long ∙ sends.long

  first_at : (k : ℕ) → k < length slots → (p : LogicalPipe) × (value_at slots k ≡ Some p)
  first_at k h =
      let within = length_there slots keys.there in
      let p = item_at (values slots) k (omega (arith, within, h)) in
      (p.0, value_there slots keys.there k ∙ p.1)

  there_new : IsTrue (are_there new)
  there_new = all_there new (λ k h. let l = long in let p = first_at k (omega (arith, h, l)) in let r = whole k p.0 p.1 in (r.0, r.1))

  same_count : length (values new) ≡ length (values slots)
  same_count = length_there new there_new ∙ long ∙ sym (length_there slots keys.there)

  -- the pipes join what they joined
  pub join_alike : JoinAlike slots new
  join_alike = record { there = there_new; long = long; alike = same_items (map joined (values new)) (map joined (values slots)) (length_map joined (values new) ∙ same_count ∙ sym (length_map joined (values slots))) each }
    where
      each : (i : ℕ) (x y : ℕ × ℕ × ℕ × ℕ) → slice_get (map joined (values new)) i ≡ Some x → slice_get (map joined (values slots)) i ≡ Some y → x ≡ y
      each i x y ex ey =
          let r = at_map joined (values new) i x ex in
          let p = at_map joined (values slots) i y ey in
          let w = whole i p.0 (value_there slots keys.there i ∙ p.1) in
          let same : w.0 ≡ r.0 = at_both (values new) i w.0 r.0 (sym (value_there new there_new i) ∙ w.1) r.1 in
          sym r.2 ∙ ap joined (sym same) ∙ w.3 ∙ p.2

  -- the wires are those with the answer
  pub wires_written : wires_of new ≡ written n a (wires_of slots)
  wires_written =
      same_items (wires_of new) (map (answered n a) (wires_of slots))
      (length_map wire_of (values new) ∙ same_count ∙ sym (length_map wire_of (values slots)) ∙ sym (length_map (answered n a) (wires_of slots))) each
    where
      each : (i : ℕ) (x y : Wire) → slice_get (wires_of new) i ≡ Some x → slice_get (map (answered n a) (wires_of slots)) i ≡ Some y → x ≡ y
      each i x y ex ey =
          let r = at_map wire_of (values new) i x ex in
          let v = at_map (answered n a) (wires_of slots) i y ey in
          let p = at_map wire_of (values slots) i v.0 v.1 in
          let w = whole i p.0 (value_there slots keys.there i ∙ p.1) in
          let same : w.0 ≡ r.0 = at_both (values new) i w.0 r.0 (sym (value_there new there_new i) ∙ w.1) r.1 in
          sym r.2 ∙ ap wire_of (sym same) ∙ w.2 ∙ ap (answered n a) p.2 ∙ v.2

  sent_is : (p : LogicalPipe) → p.sender.0 ≡ n → (answered n a (wire_of p)).send_state ≡ (says at.Sender a.outputs p).send_state
  sent_is p from = answered-send n a (wire_of p) from

  received_is : (p q : LogicalPipe) → joined q ≡ joined p → q.recv_state ≡ p.recv_state → p.receiver.0 ≡ n → (answered n a (wire_of p)).receive_state ≡ (says at.Receiver a.inputs q).recv_state
  received_is p q same state to =
      answered-receive n a (wire_of p) to
      ∙ sym (λ i. kept_state (state i) (get_or a.inputs (same i).3 (state i)))

  -- readers of what the node sends are told
  pub tells_readers : TellsReaders n a (wires_of slots) m m'
  tells_readers =
      record {
        kept = sends.kept;
        told = λ w c from.
            let k = key_out n inputs outputs slots keys w c from in
            let node = ap (λ (v : Wire). v.receiver) k.3 in
            let own = ap (λ (v : Wire). v.sender) k.3 ∙ from in
            elim (sends.told k.0 k.1 k.4 k.2) [
              | inl same ↦ inl (ap (λ v. (answered n a v).send_state) (sym k.3) ∙ sent_is k.1 own ∙ same ∙ ap (λ (v : Wire). v.send_state) k.3)
              | inr marked ↦ inr (subst (λ j. IsTrue (m' j)) node marked)
            ];
        only = λ j h. elim (sends.only j h) [
          | inl was ↦ inl was
          | inr (k, p, among, there, node, differs) ↦
              let place = sym (value_there slots keys.there k) ∙ there in
              let from = is_number p.sender.0 n (sym (ap (is_one_of k) keys.from ∙ place_test (is_from n) (values slots) k p place) ∙ among) in
              inr (wire_of p, contains_at (wires_of slots) k (wire_of p) (map_at wire_of (values slots) k p place), from, node, λ e. differs (sym (sent_is p from) ∙ e))
        ];
      }

  -- senders of what it is sent are told
  pub tells_senders : TellsSenders n a (wires_of slots) s s'
  tells_senders =
      record {
        kept = receives.kept;
        told = λ w c to.
            let k = key_in n inputs outputs slots keys w c to in
            let q = half k.0 k.1 k.2 in
            let own = ap (λ (v : Wire). v.receiver) k.3 ∙ to in
            let node = ap (λ (j : ℕ × ℕ × ℕ × ℕ). j.0) q.3 ∙ ap (λ (v : Wire). v.sender) k.3 in
            elim (receives.told k.0 q.0 k.4 q.1) [
              | inl same ↦ inl (ap (λ v. (answered n a v).receive_state) (sym k.3) ∙ received_is k.1 q.0 q.3 q.4 own ∙ same ∙ q.4 ∙ ap (λ (v : Wire). v.receive_state) k.3)
              | inr marked ↦ inr (subst (λ j. IsTrue (s' j)) node marked)
            ];
        only = λ j h. elim (receives.only j h) [
          | inl was ↦ inl was
          | inr (k, q, among, there, node, differs) ↦
              let within : k < length slots = inside k q there in
              let p = first_at k within in
              let r = half k p.0 p.1 in
              let same : r.0 ≡ q = (let both : Some r.0 ≡ Some q = sym r.1 ∙ there in cc) in
              let place = sym (value_there slots keys.there k) ∙ p.1 in
              let to = is_number p.0.receiver.0 n (sym (ap (is_one_of k) keys.into ∙ place_test (is_to n) (values slots) k p.0 place) ∙ among) in
              let join : joined q ≡ joined p.0 = ap joined (sym same) ∙ r.3 in
              let state : q.recv_state ≡ p.0.recv_state = ap (λ (z : LogicalPipe). z.recv_state) (sym same) ∙ r.4 in
              inr (
                wire_of p.0,
                contains_at (wires_of slots) k (wire_of p.0) (map_at wire_of (values slots) k p.0 place),
                to,
                sym (ap (λ (j : ℕ × ℕ × ℕ × ℕ). j.0) join) ∙ node,
                (λ e. differs (sym (received_is p.0 q join state to) ∙ e ∙ sym state)),
              )
        ];
      }
    where
      value_within : {A : Type 0} (xs : List (Option A)) (k : ℕ) (x : A) → value_at xs k ≡ Some x → k < length xs
      value_within [] k x e = absurd (let clash : None ≡ Some x = e in cc)
      value_within (y ∷ ys) zero x e = omega arith
      value_within (y ∷ ys) (suc k) x e = inner (value_within ys k x e)
        where
          inner : k < length ys → suc k < suc (length ys)
          inner h = omega (arith, h)

      inside : (k : ℕ) (q : LogicalPipe) → value_at mid k ≡ Some q → k < length slots
      inside k q e = let h = value_within mid k q e in let l = sends.long in omega (arith, h, l)
