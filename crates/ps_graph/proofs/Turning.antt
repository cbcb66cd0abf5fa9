-- A graph after one update of one node: it is linked and wired as before, and stands as that update left it.
use Rattle.std.proofs.Common.{◌≡◌, ℕ, suc, zero, ◌+◌, ◌<◌, ◌^◌, ◌⊎◌, Bool, true, false, cond, List, [], ◌∷◌, length, Option, Some, None, refl, sym, ap, subst, ◌∙◌, inl, inr}
use Rattle.std.specs.Prelude.{IsTrue, map, nat_eq, slice_get, slice_set}
use Rattle.std.specs.List.{filter as kept}
use Rattle.std.proofs.lemmas.Bool.{cases_eq}
use Rattle.keyed_slots.specs.Slots.{value_at}
use Rattle.ps_frame.specs.Zip.{below}
use Rattle.ps_ports.specs.Ports.{Sides}
use Rattle.ps_ports.specs.Wires.{IsWired, Wire, given_to, wires_in, wires_out, written}
use Rattle.ps_settle.specs.Standings.{updated}
use Rattle.ps_settle.specs.Sweeps.{answered}
use Rattle.ps_settle.proofs.Ends.{alike_in, alike_out, answered-joins, joins, wires_in-map, wires_out-map}
use Rattle.ps_settle.proofs.Members.{at_map, contains_at, kept-map, length_map, map_at, map_twice, place_of}
use Rattle.ps_settle.proofs.Passes.{length_set}
use Rattle.ps_graph.specs.declared.graph.Graph.{Graph}
use Rattle.ps_graph.specs.declared.graph.GraphNode.{GraphNode}
use Rattle.ps_graph.specs.declared.graph.LogicalPipe.{LogicalPipe}
use Rattle.ps_graph.specs.Linked.{AreKeysOf, JoinAlike, joined}
use Rattle.ps_graph.specs.Shown.{CanRun, IsLinked, are_there, inputs_into, is_to, nodes_of, numbers, places_from, standing_of, values, wires_of}
use Rattle.ps_graph.specs.Turning.{origins_of}
use Rattle.ps_graph.proofs.Places.{value_there}
use Rattle.ps_graph.proofs.Telling.{value_other, value_set}

-- wires with an answer are wired as before
pub wired_written : (nodes : ℕ) (ws : List Wire) (v : ℕ) (a : Sides) → IsWired nodes ws → IsWired nodes (written v a ws)
wired_written nodes ws v a wired =
    record {
      forward = λ p c.
          let i = place_of (written v a ws) p c in
          let w = at_map (answered v a) ws i.0 p i.1 in
          let same : joins p ≡ joins w.0 = ap joins (sym w.2) ∙ answered-joins v a w.0 in
          let f = wired.forward w.0 (contains_at ws i.0 w.0 w.1) in
          let P : ℕ × ℕ × ℕ × ℕ → Type 0 = λ j. (j.0 < j.2) × (j.2 < nodes) in
          subst P (sym same) f;
      inputs = λ n.
          let numbers_same = alike_in (answered v a) (answered-joins v a) (λ (p : Wire). p.input) (λ (p : Wire). p.input) n ws (λ p c e. ap (λ (j : ℕ × ℕ × ℕ × ℕ). j.3) (answered-joins v a p)) in
          let long : length (wires_in n (written v a ws)) ≡ length (wires_in n ws) = ap length (wires_in-map (answered v a) (answered-joins v a) n ws) ∙ length_map (answered v a) (wires_in n ws) in
          numbers_same ∙ wired.inputs n ∙ ap below (sym long);
      ports = λ n.
          let numbers_same = alike_out (answered v a) (answered-joins v a) (λ (p : Wire). p.port) (λ (p : Wire). p.port) n ws (λ p c e. ap (λ (j : ℕ × ℕ × ℕ × ℕ). j.1) (answered-joins v a p)) in
          let long : length (wires_out n (written v a ws)) ≡ length (wires_out n ws) = ap length (wires_out-map (answered v a) (answered-joins v a) n ws) ∙ length_map (answered v a) (wires_out n ws) in
          numbers_same ∙ wired.ports n ∙ ap below (sym long);
    }

places_map : {A B : Type 0} (f : A → B) (test : B → Bool) (k : ℕ) (xs : List A) → places_from k (λ x. test (f x)) xs ≡ places_from k test (map f xs)
places_map f test k [] = refl
places_map f test k (x ∷ xs) = ap (λ l. cond (test (f x)) (k ∷ l) l) (places_map f test (k + 1) xs)

-- pipes that join alike have the same places
places_alike : (old new : List (Option LogicalPipe)) → JoinAlike old new → (test : ℕ × ℕ × ℕ × ℕ → Bool) → places_from 0 (λ p. test (joined p)) (values old) ≡ places_from 0 (λ p. test (joined p)) (values new)
places_alike old new same test = places_map joined test 0 (values old) ∙ ap (places_from 0 test) (sym same.alike) ∙ sym (places_map joined test 0 (values new))

-- the inputs that pipes lead to, by what the pipes join
inputs_joined : (n : ℕ) (pipes : List LogicalPipe) → inputs_into n pipes ≡ map (λ (j : ℕ × ℕ × ℕ × ℕ). j.3) (kept (λ (j : ℕ × ℕ × ℕ × ℕ). nat_eq j.2 n) (map joined pipes))
inputs_joined n pipes = sym (ap (map (λ (j : ℕ × ℕ × ℕ × ℕ). j.3)) (kept-map (λ (j : ℕ × ℕ × ℕ × ℕ). nat_eq j.2 n) joined pipes) ∙ map_twice (λ (j : ℕ × ℕ × ℕ × ℕ). j.3) joined (kept (is_to n) pipes))

-- A graph is linked if its pipes join what those of a linked one join, and each of its nodes names the pipes that one of that graph names.
pub linked_alike : {N : Type 0} (g g' : Graph N) → IsLinked g → IsTrue (are_there g'.nodes.slots) → length g'.nodes.slots ≡ length g.nodes.slots → JoinAlike g.pipes.slots g'.pipes.slots
    → ((n : ℕ) (x : GraphNode N) → value_at g'.nodes.slots n ≡ Some x → (y : GraphNode N) × (value_at g.nodes.slots n ≡ Some y) × (x.inputs ≡ y.inputs) × (x.outputs ≡ y.outputs)) → IsLinked g'
linked_alike g g' linked there long same was =
    record {
      nodes_there = there;
      pipes_there = same.there;
      few_nodes = subst (λ k. k < 2 ^ 32) (sym long) linked.few_nodes;
      few_pipes = subst (λ k. k < 2 ^ 32) (sym same.long) linked.few_pipes;
      inputs = λ n x e.
          let y = was n x e in
          ap (λ z. numbers z.items) y.2 ∙ linked.inputs n y.0 y.1 ∙ places_alike g.pipes.slots g'.pipes.slots same (λ j. nat_eq j.2 n);
      outputs = λ n x e.
          let y = was n x e in
          ap (λ z. numbers z.items) y.3 ∙ linked.outputs n y.0 y.1 ∙ places_alike g.pipes.slots g'.pipes.slots same (λ j. nat_eq j.0 n);
      inside = λ p c.
          let i = place_of (values g'.pipes.slots) p c in
          let there = ap (λ l. slice_get l i.0) (sym same.alike) ∙ map_at joined (values g'.pipes.slots) i.0 p i.1 in
          let q = at_map joined (values g.pipes.slots) i.0 (joined p) there in
          let P : ℕ → ℕ × ℕ × ℕ × ℕ → Type 0 = λ k j. (j.0 < k) × (j.0 < j.2) × (j.2 < k) in
          subst (λ k. P k (joined p)) (sym long) (subst (P (length g.nodes.slots)) q.2 (linked.inside q.0 (contains_at (values g.pipes.slots) i.0 q.0 q.1)));
      numbered = λ n.
          let alike : inputs_into n (values g'.pipes.slots) ≡ inputs_into n (values g.pipes.slots) =
          inputs_joined n (values g'.pipes.slots) ∙ ap (λ l. map (λ (j : ℕ × ℕ × ℕ × ℕ). j.3) (kept (λ (j : ℕ × ℕ × ℕ × ℕ). nat_eq j.2 n) l)) same.alike ∙ sym (inputs_joined n (values g.pipes.slots)) in
          alike ∙ linked.numbered n ∙ ap (λ l. below (length l)) (sym alike);
    }

pub there_set : {A : Type 0} (slots : List (Option A)) (k : ℕ) (x : A) → IsTrue (are_there slots) → IsTrue (are_there (slice_set slots k (Some x)))
there_set [] k x e = refl
there_set (None ∷ ys) k x e = absurd (let clash : false ≡ true = e in cc)
there_set (Some y ∷ ys) zero x e = e
there_set (Some y ∷ ys) (suc k) x e = there_set ys k x e

pub values_set : {A : Type 0} (slots : List (Option A)) (k : ℕ) (x : A) → IsTrue (are_there slots) → values (slice_set slots k (Some x)) ≡ slice_set (values slots) k x
values_set [] k x e = refl
values_set (None ∷ ys) k x e = absurd (let clash : false ≡ true = e in cc)
values_set (Some y ∷ ys) zero x e = refl
values_set (Some y ∷ ys) (suc k) x e = ap (λ l. y ∷ l) (values_set ys k x e)

pub map_set : {A B : Type 0} (f : A → B) (xs : List A) (k : ℕ) (x : A) → map f (slice_set xs k x) ≡ slice_set (map f xs) k (f x)
map_set f [] k x = refl
map_set f (y ∷ ys) zero x = refl
map_set f (y ∷ ys) (suc k) x = ap (λ l. f y ∷ l) (map_set f ys k x)

pub set_same : {A : Type 0} (xs : List A) (k : ℕ) (x : A) → slice_get xs k ≡ Some x → slice_set xs k x ≡ xs
set_same [] k x e = refl
set_same (y ∷ ys) zero x e = let same : y ≡ x = (let both : Some y ≡ Some x = e in cc) in λ i. sym same i ∷ ys
set_same (y ∷ ys) (suc k) x e = ap (λ l. y ∷ l) (set_same ys k x e)

module _ {N : Type 0} (HasPorts : N → ℕ → ℕ → Type 0) (g : Graph N) (can : CanRun HasPorts g) (v : ℕ) (node : GraphNode N) (stands : value_at g.nodes.slots v ≡ Some node) where
  -- the keys of a node that may run
  pub keys_of : AreKeysOf v node.inputs.items node.outputs.items g.pipes.slots
  keys_of =
      record { there = can.linked.pipes_there; into = can.linked.inputs v node stands; from = can.linked.outputs v node stands; wired = (length (nodes_of g.nodes.slots), can.wired) }

  value_is : slice_get (values g.nodes.slots) v ≡ Some node
  value_is = sym (value_there g.nodes.slots can.linked.nodes_there v) ∙ stands

  pub node_stands : slice_get (nodes_of g.nodes.slots) v ≡ Some node.compute
  node_stands = map_at (λ (n : GraphNode N). n.compute) (values g.nodes.slots) v node value_is

  pub origin_stands : slice_get (origins_of g.nodes.slots) v ≡ Some node.origin
  origin_stands = map_at (λ (n : GraphNode N). n.origin) (values g.nodes.slots) v node value_is

  pub ports_given : HasPorts node.compute (length (given_to v (wires_of g.pipes.slots)).inputs) (length (given_to v (wires_of g.pipes.slots)).outputs)
  ports_given =
      let ins = length_map (λ (w : Wire). w.send_state) (wires_in v (wires_of g.pipes.slots)) in
      let outs = length_map (λ (w : Wire). w.receive_state) (wires_out v (wires_of g.pipes.slots)) in
      let P : ℕ → ℕ → Type 0 = λ i o. HasPorts node.compute i o in
      subst (λ o. P (length (given_to v (wires_of g.pipes.slots)).inputs) o) (sym outs) (subst (λ i. P i (length (wires_out v (wires_of g.pipes.slots)))) (sym ins) (can.ports v node stands))

  module _ (after : N) (a : Sides) (g' : Graph N) (next : g'.nodes.slots ≡ slice_set g.nodes.slots v (Some (record node { compute = after }))) (same : JoinAlike g.pipes.slots g'.pipes.slots)
      (wires : wires_of g'.pipes.slots ≡ written v a (wires_of g.pipes.slots)) where
    values_next : values g'.nodes.slots ≡ slice_set (values g.nodes.slots) v (record node { compute = after })
    values_next = ap values next ∙ values_set g.nodes.slots v (record node { compute = after }) can.linked.nodes_there

    nodes_next : nodes_of g'.nodes.slots ≡ slice_set (nodes_of g.nodes.slots) v after
    nodes_next = ap (map (λ (n : GraphNode N). n.compute)) values_next ∙ map_set (λ (n : GraphNode N). n.compute) (values g.nodes.slots) v (record node { compute = after })

    pub stands_next : standing_of g' ≡ updated v after a (standing_of g)
    stands_next = λ i. record { nodes = nodes_next i; wires = wires i }

    pub origins_next : origins_of g'.nodes.slots ≡ origins_of g.nodes.slots
    origins_next =
        ap (map (λ (n : GraphNode N). n.origin)) values_next ∙ map_set (λ (n : GraphNode N). n.origin) (values g.nodes.slots) v (record node { compute = after })
        ∙ set_same (origins_of g.nodes.slots) v node.origin origin_stands

    -- a node that stands afterwards has the keys of one before
    was : (n : ℕ) (x : GraphNode N) → value_at g'.nodes.slots n ≡ Some x → (y : GraphNode N) × (value_at g.nodes.slots n ≡ Some y) × (x.inputs ≡ y.inputs) × (x.outputs ≡ y.outputs) × ((x.compute ≡ y.compute) ⊎ ((n ≡ v) × (x.compute ≡ after)))
    was n x e = elim (cases_eq n v) [
      | inl is ↦
          let here : value_at g'.nodes.slots v ≡ Some (record node { compute = after }) = ap (λ l. value_at l v) next ∙ value_set g.nodes.slots v node (record node { compute = after }) stands in
          let x_is : record node { compute = after } ≡ x = (let both : Some (record node { compute = after }) ≡ Some x = sym here ∙ ap (value_at g'.nodes.slots) (sym is) ∙ e in cc) in
          (node, ap (value_at g.nodes.slots) is ∙ stands, sym (ap (λ (z : GraphNode N). z.inputs) x_is), sym (ap (λ (z : GraphNode N). z.outputs) x_is), inr (is, sym (ap (λ (z : GraphNode N). z.compute) x_is)))
      | inr other ↦ (x, sym (ap (λ l. value_at l n) next ∙ value_other g.nodes.slots v n (Some (record node { compute = after })) other) ∙ e, refl, refl, inl refl)
    ]

    wired_next : IsWired (length (nodes_of g'.nodes.slots)) (wires_of g'.pipes.slots)
    wired_next =
        let long : length (nodes_of g.nodes.slots) ≡ length (nodes_of g'.nodes.slots) = sym (ap length nodes_next ∙ length_set (nodes_of g.nodes.slots) v after) in
        let P : ℕ → List Wire → Type 0 = λ k ws. IsWired k ws in
        subst (λ ws. P (length (nodes_of g'.nodes.slots)) ws) (sym wires) (subst (λ k. P k (written v a (wires_of g.pipes.slots))) long (wired_written (length (nodes_of g.nodes.slots)) (wires_of g.pipes.slots) v a can.wired))

    ins_long : (n : ℕ) → length (wires_in n (wires_of g'.pipes.slots)) ≡ length (wires_in n (wires_of g.pipes.slots))
    ins_long n = ap (λ ws. length (wires_in n ws)) wires ∙ ap length (wires_in-map (answered v a) (answered-joins v a) n (wires_of g.pipes.slots)) ∙ length_map (answered v a) (wires_in n (wires_of g.pipes.slots))

    outs_long : (n : ℕ) → length (wires_out n (wires_of g'.pipes.slots)) ≡ length (wires_out n (wires_of g.pipes.slots))
    outs_long n = ap (λ ws. length (wires_out n ws)) wires ∙ ap length (wires_out-map (answered v a) (answered-joins v a) n (wires_of g.pipes.slots)) ∙ length_map (answered v a) (wires_out n (wires_of g.pipes.slots))

    pub can_next : ((i o : ℕ) → HasPorts node.compute i o → HasPorts after i o) → CanRun HasPorts g'
    can_next stay =
        record {
          linked =
              linked_alike g g' can.linked (subst (λ l. IsTrue (are_there l)) (sym next) (there_set g.nodes.slots v (record node { compute = after }) can.linked.nodes_there))
              (ap length next ∙ length_set g.nodes.slots v (Some (record node { compute = after }))) same (λ n x e. let y = was n x e in (y.0, y.1, y.2, y.3));
          wired = wired_next;
          ports = λ n x e.
              let y = was n x e in
              let old = can.ports n y.0 y.1 in
              let P : N → ℕ → ℕ → Type 0 = λ c i o. HasPorts c i o in
              let i = length (wires_in n (wires_of g.pipes.slots)) in
              let o = length (wires_out n (wires_of g.pipes.slots)) in
              let now : HasPorts x.compute i o = elim y.4 [
                | inl same_node ↦ subst (λ c. P c i o) (sym same_node) old
                | inr (is, x_is) ↦
                    let y_is : y.0 ≡ node = (let both : Some y.0 ≡ Some node = sym y.1 ∙ ap (value_at g.nodes.slots) is ∙ stands in cc) in
                    subst (λ c. P c i o) (sym x_is) (stay i o (subst (λ (z : GraphNode N). P z.compute i o) y_is old))
              ] in
              subst (λ k. P x.compute (length (wires_in n (wires_of g'.pipes.slots))) k) (sym (outs_long n)) (subst (λ k. P x.compute k o) (sym (ins_long n)) now);
        }
