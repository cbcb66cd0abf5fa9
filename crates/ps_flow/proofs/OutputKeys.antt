-- The key that a node has of the one pipe that leaves it.
use Rattle.std.proofs.Common.{◌≡◌, ℕ, suc, ◌+◌, ◌<◌, ◌≤◌, Bool, true, false, cond, List, [], ◌∷◌, length, Option, Some, None, refl, sym, ap, subst, ◌∙◌, arith}
use Rattle.std.specs.Prelude.{◌&&◌, ◌||◌, Contains, IfNone, IfSome, IsTrue, map, nat_eq, slice_get}
use Rattle.keyed_slots.specs.Slots.{value_at}
use Rattle.ps_flow.proofs.InputKeys.{input_is, input_there}
use Rattle.ps_flow.proofs.Stepping.{is_there, keys_out}
use Rattle.ps_flow.specs.Handing.{HasOneOutput}
use Rattle.ps_graph.proofs.Places.{is_place, place_test}
use Rattle.ps_graph.specs.declared.graph.Graph.{Graph}
use Rattle.ps_graph.specs.declared.graph.GraphNode.{GraphNode}
use Rattle.ps_graph.specs.declared.key.LogicalPipeKey.{LogicalPipeKey}
use Rattle.ps_graph.specs.Shown.{IsLinked, numbers, places_from, values, wire_of, wires_of}
use Rattle.ps_ports.specs.Phases.{is_one_of}
use Rattle.ps_ports.specs.Wires.{Wire}
use Rattle.ps_settle.proofs.Ends.{is_number, same_number}
use Rattle.ps_settle.proofs.Members.{at_map, contains_at, map_at, place_of}
use Rattle.ps_world.specs.Pipes.{change_pipes, is_input}
use Rattle.ps_world.specs.World.{Pipe}
use Rattle.world_pipes.specs.Shown.{AreKeysOf}

-- places rise
module _ {A : Type 0} (test : A → Bool) where
  pub lowest : (k j : ℕ) (xs : List A) (js : List ℕ) → places_from k test xs ≡ j ∷ js → k ≤ j
  lowest k j [] js e = absurd (let clash : [] ≡ j ∷ js = e in cc)
  lowest k j (x ∷ xs) js e = by (test x) refl (lowest (k + 1) j xs js)
    where
      by : (b : Bool) → test x ≡ b → (places_from (k + 1) test xs ≡ j ∷ js → k + 1 ≤ j) → k ≤ j
      by true t rest = let is : k ∷ places_from (k + 1) test xs ≡ j ∷ js = sym (ap (λ b. cond b (k ∷ places_from (k + 1) test xs) (places_from (k + 1) test xs)) t) ∙ e in let first : k ≡ j = cc in omega (arith, first)
      by false t rest = let later = rest (sym (ap (λ b. cond b (k ∷ places_from (k + 1) test xs) (places_from (k + 1) test xs)) t) ∙ e) in omega (arith, later)

  rising : (k i j : ℕ) (xs : List A) (js : List ℕ) → places_from k test xs ≡ i ∷ j ∷ js → i < j
  rising k i j [] js e = absurd (let clash : [] ≡ i ∷ j ∷ js = e in cc)
  rising k i j (x ∷ xs) js e = by (test x) refl (rising (k + 1) i j xs js)
    where
      by : (b : Bool) → test x ≡ b → (places_from (k + 1) test xs ≡ i ∷ j ∷ js → i < j) → i < j
      by true t rest =
          let is : k ∷ places_from (k + 1) test xs ≡ i ∷ j ∷ js = sym (ap (λ b. cond b (k ∷ places_from (k + 1) test xs) (places_from (k + 1) test xs)) t) ∙ e in
          let first : k ≡ i = cc in
          let others : places_from (k + 1) test xs ≡ j ∷ js = cc in
          let low = lowest (k + 1) j xs js others in
          omega (arith, first, low)
      by false t rest = rest (sym (ap (λ b. cond b (k ∷ places_from (k + 1) test xs) (places_from (k + 1) test xs)) t) ∙ e)

-- nothing passes a test, or two tests pass the same
pub none_changed : (test : Pipe → Bool) (f : Pipe → Pipe) (ps : List Pipe) → ((p : Pipe) → Contains ps p → test p ≡ false) → change_pipes test f ps ≡ ps
none_changed test f [] h = refl
none_changed test f (p ∷ ps) h = λ i. cond (h p (contains_at (p ∷ ps) 0 p refl) i) (f p) p ∷ none_changed test f ps (λ q c. h q (let at = place_of ps q c in contains_at (p ∷ ps) (suc at.0) q at.1)) i

pub tests_alike : (test test' : Pipe → Bool) (f : Pipe → Pipe) (ps : List Pipe) → ((p : Pipe) → Contains ps p → test p ≡ test' p) → change_pipes test f ps ≡ change_pipes test' f ps
tests_alike test test' f [] h = refl
tests_alike test test' f (p ∷ ps) h = λ i. cond (h p (contains_at (p ∷ ps) 0 p refl) i) (f p) p ∷ tests_alike test test' f ps (λ q c. h q (let at = place_of ps q c in contains_at (p ∷ ps) (suc at.0) q at.1)) i

module _ {N : Type 0} (g : Graph N) (linked : IsLinked g) (ps : List Pipe) (wires : wires_of g.pipes.slots ≡ map (λ (p : Pipe). p.wire) ps) where
  -- a pipe of the world stands at the place that its reader names
  pub reader_names : (k : ℕ) (p : Pipe) → slice_get ps k ≡ Some p → (key : ℕ) × (key ∷ [] ≡ places_from 0 (is_input p.wire.receiver p.wire.input) ps)
  reader_names k p at =
      let wire : slice_get (map wire_of (values g.pipes.slots)) k ≡ Some p.wire = ap (λ l. slice_get l k) wires ∙ map_at (λ (q : Pipe). q.wire) ps k p at in
      let q = at_map wire_of (values g.pipes.slots) k p.wire wire in
      let inside = (linked.inside q.0 (contains_at (values g.pipes.slots) k q.0 q.1)).2 in
      let receiver : q.0.receiver.0 ≡ p.wire.receiver = ap (λ (v : Wire). v.receiver) q.2 in
      by (value_at g.nodes.slots p.wire.receiver) refl (omega (arith, inside, receiver))
    where
      by_key : (x : GraphNode N) → value_at g.nodes.slots p.wire.receiver ≡ Some x → (o : Option LogicalPipeKey) → slice_get x.inputs.items p.wire.input ≡ o → (key : ℕ) × (key ∷ [] ≡ places_from 0 (is_input p.wire.receiver p.wire.input) ps)
      by_key x here (Some key) there = (key.0, input_is g linked ps wires p.wire.receiver p.wire.input x key here there)
      by_key x here None there =
          absurd (input_there g linked ps wires p.wire.receiver p.wire.input p (contains_at ps k p at) (λ i. same_number p.wire.receiver p.wire.receiver refl i && same_number p.wire.input p.wire.input refl i) x here there)

      by : (o : Option (GraphNode N)) → value_at g.nodes.slots p.wire.receiver ≡ o → p.wire.receiver < length g.nodes.slots → (key : ℕ) × (key ∷ [] ≡ places_from 0 (is_input p.wire.receiver p.wire.input) ps)
      by None none within = absurd (is_there g linked ps wires p.wire.receiver within none)
      by (Some x) here within = by_key x here (slice_get x.inputs.items p.wire.input) refl

  -- so no two are one and the same
  pub one_place : (j k : ℕ) (p : Pipe) → slice_get ps j ≡ Some p → slice_get ps k ≡ Some p → j ≡ k
  one_place j k p at_j at_k =
      let named = reader_names j p at_j in
      let test : Pipe → Bool = is_input p.wire.receiver p.wire.input in
      let passes : IsTrue (is_input p.wire.receiver p.wire.input p) = (λ i. same_number p.wire.receiver p.wire.receiver refl i && same_number p.wire.input p.wire.input refl i) in
      let is_j : j ≡ named.0 = key_is j named.0 (ap (is_one_of j) named.1 ∙ place_test (is_input p.wire.receiver p.wire.input) ps j p at_j ∙ passes) in
      let is_k : k ≡ named.0 = key_is k named.0 (ap (is_one_of k) named.1 ∙ place_test (is_input p.wire.receiver p.wire.input) ps k p at_k ∙ passes) in
      is_j ∙ sym is_k
    where
      or_false : (b : Bool) → (b || false) ≡ true → b ≡ true
      or_false true e = refl
      or_false false e = e

      key_is : (i key : ℕ) → is_one_of i (key ∷ []) ≡ true → i ≡ key
      key_is i key e = is_number i key (or_false (nat_eq i key) e)

  module _ (n : ℕ) (one : HasOneOutput n ps) where
    abbrev from : Pipe → Bool
    from p = nat_eq p.wire.sender n

    pub place_from : (k : ℕ) → IsTrue (is_one_of k (places_from 0 from ps)) → (p : Pipe) × (slice_get ps k ≡ Some p) × (p.wire.sender ≡ n)
    place_from k among = let found = is_place 0 from ps k among in (found.1, subst (λ j. slice_get ps j ≡ Some found.1) (let is = found.4 in omega (arith, is)) found.2, is_number found.1.wire.sender n found.3)

    only_first : (key : ℕ) (others : List ℕ) → places_from 0 from ps ≡ key ∷ others → key ∷ [] ≡ places_from 0 from ps
    only_first key [] e = sym e
    only_first key (j ∷ others) e =
        let p = place_from key (ap (is_one_of key) e ∙ (λ i. same_number key key refl i || is_one_of key (j ∷ others))) in
        let q = place_from j (ap (is_one_of j) e ∙ or_first (nat_eq j key) (is_one_of j others)) in
        let same : p.0 ≡ q.0 = one p.0 q.0 (contains_at ps key p.0 p.1) (contains_at ps j q.0 q.1) p.2 q.2 in
        let is : key ≡ j = one_place key j p.0 p.1 (q.1 ∙ ap Some (sym same)) in
        let less = rising from 0 key j ps others e in
        absurd (omega (arith, is, less))
      where
        or_first : (b : Bool) (c : Bool) → (b || (nat_eq j j || c)) ≡ true
        or_first true c = refl
        or_first false c = λ i. same_number j j refl i || c

    pub output_is : (x : GraphNode N) (key : LogicalPipeKey) → value_at g.nodes.slots n ≡ Some x → slice_get x.outputs.items 0 ≡ Some key → AreKeysOf (λ p. nat_eq p.wire.sender n) (key ∷ []) ps
    output_is x key at first = by x.outputs.items first (keys_out g linked ps wires n x at)
      where
        by : (keys : List LogicalPipeKey) → slice_get keys 0 ≡ Some key → numbers keys ≡ places_from 0 from ps → key.0 ∷ [] ≡ places_from 0 from ps
        by [] e names = absurd (let clash : None ≡ Some key = e in cc)
        by (k ∷ keys) e names = let is : k ≡ key = (let both : Some k ≡ Some key = e in cc) in only_first key.0 (numbers keys) (sym names ∙ ap (λ (z : LogicalPipeKey). z.0 ∷ numbers keys) is)

  -- a node without a key has no pipe that leaves it
  pub none_out : (n : ℕ) (x : GraphNode N) → value_at g.nodes.slots n ≡ Some x → slice_get x.outputs.items 0 ≡ None → (p : Pipe) → Contains ps p → nat_eq p.wire.sender n ≡ false
  none_out n x at none p among = by (nat_eq p.wire.sender n) refl
    where
      empty : (keys : List LogicalPipeKey) → slice_get keys 0 ≡ None → keys ≡ []
      empty [] e = refl
      empty (k ∷ keys) e = absurd (let clash : Some k ≡ None = e in cc)

      by : (b : Bool) → nat_eq p.wire.sender n ≡ b → b ≡ false
      by false e = refl
      by true e =
          let k = place_of ps p among in
          let named : is_one_of k.0 (places_from 0 (λ (q : Pipe). nat_eq q.wire.sender n) ps) ≡ true = place_test (λ (q : Pipe). nat_eq q.wire.sender n) ps k.0 p k.1 ∙ e in
          absurd (let clash : false ≡ true = ap (is_one_of k.0) (sym (ap numbers (empty x.outputs.items none)) ∙ keys_out g linked ps wires n x at) ∙ named in cc)

  pub no_node : (n : ℕ) → value_at g.nodes.slots n ≡ None → (p : Pipe) → Contains ps p → nat_eq p.wire.sender n ≡ false
  no_node n none p among = by (nat_eq p.wire.sender n) refl
    where
      by : (b : Bool) → nat_eq p.wire.sender n ≡ b → b ≡ false
      by false e = refl
      by true e =
          let k = place_of ps p among in
          let wire : slice_get (map wire_of (values g.pipes.slots)) k.0 ≡ Some p.wire = ap (λ l. slice_get l k.0) wires ∙ map_at (λ (q : Pipe). q.wire) ps k.0 p k.1 in
          let q = at_map wire_of (values g.pipes.slots) k.0 p.wire wire in
          let inside = (linked.inside q.0 (contains_at (values g.pipes.slots) k.0 q.0 q.1)).0 in
          let sender : q.0.sender.0 ≡ p.wire.sender = ap (λ (v : Wire). v.sender) q.2 in
          let is = is_number p.wire.sender n e in
          absurd (is_there g linked ps wires n (omega (arith, inside, sender, is)) none)

-- what is looked up among a node's keys
module _ {N : Type 0} (g : Graph N) (n : ℕ) (x : GraphNode N) (at : value_at g.nodes.slots n ≡ Some x) where
  pub some_key : (r : Option LogicalPipeKey) → r ≡ slice_get x.outputs.items 0
      → IfSome r (λ key. (ps : List Pipe) → IsLinked g → wires_of g.pipes.slots ≡ map (λ (p : Pipe). p.wire) ps → HasOneOutput n ps → AreKeysOf (λ p. nat_eq p.wire.sender n) (key ∷ []) ps)
  some_key None e = tt
  some_key (Some key) e = λ ps linked wires one. output_is g linked ps wires n one x key at (sym e)

  pub no_key : (r : Option LogicalPipeKey) → r ≡ slice_get x.outputs.items 0
      → IfNone r ((ps : List Pipe) (p : Pipe) → IsLinked g → wires_of g.pipes.slots ≡ map (λ (p : Pipe). p.wire) ps → Contains ps p → nat_eq p.wire.sender n ≡ false)
  no_key None e = λ ps p linked wires among. none_out g linked ps wires n x at (sym e) p among
  no_key (Some key) e = tt

-- the pipe at the key of what leaves a node is sent by that node
pub sent_by : (n : ℕ) (key : LogicalPipeKey) (ps : List Pipe) (p : Pipe) → AreKeysOf (λ (q : Pipe). nat_eq q.wire.sender n) (key ∷ []) ps → slice_get ps key.0 ≡ Some p → p.wire.sender ≡ n
sent_by n key ps p names at =
    is_number p.wire.sender n (sym (place_test (λ (q : Pipe). nat_eq q.wire.sender n) ps key.0 p at) ∙ ap (is_one_of key.0) (sym names) ∙ (λ i. same_number key.0 key.0 refl i || false))
