-- The key that a node has of the pipe into one of its inputs.
use Rattle.std.proofs.Common.{◌≡◌, ℕ, zero, suc, ◌+◌, ◌<◌, Bool, true, false, cond, List, [], ◌∷◌, length, Option, Some, None, refl, sym, ap, subst, ◌∙◌, arith}
use Rattle.std.specs.Prelude.{◌&&◌, ◌||◌, Contains, IfNone, IfSome, IsTrue, map, nat_eq, slice_get}
use Rattle.std.specs.List.{filter as kept}
use Rattle.std.proofs.lemmas.Option.{slice_get_within}
use Rattle.keyed_slots.specs.Slots.{value_at}
use Rattle.ps_frame.specs.Zip.{below}
use Rattle.ps_flow.proofs.Stepping.{is_there, places_map}
use Rattle.ps_graph.proofs.Places.{length_places, place_is}
use Rattle.ps_graph.specs.declared.graph.Graph.{Graph}
use Rattle.ps_graph.specs.declared.graph.GraphNode.{GraphNode}
use Rattle.ps_graph.specs.declared.key.LogicalPipeKey.{LogicalPipeKey}
use Rattle.ps_graph.specs.Shown.{IsLinked, inputs_into, is_to, numbers, places_from, values, wire_of, wires_of}
use Rattle.ps_ports.specs.Phases.{is_one_of}
use Rattle.ps_ports.specs.Wires.{Wire}
use Rattle.ps_settle.proofs.Ends.{is_number, same_number}
use Rattle.ps_settle.proofs.Members.{at_map, contains_at, in_kept, item_at, kept-map, length_map, map_at, map_twice, number_at, place_of}
use Rattle.ps_world.specs.Pipes.{is_input}
use Rattle.ps_world.specs.World.{Pipe}
use Rattle.world_pipes.specs.Shown.{AreKeysOf, IsAt}

differ : (a b : ℕ) → ¬ (a ≡ b) → nat_eq a b ≡ false
differ a b other = by_test (nat_eq a b) refl
  where
    by_test : (c : Bool) → nat_eq a b ≡ c → c ≡ false
    by_test false e = refl
    by_test true e = absurd (other (is_number a b e))

-- Of a list's items that pass a test, numbered from j on, those with one number stand at one place.
module _ {A : Type 0} (t : A → Bool) (f : A → ℕ) where
  abbrev Numbered : ℕ → List A → Type 0
  Numbered j xs = (i : ℕ) (x : A) → slice_get (kept t xs) i ≡ Some x → f x ≡ j + i

  abbrev one : ℕ → A → Bool
  one i x = t x && nat_eq (f x) i

  kept_true : (x : A) (xs : List A) → t x ≡ true → kept t (x ∷ xs) ≡ x ∷ kept t xs
  kept_true x xs e = ap (λ b. cond b (x ∷ kept t xs) (kept t xs)) e

  kept_false : (x : A) (xs : List A) → t x ≡ false → kept t (x ∷ xs) ≡ kept t xs
  kept_false x xs e = ap (λ b. cond b (x ∷ kept t xs) (kept t xs)) e

  first_is : (j : ℕ) (x : A) (xs : List A) → t x ≡ true → Numbered j (x ∷ xs) → f x ≡ j
  first_is j x xs e all = let is = all 0 x (ap (λ l. slice_get l 0) (kept_true x xs e)) in omega (arith, is)

  later : (j : ℕ) (x : A) (xs : List A) → t x ≡ true → Numbered j (x ∷ xs) → Numbered (suc j) xs
  later j x xs e all = λ i y at. let is = all (suc i) y (ap (λ l. slice_get l (suc i)) (kept_true x xs e) ∙ at) in omega (arith, is)

  passed : (j : ℕ) (x : A) (xs : List A) → t x ≡ false → Numbered j (x ∷ xs) → Numbered j xs
  passed j x xs e all = λ i y at. all i y (ap (λ l. slice_get l i) (kept_false x xs e) ∙ at)

  -- what comes before the numbers
  none_before : (k j i : ℕ) (xs : List A) → Numbered j xs → i < j → places_from k (one i) xs ≡ []
  none_before k j i [] all h = refl
  none_before k j i (x ∷ xs) all h = by (t x) refl (λ j' all' h'. none_before (k + 1) j' i xs all' h')
    where
      by : (b : Bool) → t x ≡ b → ((j' : ℕ) → Numbered j' xs → i < j' → places_from (k + 1) (one i) xs ≡ []) → places_from k (one i) (x ∷ xs) ≡ []
      by false e rest = ap (λ b. cond (b && nat_eq (f x) i) (k ∷ places_from (k + 1) (one i) xs) (places_from (k + 1) (one i) xs)) e ∙ rest j (passed j x xs e all) h
      by true e rest =
          let is = first_is j x xs e all in
          let other : nat_eq (f x) i ≡ false = differ (f x) i (λ same. absurd (omega (arith, is, same, h))) in
          (λ m. cond (e m && other m) (k ∷ places_from (k + 1) (one i) xs) (places_from (k + 1) (one i) xs)) ∙ rest (suc j) (later j x xs e all) (omega (arith, h))

  only : (k j i q : ℕ) (xs : List A) → Numbered j xs → slice_get (places_from k t xs) i ≡ Some q → places_from k (one (j + i)) xs ≡ q ∷ []
  only k j i q [] all at = absurd (let clash : None ≡ Some q = at in cc)
  only k j i q (x ∷ xs) all at = by (t x) refl i at (λ j' i' all' at'. only (k + 1) j' i' q xs all' at')
    where
      by : (b : Bool) → t x ≡ b → (i : ℕ) → slice_get (places_from k t (x ∷ xs)) i ≡ Some q → ((j' i' : ℕ) → Numbered j' xs → slice_get (places_from (k + 1) t xs) i' ≡ Some q → places_from (k + 1) (one (j' + i')) xs ≡ q ∷ [])
          → places_from k (one (j + i)) (x ∷ xs) ≡ q ∷ []
      by false e i at rest =
          let there : slice_get (places_from (k + 1) t xs) i ≡ Some q = sym (ap (λ b. slice_get (cond b (k ∷ places_from (k + 1) t xs) (places_from (k + 1) t xs)) i) e) ∙ at in
          ap (λ b. cond (b && nat_eq (f x) (j + i)) (k ∷ places_from (k + 1) (one (j + i)) xs) (places_from (k + 1) (one (j + i)) xs)) e ∙ rest j i (passed j x xs e all) there
      by true e zero at rest =
          let there : Some k ≡ Some q = sym (ap (λ b. slice_get (cond b (k ∷ places_from (k + 1) t xs) (places_from (k + 1) t xs)) 0) e) ∙ at in
          let is : k ≡ q = cc in
          let here : nat_eq (f x) (j + 0) ≡ true = same_number (f x) (j + 0) (let first = first_is j x xs e all in omega (arith, first)) in
          (λ m. cond (e m && here m) (k ∷ places_from (k + 1) (one (j + 0)) xs) (places_from (k + 1) (one (j + 0)) xs)) ∙ (λ m. is m ∷ none_before (k + 1) (suc j) (j + 0) xs (later j x xs e all) (omega arith) m)
      by true e (suc i) at rest =
          let there : slice_get (places_from (k + 1) t xs) i ≡ Some q = sym (ap (λ b. slice_get (cond b (k ∷ places_from (k + 1) t xs) (places_from (k + 1) t xs)) (suc i)) e) ∙ at in
          let more : suc j + i ≡ j + suc i = omega arith in
          let other : nat_eq (f x) (j + suc i) ≡ false = differ (f x) (j + suc i) (λ same. let is = first_is j x xs e all in absurd (omega (arith, is, same))) in
          (λ m. cond (e m && other m) (k ∷ places_from (k + 1) (one (j + suc i)) xs) (places_from (k + 1) (one (j + suc i)) xs)) ∙ ap (λ n. places_from (k + 1) (one n) xs) (sym more) ∙ rest (suc j) i (later j x xs e all) there

-- the pipe at a key that is the only one of a test
pub at_key : (test : Pipe → Bool) (key : LogicalPipeKey) (ps : List Pipe) (p : Pipe) → AreKeysOf test (key ∷ []) ps → Contains ps p → IsTrue (test p) → IsAt key ps p
at_key test key ps p keys among passes =
    let k = place_of ps p among in
    let there : IsTrue (is_one_of k.0 (places_from 0 test ps)) = subst (λ m. IsTrue (is_one_of m (places_from 0 test ps))) (omega arith) (place_is 0 test ps k.0 p k.1 passes) in
    let one : IsTrue (is_one_of k.0 (key.0 ∷ [])) = subst (λ l. IsTrue (is_one_of k.0 l)) (sym keys) there in
    let is : k.0 ≡ key.0 = is_number k.0 key.0 (or_false (nat_eq k.0 key.0) one) in
    subst (λ n. slice_get ps n ≡ Some p) is k.1
  where
    or_false : (b : Bool) → IsTrue (b || false) → b ≡ true
    or_false true e = refl
    or_false false e = e

module _ {N : Type 0} (g : Graph N) (linked : IsLinked g) (ps : List Pipe) (wires : wires_of g.pipes.slots ≡ map (λ (p : Pipe). p.wire) ps) where
  -- a node's keys of what leads to it are those of the world's pipes that do
  pub keys_in : (n : ℕ) (x : GraphNode N) → value_at g.nodes.slots n ≡ Some x → numbers x.inputs.items ≡ places_from 0 (λ (p : Pipe). nat_eq p.wire.receiver n) ps
  keys_in n x at =
      linked.inputs n x at ∙ places_map wire_of (λ (p : Wire). nat_eq p.receiver n) 0 (values g.pipes.slots) ∙ ap (places_from 0 (λ (p : Wire). nat_eq p.receiver n)) wires
      ∙ sym (places_map (λ (p : Pipe). p.wire) (λ (p : Wire). nat_eq p.receiver n) 0 ps)

  abbrev into : ℕ → List Pipe
  into n = kept (λ (p : Pipe). nat_eq p.wire.receiver n) ps

  -- they lead to the inputs from 0 on, in this order
  inputs_are : (n : ℕ) → map (λ (p : Pipe). p.wire.input) (into n) ≡ inputs_into n (values g.pipes.slots)
  inputs_are n =
      sym (map_twice (λ (p : Wire). p.input) (λ (p : Pipe). p.wire) (into n)) ∙ ap (map (λ (p : Wire). p.input)) (sym (kept-map (λ (p : Wire). nat_eq p.receiver n) (λ (p : Pipe). p.wire) ps))
      ∙ ap (λ l. map (λ (p : Wire). p.input) (kept (λ (p : Wire). nat_eq p.receiver n) l)) (sym wires) ∙ ap (map (λ (p : Wire). p.input)) (kept-map (λ (p : Wire). nat_eq p.receiver n) wire_of (values g.pipes.slots))
      ∙ map_twice (λ (p : Wire). p.input) wire_of (kept (is_to n) (values g.pipes.slots))

  pub numbered : (n : ℕ) → Numbered (λ (p : Pipe). nat_eq p.wire.receiver n) (λ (p : Pipe). p.wire.input) 0 ps
  numbered n i p at =
      let long : length (inputs_into n (values g.pipes.slots)) ≡ length (into n) = sym (ap length (inputs_are n)) ∙ length_map (λ (p : Pipe). p.wire.input) (into n) in
      let is = number_at (λ (p : Pipe). p.wire.input) (into n) i p (inputs_are n ∙ linked.numbered n ∙ ap below long) at in
      omega (arith, is)

  -- the key at the place of an input
  pub input_is : (n i : ℕ) (x : GraphNode N) (key : LogicalPipeKey) → value_at g.nodes.slots n ≡ Some x → slice_get x.inputs.items i ≡ Some key → AreKeysOf (is_input n i) (key ∷ []) ps
  input_is n i x key at there =
      let place : slice_get (places_from 0 (λ (p : Pipe). nat_eq p.wire.receiver n) ps) i ≡ Some key.0 = sym (ap (λ l. slice_get l i) (keys_in n x at)) ∙ map_at (λ (k : LogicalPipeKey). k.0) x.inputs.items i key there in
      let found = only (λ (p : Pipe). nat_eq p.wire.receiver n) (λ (p : Pipe). p.wire.input) 0 0 i key.0 ps (numbered n) place in
      sym (subst (λ m. places_from 0 (λ (p : Pipe). nat_eq p.wire.receiver n && nat_eq p.wire.input m) ps ≡ key.0 ∷ []) (omega arith) found)

  -- a pipe into an input has a place among the node's keys
  pub input_there : (n i : ℕ) (p : Pipe) → Contains ps p → IsTrue (is_input n i p) → (x : GraphNode N) → value_at g.nodes.slots n ≡ Some x → slice_get x.inputs.items i ≡ None → ⊥
  input_there n i p among leads x at none =
      let into_n = both_true (nat_eq p.wire.receiver n) (nat_eq p.wire.input i) leads in
      let k = place_of (into n) p (in_kept (λ (q : Pipe). nat_eq q.wire.receiver n) p ps among into_n.0) in
      let number = numbered n k.0 p k.1 in
      let input = is_number p.wire.input i into_n.1 in
      let within = slice_get_within (into n) k.0 p k.1 in
      let places = length_places 0 (λ (q : Pipe). nat_eq q.wire.receiver n) ps in
      let keys = ap length (keys_in n x at) in
      let long = length_map (λ (key : LogicalPipeKey). key.0) x.inputs.items in
      let key = item_at x.inputs.items i (omega (arith, number, input, within, places, keys, long)) in
      absurd (let clash : None ≡ Some key.0 = sym none ∙ key.1 in cc)
    where
      both_true : (a b : Bool) → IsTrue (a && b) → (a ≡ true) × (b ≡ true)
      both_true true true e = (refl, refl)
      both_true true false e = absurd (let clash : false ≡ true = e in cc)
      both_true false b e = absurd (let clash : false ≡ true = e in cc)

-- what is looked up among a node's keys
module _ {N : Type 0} (g : Graph N) (n i : ℕ) where
  pub some_key : (x : GraphNode N) → value_at g.nodes.slots n ≡ Some x → (r : Option LogicalPipeKey) → r ≡ slice_get x.inputs.items i
      → IfSome r (λ key. (ps : List Pipe) → IsLinked g → wires_of g.pipes.slots ≡ map (λ (p : Pipe). p.wire) ps → AreKeysOf (is_input n i) (key ∷ []) ps)
  some_key x at None e = tt
  some_key x at (Some key) e = λ ps linked wires. input_is g linked ps wires n i x key at (sym e)

  not_so : (b : Bool) → (b ≡ true → ⊥) → b ≡ false
  not_so true h = absurd (h refl)
  not_so false h = refl

  pub no_key : (x : GraphNode N) → value_at g.nodes.slots n ≡ Some x → (r : Option LogicalPipeKey) → r ≡ slice_get x.inputs.items i
      → IfNone r ((ps : List Pipe) (p : Pipe) → IsLinked g → wires_of g.pipes.slots ≡ map (λ (p : Pipe). p.wire) ps → Contains ps p → is_input n i p ≡ false)
  no_key x at None e = λ ps p linked wires among. not_so (is_input n i p) (λ leads. input_there g linked ps wires n i p among leads x at (sym e))
  no_key x at (Some key) e = tt

  -- no pipe leads to a node that isn't there
  pub no_reader : value_at g.nodes.slots n ≡ None → (ps : List Pipe) (p : Pipe) → IsLinked g → wires_of g.pipes.slots ≡ map (λ (p : Pipe). p.wire) ps → Contains ps p → is_input n i p ≡ false
  no_reader none ps p linked wires among =
      not_so (is_input n i p)
      (λ leads.
      let k = place_of ps p among in
      let wire : slice_get (map wire_of (values g.pipes.slots)) k.0 ≡ Some p.wire = ap (λ l. slice_get l k.0) wires ∙ map_at (λ (q : Pipe). q.wire) ps k.0 p k.1 in
      let q = at_map wire_of (values g.pipes.slots) k.0 p.wire wire in
      let inside = (linked.inside q.0 (contains_at (values g.pipes.slots) k.0 q.0 q.1)).2 in
      let receiver : q.0.receiver.0 ≡ p.wire.receiver = ap (λ (v : Wire). v.receiver) q.2 in
      let is = is_number p.wire.receiver n (first_true (nat_eq p.wire.receiver n) (nat_eq p.wire.input i) leads) in
      is_there g linked ps wires n (omega (arith, inside, receiver, is)) none)
    where
      first_true : (a b : Bool) → (a && b) ≡ true → a ≡ true
      first_true true b e = refl
      first_true false b e = e
