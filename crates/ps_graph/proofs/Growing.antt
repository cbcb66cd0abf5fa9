-- A graph with one pipe more, with all pipes of a node, and with the node.
use Rattle.std.proofs.Common.{◌≡◌, ◌≢◌, ℕ, zero, suc, ◌+◌, ◌<◌, ◌≤◌, ◌^◌, ◌⊎◌, Bool, true, false, cond, List, [], ◌∷◌, ◌++◌, length, take, Option, Some, None, get_or, refl, sym, ap, subst, ◌∙◌, inl, inr, arith}
use Rattle.std.specs.Prelude.{Contains, Err, IfSome, Ok, OnOk, Result, IsTrue, map, slice_get, slice_set}
use Rattle.std.specs.List.{filter as kept}
use Rattle.std.proofs.lemmas.Bool.{cases_eq}
use Rattle.keyed_slots.specs.Slots.{value_at}
use Rattle.ps_frame.specs.Zip.{below}
use Rattle.ps_ports.specs.Wires.{Wire}
use Rattle.ps_settle.proofs.Ends.{is_number, other_number, same_number}
use Rattle.ps_settle.proofs.Members.{contains_cases, contains_first, contains_later, item_at, length_map, map_at, none_in_nil}
use Rattle.ps_settle.proofs.Passes.{length_set}
use Rattle.ps_graph.specs.declared.graph.Graph.{Graph}
use Rattle.ps_graph.specs.declared.graph.GraphNode.{GraphNode}
use Rattle.ps_graph.specs.declared.graph.LogicalPipe.{LogicalPipe}
use Rattle.ps_graph.specs.declared.key.GraphNodeKey.{GraphNodeKey}
use Rattle.ps_graph.specs.declared.key.LogicalPipeKey.{LogicalPipeKey}
use Rattle.ps_graph.specs.Adding.{WithOutput, WithPipes, fresh_pipe, fresh_wire, fresh_wires}
use Rattle.ps_graph.specs.Shown.{IsLinked, IsLinkedUpTo, are_there, inputs_into, is_from, is_to, nodes_of, numbers, places_from, values, wire_of, wires_of}
use Rattle.ps_graph.specs.Turning.{origins_of}
use Rattle.ps_graph.proofs.Places.{length_places, length_there, value_there}
use Rattle.ps_graph.proofs.Telling.{value_other, value_set}
use Rattle.ps_graph.proofs.Turning.{map_set, set_same, there_set, values_set}

pub map-append : {A B : Type 0} (f : A → B) (xs ys : List A) → map f (xs ++ ys) ≡ map f xs ++ map f ys
map-append f [] ys = refl
map-append f (x ∷ xs) ys = ap (λ l. f x ∷ l) (map-append f xs ys)

pub length-more : {A : Type 0} (xs : List A) (x : A) → length (xs ++ x ∷ []) ≡ length xs + 1
length-more [] x = refl
length-more (y ∷ ys) x = let rest = length-more ys x in omega (arith, rest)

values-more : {A : Type 0} (slots : List (Option A)) (x : A) → values (slots ++ Some x ∷ []) ≡ values slots ++ x ∷ []
values-more [] x = refl
values-more (None ∷ ys) x = values-more ys x
values-more (Some y ∷ ys) x = ap (λ l. y ∷ l) (values-more ys x)

there-more : {A : Type 0} (slots : List (Option A)) (x : A) → IsTrue (are_there slots) → IsTrue (are_there (slots ++ Some x ∷ []))
there-more [] x e = refl
there-more (None ∷ ys) x e = absurd (let clash : false ≡ true = e in cc)
there-more (Some y ∷ ys) x e = there-more ys x e

pub places-more : {A : Type 0} (k : ℕ) (test : A → Bool) (xs : List A) (x : A) → places_from k test (xs ++ x ∷ []) ≡ places_from k test xs ++ cond (test x) ((k + length xs) ∷ []) []
places-more k test [] x = by (test x)
  where
    by : (b : Bool) → cond b (k ∷ []) [] ≡ cond b ((k + 0) ∷ []) []
    by true = let e : k ≡ k + 0 = omega arith in ap (λ n. n ∷ []) e
    by false = refl
places-more k test (y ∷ ys) x = by (test y) (places-more (k + 1) test ys x)
  where
    shift : (b : Bool) → cond b ((k + 1 + length ys) ∷ []) [] ≡ cond b ((k + suc (length ys)) ∷ []) []
    shift b = let e : k + 1 + length ys ≡ k + suc (length ys) = omega arith in ap (λ n. cond b (n ∷ []) []) e

    by : (b : Bool) → places_from (k + 1) test (ys ++ x ∷ []) ≡ places_from (k + 1) test ys ++ cond (test x) ((k + 1 + length ys) ∷ []) []
        → cond b (k ∷ places_from (k + 1) test (ys ++ x ∷ [])) (places_from (k + 1) test (ys ++ x ∷ [])) ≡ cond b (k ∷ places_from (k + 1) test ys) (places_from (k + 1) test ys) ++ cond (test x) ((k + suc (length ys)) ∷ []) []
    by true rest = ap (λ l. k ∷ l) (rest ∙ ap (λ l. places_from (k + 1) test ys ++ l) (shift (test x)))
    by false rest = rest ∙ ap (λ l. places_from (k + 1) test ys ++ l) (shift (test x))

inputs-more : (n : ℕ) (pipes : List LogicalPipe) (p : LogicalPipe) → inputs_into n (pipes ++ p ∷ []) ≡ inputs_into n pipes ++ cond (is_to n p) (p.recv_port ∷ []) []
inputs-more n [] p = by (is_to n p)
  where
    by : (b : Bool) → map (λ (q : LogicalPipe). q.recv_port) (cond b (p ∷ []) []) ≡ cond b (p.recv_port ∷ []) []
    by true = refl
    by false = refl
inputs-more n (q ∷ qs) p = by (is_to n q) (inputs-more n qs p)
  where
    by : (b : Bool) → inputs_into n (qs ++ p ∷ []) ≡ inputs_into n qs ++ cond (is_to n p) (p.recv_port ∷ []) []
        → map (λ (r : LogicalPipe). r.recv_port) (cond b (q ∷ kept (is_to n) (qs ++ p ∷ [])) (kept (is_to n) (qs ++ p ∷ [])))
        ≡ map (λ (r : LogicalPipe). r.recv_port) (cond b (q ∷ kept (is_to n) qs) (kept (is_to n) qs)) ++ cond (is_to n p) (p.recv_port ∷ []) []
    by true rest = ap (λ l. q.recv_port ∷ l) rest
    by false rest = rest

pub append_nil : {A : Type 0} (xs : List A) → xs ++ [] ≡ xs
append_nil [] = refl
append_nil (x ∷ xs) = ap (λ l. x ∷ l) (append_nil xs)

no_places : {A : Type 0} (k : ℕ) (test : A → Bool) (xs : List A) → ((x : A) → Contains xs x → test x ≡ false) → places_from k test xs ≡ []
no_places k test [] h = refl
no_places k test (x ∷ xs) h = let first : test x ≡ false = h x (contains_first x x xs refl) in rw first (no_places (k + 1) test xs (λ y c. h y (contains_later x y xs c)))

-- the inputs are numbered with one pipe more, which leads to the next input if it leads to the node
numbered_more : (n : ℕ) (pipes : List LogicalPipe) (p : LogicalPipe) → inputs_into n pipes ≡ below (length (inputs_into n pipes)) → (is_to n p ≡ true → p.recv_port ≡ length (inputs_into n pipes))
    → inputs_into n (pipes ++ p ∷ []) ≡ below (length (inputs_into n (pipes ++ p ∷ [])))
numbered_more n pipes p so_far next = by (is_to n p) refl
  where
    by : (b : Bool) → is_to n p ≡ b → inputs_into n (pipes ++ p ∷ []) ≡ below (length (inputs_into n (pipes ++ p ∷ [])))
    by true to =
        let is : inputs_into n (pipes ++ p ∷ []) ≡ inputs_into n pipes ++ p.recv_port ∷ [] = inputs-more n pipes p ∙ ap (λ b. inputs_into n pipes ++ cond b (p.recv_port ∷ []) []) to in
        let count = length-more (inputs_into n pipes) p.recv_port in
        let long : suc (length (inputs_into n pipes)) ≡ length (inputs_into n (pipes ++ p ∷ [])) = omega (arith, count, ap length is) in
        let place = next to in
        let all : inputs_into n pipes ++ p.recv_port ∷ [] ≡ below (suc (length (inputs_into n pipes))) = (λ i. so_far i ++ place i ∷ []) in
        is ∙ all ∙ ap below long
    by false other =
        let is : inputs_into n (pipes ++ p ∷ []) ≡ inputs_into n pipes = inputs-more n pipes p ∙ ap (λ b. inputs_into n pipes ++ cond b (p.recv_port ∷ []) []) other ∙ append_nil (inputs_into n pipes) in
        is ∙ so_far ∙ ap (λ l. below (length l)) (sym is)

contains_more : {A : Type 0} (xs : List A) (x y : A) → Contains (xs ++ x ∷ []) y → Contains xs y ⊎ (x ≡ y)
contains_more [] x y c = elim (contains_cases x y [] c) [ inl e ↦ inr e | inr d ↦ absurd (none_in_nil y d) ]
contains_more (z ∷ zs) x y c = by (contains_more zs x y) (contains_cases z y (zs ++ x ∷ []) c)
  where
    by : (Contains (zs ++ x ∷ []) y → Contains zs y ⊎ (x ≡ y)) → (z ≡ y) ⊎ Contains (zs ++ x ∷ []) y → Contains (z ∷ zs) y ⊎ (x ≡ y)
    by rest (inl e) = inl (contains_first z y zs e)
    by rest (inr d) = elim (rest d) [ inl c ↦ inl (contains_later z y zs c) | inr e ↦ inr e ]

value_within : {A : Type 0} (xs : List (Option A)) (k : ℕ) (x : A) → value_at xs k ≡ Some x → k < length xs
value_within [] k x e = absurd (let clash : None ≡ Some x = e in cc)
value_within (y ∷ ys) zero x e = omega arith
value_within (y ∷ ys) (suc k) x e = let h = value_within ys k x e in omega (arith, h)

value_more : {A : Type 0} (xs : List (Option A)) (y x : A) (k : ℕ) → value_at (xs ++ Some y ∷ []) k ≡ Some x → (value_at xs k ≡ Some x) ⊎ ((k ≡ length xs) × (y ≡ x))
value_more [] y x zero e = inr (refl, (let both : Some y ≡ Some x = e in cc))
value_more [] y x (suc k) e = absurd (let clash : None ≡ Some x = e in cc)
value_more (z ∷ zs) y x zero e = inl e
value_more (z ∷ zs) y x (suc k) e = elim (value_more zs y x k e) [ inl there ↦ inl there | inr (is, same) ↦ inr (ap suc is, same) ]

fresh-more : (r k : ℕ) (xs : List (GraphNodeKey × ℕ)) (x : GraphNodeKey × ℕ) → fresh_wires r k (xs ++ x ∷ []) ≡ fresh_wires r k xs ++ fresh_wire r (k + length xs) x ∷ []
fresh-more r k [] x = let e : k ≡ k + 0 = omega arith in ap (λ n. fresh_wire r n x ∷ []) e
fresh-more r k (y ∷ ys) x = let e : k + 1 + length ys ≡ k + suc (length ys) = omega arith in ap (λ l. fresh_wire r k y ∷ l) (fresh-more r (k + 1) ys x ∙ ap (λ n. fresh_wires r (k + 1) ys ++ fresh_wire r n x ∷ []) e)

append_one : {A : Type 0} (xs ys : List A) (z : A) → (xs ++ ys) ++ z ∷ [] ≡ xs ++ (ys ++ z ∷ [])
append_one [] ys z = refl
append_one (x ∷ xs) ys z = ap (λ l. x ∷ l) (append_one xs ys z)

-- a bound that is higher
raised : {N : Type 0} (b c : ℕ) (g : Graph N) → b ≤ c → IsLinkedUpTo b g → IsLinkedUpTo c g
raised b c g h l =
    record {
      nodes_there = l.nodes_there;
      pipes_there = l.pipes_there;
      few_nodes = l.few_nodes;
      few_pipes = l.few_pipes;
      inputs = l.inputs;
      outputs = l.outputs;
      inside = λ p d. let i = l.inside p d in let up = i.2 in (i.0, i.1, omega (arith, up, h));
      numbered = l.numbered;
    }

module _ {N : Type 0} (g g' : Graph N) (linked : IsLinkedUpTo (length g.nodes.slots + 1) g) (s r : GraphNodeKey) (port input : ℕ) (key : LogicalPipeKey) (node : GraphNode N) (lower : s.0 < length g.nodes.slots)
    (next_node : r.0 ≡ length g.nodes.slots) (few : length g'.pipes.slots < 2 ^ 32) (key_is : key.0 ≡ length g.pipes.slots) (pipes : g'.pipes.slots ≡ g.pipes.slots ++ Some (fresh_pipe s r port input) ∷ [])
    (stood : value_at g.nodes.slots s.0 ≡ Some node) (named : WithOutput node s.0 key g.nodes.slots g'.nodes.slots) (place : input ≡ length (inputs_into r.0 (values g.pipes.slots))) where
  values_now : values g'.pipes.slots ≡ values g.pipes.slots ++ fresh_pipe s r port input ∷ []
  values_now = ap values pipes ∙ values-more g.pipes.slots (fresh_pipe s r port input)

  places_now : (test : LogicalPipe → Bool) → places_from 0 test (values g'.pipes.slots) ≡ places_from 0 test (values g.pipes.slots) ++ cond (test (fresh_pipe s r port input)) ((0 + length (values g.pipes.slots)) ∷ []) []
  places_now test = ap (places_from 0 test) values_now ∙ places-more 0 test (values g.pipes.slots) (fresh_pipe s r port input)

  same_places : (test : LogicalPipe → Bool) → test (fresh_pipe s r port input) ≡ false → places_from 0 test (values g.pipes.slots) ≡ places_from 0 test (values g'.pipes.slots)
  same_places test e = sym (places_now test ∙ ap (λ b. places_from 0 test (values g.pipes.slots) ++ cond b ((0 + length (values g.pipes.slots)) ∷ []) []) e ∙ append_nil (places_from 0 test (values g.pipes.slots)))

  one_place : (test : LogicalPipe → Bool) → test (fresh_pipe s r port input) ≡ true → places_from 0 test (values g.pipes.slots) ++ key.0 ∷ [] ≡ places_from 0 test (values g'.pipes.slots)
  one_place test e =
      let count = length_there g.pipes.slots linked.pipes_there in
      let number : key.0 ≡ 0 + length (values g.pipes.slots) = omega (arith, key_is, count) in
      sym (places_now test ∙ ap (λ b. places_from 0 test (values g.pipes.slots) ++ cond b ((0 + length (values g.pipes.slots)) ∷ []) []) e ∙ ap (λ n. places_from 0 test (values g.pipes.slots) ++ n ∷ []) (sym number))

  count_now : length g'.nodes.slots ≡ length g.nodes.slots
  count_now = ap length named.next ∙ length_set g.nodes.slots s.0 (Some named.after)

  value_is : slice_get (values g.nodes.slots) s.0 ≡ Some node
  value_is = sym (value_there g.nodes.slots linked.nodes_there s.0) ∙ stood

  nodes_values : values g'.nodes.slots ≡ slice_set (values g.nodes.slots) s.0 named.after
  nodes_values = ap values named.next ∙ values_set g.nodes.slots s.0 named.after linked.nodes_there

  pub nodes_same : nodes_of g'.nodes.slots ≡ nodes_of g.nodes.slots
  nodes_same =
      ap (map (λ (n : GraphNode N). n.compute)) nodes_values ∙ map_set (λ (n : GraphNode N). n.compute) (values g.nodes.slots) s.0 named.after
      ∙ set_same (nodes_of g.nodes.slots) s.0 named.after.compute (map_at (λ (n : GraphNode N). n.compute) (values g.nodes.slots) s.0 node value_is ∙ ap Some (sym named.compute))

  pub origins_same : origins_of g'.nodes.slots ≡ origins_of g.nodes.slots
  origins_same =
      ap (map (λ (n : GraphNode N). n.origin)) nodes_values ∙ map_set (λ (n : GraphNode N). n.origin) (values g.nodes.slots) s.0 named.after
      ∙ set_same (origins_of g.nodes.slots) s.0 named.after.origin (map_at (λ (n : GraphNode N). n.origin) (values g.nodes.slots) s.0 node value_is ∙ ap Some (sym named.origin))

  pub count_same : length g'.nodes.slots ≡ length g.nodes.slots
  count_same = count_now

  -- a node that stands now is the sender with its output, or stood
  now_is : (n : ℕ) (x : GraphNode N) → value_at g'.nodes.slots n ≡ Some x → ((n ≡ s.0) × (named.after ≡ x)) ⊎ ((n ≢ s.0) × (value_at g.nodes.slots n ≡ Some x))
  now_is n x e = elim (cases_eq n s.0) [
    | inl is ↦ inl (is, (let both : Some named.after ≡ Some x = sym (ap (λ l. value_at l s.0) named.next ∙ value_set g.nodes.slots s.0 node named.after stood) ∙ ap (value_at g'.nodes.slots) (sym is) ∙ e in cc))
    | inr other ↦ inr (other, sym (ap (λ l. value_at l n) named.next ∙ value_other g.nodes.slots s.0 n (Some named.after) other) ∙ e)
  ]

  not_to : (n : ℕ) → n < length g.nodes.slots → is_to n (fresh_pipe s r port input) ≡ false
  not_to n h = other_number r.0 n (λ e. absurd (omega (arith, e, next_node, h)))

  pub linked_more : IsLinkedUpTo (length g'.nodes.slots + 1) g'
  linked_more =
      record {
        nodes_there = subst (λ l. IsTrue (are_there l)) (sym named.next) (there_set g.nodes.slots s.0 named.after linked.nodes_there);
        pipes_there = subst (λ l. IsTrue (are_there l)) (sym pipes) (there-more g.pipes.slots (fresh_pipe s r port input) linked.pipes_there);
        few_nodes = subst (λ k. k < 2 ^ 32) (sym count_now) linked.few_nodes;
        few_pipes = few;
        inputs = λ n x e. elim (now_is n x e) [
          | inl (is, same) ↦
              ap (λ (z : GraphNode N). numbers z.inputs.items) (sym same) ∙ ap (λ z. numbers z.items) named.inputs ∙ linked.inputs s.0 node stood
              ∙ ap (λ k. places_from 0 (is_to k) (values g.pipes.slots)) (sym is) ∙ same_places (is_to n) (not_to n (omega (arith, is, lower)))
          | inr (other, there) ↦ linked.inputs n x there ∙ same_places (is_to n) (not_to n (value_within g.nodes.slots n x there))
        ];
        outputs = λ n x e. elim (now_is n x e) [
          | inl (is, same) ↦
              ap (λ (z : GraphNode N). numbers z.outputs.items) (sym same) ∙ ap numbers named.outputs ∙ map-append (λ (k : LogicalPipeKey). k.0) node.outputs.items (key ∷ [])
              ∙ ap (λ l. l ++ key.0 ∷ []) (linked.outputs s.0 node stood ∙ ap (λ k. places_from 0 (is_from k) (values g.pipes.slots)) (sym is)) ∙ one_place (is_from n) (same_number s.0 n (sym is))
          | inr (other, there) ↦ linked.outputs n x there ∙ same_places (is_from n) (other_number s.0 n (λ d. other (sym d)))
        ];
        inside = λ p c. elim (contains_more (values g.pipes.slots) (fresh_pipe s r port input) p (subst (λ l. Contains l p) values_now c)) [
          | inl old ↦ let i = linked.inside p old in let a = i.0 in let b = i.2 in (omega (arith, a, count_now), i.1, omega (arith, b, count_now))
          | inr is ↦
              let s_is : s.0 ≡ p.sender.0 = ap (λ (z : LogicalPipe). z.sender.0) is in
              let r_is : r.0 ≡ p.receiver.0 = ap (λ (z : LogicalPipe). z.receiver.0) is in
              (omega (arith, s_is, lower, count_now), omega (arith, s_is, r_is, lower, next_node), omega (arith, r_is, next_node, count_now))
        ];
        numbered = λ n.
            let P : List LogicalPipe → Type 0 = λ l. inputs_into n l ≡ below (length (inputs_into n l)) in
            subst P (sym values_now) (numbered_more n (values g.pipes.slots) (fresh_pipe s r port input) (linked.numbered n) (λ to. place ∙ ap (λ k. length (inputs_into k (values g.pipes.slots))) (is_number r.0 n to)));
      }

module _ {N : Type 0} (g : Graph N) (linked : IsLinked g) where
  -- no pipes yet
  pub no_pipes : (r : ℕ) → WithPipes g g (fresh_wires r 0 []) []
  no_pipes r =
      record {
        linked = raised (length g.nodes.slots) (length g.nodes.slots + 1) g (omega arith) linked;
        nodes = refl;
        origins = refl;
        count = refl;
        wires = sym (append_nil (wires_of g.pipes.slots));
        keys = sym (no_places 0 (is_to (length g.nodes.slots)) (values g.pipes.slots) (λ p c. other_number p.receiver.0 (length g.nodes.slots) (λ e. let i = (linked.inside p c).2 in absurd (omega (arith, i, e)))));
      }

module _ {N : Type 0} (g0 g g' : Graph N) (fresh : List Wire) (keys : List LogicalPipeKey) (added : WithPipes g0 g fresh keys) (node : GraphNode N) (names : node.inputs.items ≡ keys) (none : node.outputs.items ≡ []) (few : length g'.nodes.slots < 2 ^ 32)
    (pipes : g'.pipes.slots ≡ g.pipes.slots) (next : g'.nodes.slots ≡ g.nodes.slots ++ Some node ∷ []) where
  long : length g'.nodes.slots ≡ length g.nodes.slots + 1
  long = ap length next ∙ length-more g.nodes.slots (Some node)

  -- the graph with the node is linked
  pub node_linked : IsLinked g'
  node_linked =
      record {
        nodes_there = subst (λ l. IsTrue (are_there l)) (sym next) (there-more g.nodes.slots node added.linked.nodes_there);
        pipes_there = subst (λ l. IsTrue (are_there l)) (sym pipes) added.linked.pipes_there;
        few_nodes = few;
        few_pipes = subst (λ l. length l < 2 ^ 32) (sym pipes) added.linked.few_pipes;
        inputs = λ n x e. elim (value_more g.nodes.slots node x n (ap (λ l. value_at l n) (sym next) ∙ e)) [
          | inl there ↦ added.linked.inputs n x there ∙ ap (λ l. places_from 0 (is_to n) (values l)) (sym pipes)
          | inr (is, same) ↦
              ap (λ (z : GraphNode N). numbers z.inputs.items) (sym same) ∙ ap numbers names ∙ added.keys ∙ ap (λ k. places_from 0 (is_to k) (values g.pipes.slots)) (sym (is ∙ added.count)) ∙ ap (λ l. places_from 0 (is_to n) (values l)) (sym pipes)
        ];
        outputs = λ n x e. elim (value_more g.nodes.slots node x n (ap (λ l. value_at l n) (sym next) ∙ e)) [
          | inl there ↦ added.linked.outputs n x there ∙ ap (λ l. places_from 0 (is_from n) (values l)) (sym pipes)
          | inr (is, same) ↦
              ap (λ (z : GraphNode N). numbers z.outputs.items) (sym same) ∙ ap numbers none
              ∙ sym (no_places 0 (is_from n) (values g.pipes.slots) (λ p c. other_number p.sender.0 n (λ d. let i = (added.linked.inside p c).0 in absurd (omega (arith, i, d, is))))) ∙ ap (λ l. places_from 0 (is_from n) (values l)) (sym pipes)
        ];
        inside = λ p c. let i = added.linked.inside p (subst (λ l. Contains (values l) p) pipes c) in let a = i.0 in let b = i.2 in (omega (arith, a, long), i.1, omega (arith, b, long));
        numbered = λ n.
            let P : List (Option LogicalPipe) → Type 0 = λ l. inputs_into n (values l) ≡ below (length (inputs_into n (values l))) in
            subst P (sym pipes) (added.linked.numbered n);
      }

  values_next : values g'.nodes.slots ≡ values g.nodes.slots ++ node ∷ []
  values_next = ap values next ∙ values-more g.nodes.slots node

  pub node_nodes : nodes_of g'.nodes.slots ≡ nodes_of g0.nodes.slots ++ node.compute ∷ []
  node_nodes = ap (map (λ (n : GraphNode N). n.compute)) values_next ∙ map-append (λ (n : GraphNode N). n.compute) (values g.nodes.slots) (node ∷ []) ∙ ap (λ l. l ++ node.compute ∷ []) added.nodes

  pub node_origins : origins_of g'.nodes.slots ≡ origins_of g0.nodes.slots ++ node.origin ∷ []
  node_origins = ap (map (λ (n : GraphNode N). n.origin)) values_next ∙ map-append (λ (n : GraphNode N). n.origin) (values g.nodes.slots) (node ∷ []) ∙ ap (λ l. l ++ node.origin ∷ []) added.origins

  pub node_wires : wires_of g'.pipes.slots ≡ wires_of g0.pipes.slots ++ fresh
  node_wires = ap wires_of pipes ∙ added.wires

-- a graph without nodes is linked
pub empty_linked : {N : Type 0} (g : Graph N) → g.nodes.slots ≡ [] → g.pipes.slots ≡ [] → IsLinked g
empty_linked g no_nodes no_pipe =
    record {
      nodes_there = subst (λ l. IsTrue (are_there l)) (sym no_nodes) refl;
      pipes_there = subst (λ l. IsTrue (are_there l)) (sym no_pipe) refl;
      few_nodes = subst (λ l. length l < 2 ^ 32) (sym no_nodes) (omega arith);
      few_pipes = subst (λ l. length l < 2 ^ 32) (sym no_pipe) (omega arith);
      inputs = λ n x e. absurd (let clash : None ≡ Some x = ap (λ l. value_at l n) (sym no_nodes) ∙ e in cc);
      outputs = λ n x e. absurd (let clash : None ≡ Some x = ap (λ l. value_at l n) (sym no_nodes) ∙ e in cc);
      inside = λ p c. absurd (none_in_nil p (subst (λ l. Contains (values l) p) no_pipe c));
      numbered = λ n.
          let P : List (Option LogicalPipe) → Type 0 = λ l. inputs_into n (values l) ≡ below (length (inputs_into n (values l))) in
          subst P (sym no_pipe) refl;
    }

-- a node with a number below the count stands
pub sender_stands : {N : Type 0} (g : Graph N) → IsLinkedUpTo (length g.nodes.slots + 1) g → (n : ℕ) → n < length g.nodes.slots → (node : GraphNode N) × (value_at g.nodes.slots n ≡ Some node)
sender_stands g linked n h =
    let long = length_there g.nodes.slots linked.nodes_there in
    let x = item_at (values g.nodes.slots) n (omega (arith, long, h)) in
    (x.0, value_there g.nodes.slots linked.nodes_there n ∙ x.1)

pub pipes_count : {A : Type 0} (old new : List (Option A)) (x : A) → new ≡ old ++ Some x ∷ [] → length new ≡ length old + 1
pipes_count old new x e = ap length e ∙ length-more old (Some x)

-- one pipe more of those of the next node
pub pipes_next : {N : Type 0} (g0 g g' : Graph N) (s r : GraphNodeKey) (port input : ℕ) (key : LogicalPipeKey) (sources : List (GraphNodeKey × ℕ)) (names : List LogicalPipeKey) → IsLinkedUpTo (length g.nodes.slots + 1) g
    → WithPipes g0 g (fresh_wires r.0 0 sources) names → r.0 ≡ length g0.nodes.slots → input ≡ length sources → key.0 ≡ length g.pipes.slots → g'.pipes.slots ≡ g.pipes.slots ++ Some (fresh_pipe s r port input) ∷ []
    → IsLinkedUpTo (length g'.nodes.slots + 1) g' → nodes_of g'.nodes.slots ≡ nodes_of g.nodes.slots → origins_of g'.nodes.slots ≡ origins_of g.nodes.slots → length g'.nodes.slots ≡ length g.nodes.slots
    → WithPipes g0 g' (fresh_wires r.0 0 (sources ++ (s, port) ∷ [])) (names ++ key ∷ [])
pipes_next g0 g g' s r port input key sources names was so_far r_is input_is key_is pipes linked nodes origins count =
    let p = fresh_pipe s r port input in
    let now : values g'.pipes.slots ≡ values g.pipes.slots ++ p ∷ [] = ap values pipes ∙ values-more g.pipes.slots p in
    let to : is_to (length g0.nodes.slots) p ≡ true = same_number r.0 (length g0.nodes.slots) r_is in
    let long = length_there g.pipes.slots was.pipes_there in
    let number : key.0 ≡ 0 + length (values g.pipes.slots) = omega (arith, key_is, long) in
    let place : input ≡ 0 + length sources = omega (arith, input_is) in
    let test : LogicalPipe → Bool = is_to (length g0.nodes.slots) in
    record {
      linked = linked;
      nodes = nodes ∙ so_far.nodes;
      origins = origins ∙ so_far.origins;
      count = count ∙ so_far.count;
      wires = ap (map wire_of) now ∙ map-append wire_of (values g.pipes.slots) (p ∷ []) ∙ ap (λ l. l ++ fresh_wire r.0 input (s, port) ∷ []) so_far.wires
          ∙ append_one (wires_of g0.pipes.slots) (fresh_wires r.0 0 sources) (fresh_wire r.0 input (s, port))
          ∙ ap (λ l. wires_of g0.pipes.slots ++ l) (ap (λ n. fresh_wires r.0 0 sources ++ fresh_wire r.0 n (s, port) ∷ []) place ∙ sym (fresh-more r.0 0 sources (s, port)));
      keys = map-append (λ (k : LogicalPipeKey). k.0) names (key ∷ []) ∙ ap (λ l. l ++ key.0 ∷ []) so_far.keys ∙ ap (λ n. places_from 0 test (values g.pipes.slots) ++ n ∷ []) number
          ∙ sym (ap (places_from 0 test) now ∙ places-more 0 test (values g.pipes.slots) p ∙ ap (λ b. places_from 0 test (values g.pipes.slots) ++ cond b ((0 + length (values g.pipes.slots)) ∷ []) []) to);
    }

-- the next input is as many as there are keys so far
pub next_input : {N : Type 0} (g0 g : Graph N) (fresh : List Wire) (names : List LogicalPipeKey) (r input : ℕ) → WithPipes g0 g fresh names → r ≡ length g0.nodes.slots → length names ≡ input → input ≡ length (inputs_into r (values g.pipes.slots))
next_input g0 g fresh names r input so_far r_is long =
    sym long ∙ sym (length_map (λ (k : LogicalPipeKey). k.0) names) ∙ ap length so_far.keys ∙ length_places 0 (is_to (length g0.nodes.slots)) (values g.pipes.slots)
    ∙ sym (length_map (λ (p : LogicalPipe). p.recv_port) (kept (is_to (length g0.nodes.slots)) (values g.pipes.slots))) ∙ ap (λ k. length (inputs_into k (values g.pipes.slots))) (sym r_is)

fresh_long : (r k : ℕ) (xs : List (GraphNodeKey × ℕ)) → length (fresh_wires r k xs) ≡ length xs
fresh_long r k [] = refl
fresh_long r k (x ∷ xs) = ap suc (fresh_long r (k + 1) xs)

take_short : {A : Type 0} (i : ℕ) (xs : List A) → length (take i xs) ≤ i
take_short zero xs = omega arith
take_short (suc i) [] = omega arith
take_short (suc i) (x ∷ xs) = let rest = take_short i xs in omega (arith, rest)

append_long : {A : Type 0} (xs ys : List A) → length (xs ++ ys) ≡ length xs + length ys
append_long [] ys = let e : length ys ≡ 0 + length ys = omega arith in e
append_long (x ∷ xs) ys = let rest = append_long xs ys in omega (arith, rest)

-- how many pipes there are so far
pub pipes_so_far : {N : Type 0} (g0 g : Graph N) (r i : ℕ) (sources : List (GraphNodeKey × ℕ)) (names : List LogicalPipeKey) → IsTrue (are_there g0.pipes.slots) → WithPipes g0 g (fresh_wires r 0 (take i sources)) names
    → length g.pipes.slots ≤ length g0.pipes.slots + i
pipes_so_far g0 g r i sources names there so_far =
    let a = length_there g.pipes.slots so_far.linked.pipes_there in
    let b = length_there g0.pipes.slots there in
    let c = length_map wire_of (values g.pipes.slots) in
    let d = length_map wire_of (values g0.pipes.slots) in
    let e : length (wires_of g.pipes.slots) ≡ length (wires_of g0.pipes.slots) + length (take i sources) =
    ap length so_far.wires ∙ append_long (wires_of g0.pipes.slots) (fresh_wires r 0 (take i sources)) ∙ ap (λ n. length (wires_of g0.pipes.slots) + n) (fresh_long r 0 (take i sources)) in
    let short = take_short i sources in
    omega (arith, a, b, c, d, e, short)

pub take_length : {A : Type 0} (i : ℕ) (xs : List A) → i < length xs → length (take i xs) ≡ i
take_length zero xs h = refl
take_length (suc i) [] h = absurd (omega (arith, h))
take_length (suc i) (x ∷ xs) h = ap suc (take_length i xs (omega (arith, h)))

pub take_next : {A : Type 0} (i : ℕ) (xs : List A) (d : A) → i < length xs → take (i + 1) xs ≡ take i xs ++ get_or xs i d ∷ []
take_next i [] d h = absurd (omega (arith, h))
take_next zero (x ∷ xs) d h = refl
take_next (suc i) (x ∷ xs) d h =
    let e : suc i + 1 ≡ suc (i + 1) = omega arith in
    ap (λ n. take n (x ∷ xs)) e ∙ ap (λ l. x ∷ l) (take_next i xs d (omega (arith, h)))

-- the sender with one output more, in its place
pub with_output : {N T E : Type 0} (r : Result T E) (slots : List (Option (GraphNode N))) (n : ℕ) (pipe : LogicalPipeKey) (old new : GraphNode N) → value_at slots n ≡ Some old → OnOk r (new.outputs.items ≡ old.outputs.items ++ pipe ∷ []) → OnOk r (new.compute ≡ old.compute)
    → OnOk r (new.origin ≡ old.origin) → OnOk r (new.inputs ≡ old.inputs) → OnOk r (IfSome (value_at slots n) (λ x. WithOutput x n pipe slots (slice_set slots n (Some new))))
with_output (Err e) slots n pipe old new here outputs compute origin inputs = tt
with_output (Ok t) slots n pipe old new here outputs compute origin inputs = rw here (record { after = new; next = refl; compute = compute; origin = origin; inputs = inputs; outputs = outputs })
