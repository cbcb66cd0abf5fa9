-- The scan for what feeds the blockers, from the last node to the first, and the pipes between.
use Rattle.std.proofs.Common.{◌≡◌, ◌≢◌, ℕ, zero, suc, ◌+◌, ◌<◌, ◌≤◌, ◌⊎◌, Bool, true, false, cond, List, [], ◌∷◌, ◌++◌, length, take, Option, Some, get_or, refl, sym, ap, subst, ◌∙◌, inl, inr, arith}
use Rattle.std.specs.Prelude.{Contains, IsTrue, ◌&&◌, ◌||◌, count_by, map, nat_eq, nat_lt, slice_set}
use Rattle.std.specs.List.{filter as kept, list_all, list_any}
use Rattle.std.proofs.lemmas.Bool.{cases_eq}
use Rattle.std.proofs.lemmas.Bool.Decides.{nat_tests}
use Rattle.std.proofs.lemmas.List.{get_or-set_other, get_or-set_same, get_or_past}
use Rattle.std.proofs.lemmas.Option.{get_or_from_slice_get}
use Rattle.keyed_slots.specs.Slots.{value_at}
use Rattle.ps_frame.specs.Sorting.{in_order}
use Rattle.ps_frame.specs.Zip.{below}
use Rattle.ps_ports.specs.Phases.{all_feeders, is_blocker, is_one_of, ready_readers}
use Rattle.ps_ports.specs.Ports.{is_blocked, is_ready}
use Rattle.ps_ports.specs.Wires.{Wire, both_ready, wires_in, wires_out}
use Rattle.ps_settle.proofs.Ends.{has_out, is_out}
use Rattle.ps_settle.proofs.Members.{at_map, contains_at, contains_first, contains_later, item_at, kept-map, map_at, place_of}
use Rattle.ps_graph.specs.declared.graph.Graph.{Graph}
use Rattle.ps_graph.specs.declared.graph.GraphNode.{GraphNode}
use Rattle.ps_graph.specs.declared.graph.LogicalPipe.{LogicalPipe}
use Rattle.ps_graph.specs.declared.key.LogicalPipeKey.{LogicalPipeKey}
use Rattle.ps_graph.specs.Running.{are_intensive, feeds_flagged, flag_of, holds_if, passes, passes_if, runnable_nodes, runnable_pipes}
use Rattle.ps_graph.specs.Shown.{IsLinked, are_there, is_from, is_to, places_from, values, wire_of, wires_of}
use Rattle.ps_graph.proofs.Choosing.{kept-more}
use Rattle.ps_graph.proofs.Feeding.{and_both, and_true, any_from, any_has, one_of_kept, or_cases, or_left, or_right, phase_list}
use Rattle.ps_graph.proofs.Growing.{places-more, take_length, take_next}
use Rattle.ps_graph.proofs.Passing.{all_keys, any_keys, count_keys}
use Rattle.ps_graph.proofs.Places.{length_there, value_there}

module _ {N : Type 0} (g : Graph N) (linked : IsLinked g) where
  pub wires_forward : (p : Wire) → Contains (wires_of g.pipes.slots) p → (p.sender < p.receiver) × (p.receiver < length g.nodes.slots)
  wires_forward w c =
      let i = place_of (wires_of g.pipes.slots) w c in
      let p = at_map wire_of (values g.pipes.slots) i.0 w i.1 in
      let o = linked.inside p.0 (contains_at (values g.pipes.slots) i.0 p.0 p.1) in
      let P : Wire → Type 0 = λ v. (v.sender < v.receiver) × (v.receiver < length g.nodes.slots) in
      subst P p.2 (o.1, o.2)

  -- what the keys of a node tell is what its wires tell
  module _ (n : ℕ) (node : GraphNode N) (stands : value_at g.nodes.slots n ≡ Some node) where
    out_wires : in_order (λ (p q : Wire). nat_lt p.port q.port) (map wire_of (kept (is_from n) (values g.pipes.slots))) ≡ wires_out n (wires_of g.pipes.slots)
    out_wires = ap (in_order (λ (p q : Wire). nat_lt p.port q.port)) (sym (kept-map (λ (w : Wire). nat_eq w.sender n) wire_of (values g.pipes.slots)))

    in_wires : in_order (λ (p q : Wire). nat_lt p.input q.input) (map wire_of (kept (is_to n) (values g.pipes.slots))) ≡ wires_in n (wires_of g.pipes.slots)
    in_wires = ap (in_order (λ (p q : Wire). nat_lt p.input q.input)) (sym (kept-map (λ (w : Wire). nat_eq w.receiver n) wire_of (values g.pipes.slots)))

    pub node_blocks : (list_all (λ (key : LogicalPipeKey). passes (λ p. is_blocked p.send_state) g.pipes.slots key.0) node.outputs.items && list_any (λ (key : LogicalPipeKey). passes both_ready g.pipes.slots key.0) node.inputs.items)
        ≡ is_blocker (wires_of g.pipes.slots) n
    node_blocks =
        let outs =
        all_keys g.pipes.slots (is_from n) linked.pipes_there node.outputs.items (linked.outputs n node stands) (λ p. is_blocked p.send_state) (λ (p q : Wire). nat_lt p.port q.port) ∙ ap (list_all (λ (p : Wire). is_blocked p.send_state)) out_wires in
        let ins = any_keys g.pipes.slots (is_to n) linked.pipes_there node.inputs.items (linked.inputs n node stands) both_ready (λ (p q : Wire). nat_lt p.input q.input) ∙ ap (list_any both_ready) in_wires in
        λ i. outs i && ins i

    pub node_readers : count_by (λ (key : LogicalPipeKey). passes (λ p. is_ready p.receive_state) g.pipes.slots key.0) node.outputs.items ≡ ready_readers (wires_of g.pipes.slots) n
    node_readers =
        count_keys g.pipes.slots (is_from n) linked.pipes_there node.outputs.items (linked.outputs n node stands) (λ p. is_ready p.receive_state) (λ (p q : Wire). nat_lt p.port q.port) ∙ ap (count_by (λ (p : Wire). is_ready p.receive_state)) out_wires

    pub node_feeds : (test : Wire → Bool) → list_any (λ (key : LogicalPipeKey). passes test g.pipes.slots key.0) node.outputs.items ≡ list_any test (wires_out n (wires_of g.pipes.slots))
    node_feeds test = any_keys g.pipes.slots (is_from n) linked.pipes_there node.outputs.items (linked.outputs n node stands) test (λ (p q : Wire). nat_lt p.port q.port) ∙ ap (list_any test) out_wires

    pub node_intensive : (intensive : N → Bool) → intensive node.compute ≡ are_intensive intensive g n
    node_intensive intensive =
        sym (ap (holds_if intensive) (map_at (λ (x : GraphNode N). x.compute) (values g.nodes.slots) n node (sym (value_there g.nodes.slots linked.nodes_there n) ∙ stands)))

any_alike : {A : Type 0} (f g : A → Bool) (xs : List A) → ((x : A) → Contains xs x → f x ≡ g x) → list_any f xs ≡ list_any g xs
any_alike f g [] h = refl
any_alike f g (x ∷ xs) h =
    let first = h x (contains_first x x xs refl) in
    let rest = any_alike f g xs (λ y c. h y (contains_later x y xs c)) in
    λ i. first i || rest i

module _ (k : ℕ) (ws : List Wire) (forward : (p : Wire) → Contains ws p → (p.sender < p.receiver) × (p.receiver < k)) (bs : List ℕ) where
  -- a flag that is set changes nothing for the nodes from its own on, since all that they feed comes later
  pub scan_more : (flags new : List Bool) (u : ℕ) (v : Bool) → new ≡ slice_set flags u v → u < length flags → v ≡ flag_of ws bs flags u → ((m : ℕ) → u + 1 ≤ m → m < k → get_or flags m false ≡ flag_of ws bs flags m)
      → (m : ℕ) → u ≤ m → m < k → get_or new m false ≡ flag_of ws bs new m
  scan_more flags new u v write inside is so_far m h lt = elim (cases_eq m u) [
    | inl here ↦
        ap (λ l. get_or l m false) write ∙ ap (λ j. get_or (slice_set flags u v) j false) here ∙ get_or-set_same flags u v false inside ∙ is ∙ ap (flag_of ws bs flags) (sym here) ∙ same m h
    | inr other ↦ ap (λ l. get_or l m false) write ∙ get_or-set_other flags u m v false other ∙ so_far m (later h other) lt ∙ same m h
  ]
    where
      later : u ≤ m → m ≢ u → u + 1 ≤ m
      later h other = omega (arith, h, other)

      same : (m : ℕ) → u ≤ m → flag_of ws bs flags m ≡ flag_of ws bs new m
      same m h =
          ap (λ b. is_one_of m bs || b) (any_alike (feeds_flagged flags) (feeds_flagged new) (wires_out m ws) (λ p c.
          let d = has_out m ws p c in
          let up = (forward p d.0).0 in
          let from = d.1 in
          let other : p.receiver ≢ u = (λ e. omega (arith, e, up, from, h)) in
          let read : get_or flags p.receiver false ≡ get_or new p.receiver false = sym (ap (λ l. get_or l p.receiver false) write ∙ get_or-set_other flags u p.receiver v false other) in
          ap (λ b. both_ready p && b) read))

  -- flags that are those of all nodes are the phase
  pub scan_over : ((m : ℕ) → is_one_of m bs ≡ true → m < k) → (flags : List Bool) → length flags ≡ k → ((m : ℕ) → m < k → get_or flags m false ≡ flag_of ws bs flags m) → all_feeders k k ws bs ≡ kept (λ m. get_or flags m false) (below k)
  scan_over inside flags long each = phase_list k ws forward bs inside (λ m. get_or flags m false) starts feeds only
    where
      starts : (m : ℕ) → is_one_of m bs ≡ true → get_or flags m false ≡ true
      starts m e = each m (inside m e) ∙ or_left (is_one_of m bs) (list_any (feeds_flagged flags) (wires_out m ws)) e

      feeds : (p : Wire) → Contains ws p → both_ready p ≡ true → get_or flags p.receiver false ≡ true → get_or flags p.sender false ≡ true
      feeds p c ready flagged =
          let f = forward p c in
          let lower = f.0 in
          let upper = f.1 in
          each p.sender (omega (arith, lower, upper))
          ∙ or_right (is_one_of p.sender bs) (list_any (feeds_flagged flags) (wires_out p.sender ws))
          (any_has (feeds_flagged flags) p (wires_out p.sender ws) (is_out p.sender ws p c refl) (and_true (both_ready p) (get_or flags p.receiver false) ready flagged))

      flagged_inside : (m : ℕ) → get_or flags m false ≡ true → m < k
      flagged_inside m e = by (nat_lt m k) refl
        where
          by : (b : Bool) → nat_lt m k ≡ b → m < k
          by true t = grind (arith, nat_tests)
          by false t =
              let past : length flags ≤ m = (let h : k ≤ m = grind (arith, nat_tests) in omega (arith, h, long)) in
              absurd (let clash : false ≡ true = sym (get_or_past flags m false past) ∙ e in cc)

      only : (m : ℕ) → get_or flags m false ≡ true → (is_one_of m bs ≡ true) ⊎ ((p : Wire) × Contains ws p × (p.sender ≡ m) × (both_ready p ≡ true) × (get_or flags p.receiver false ≡ true))
      only m e = elim (or_cases (is_one_of m bs) (list_any (feeds_flagged flags) (wires_out m ws)) (sym (each m (flagged_inside m e)) ∙ e)) [
        | inl here ↦ inl here
        | inr some ↦
            let p = any_from (feeds_flagged flags) (wires_out m ws) some in
            let d = has_out m ws p.0 p.1 in
            let a = and_both (both_ready p.0) (get_or flags p.0.receiver false) p.2 in
            inr (p.0, d.0, d.1, a.0, a.1)
      ]

-- numbers, one flag more
pub flagged_more : (flags : List Bool) (n : ℕ) (b : Bool) → get_or flags n false ≡ b → kept (λ m. get_or flags m false) (below (n + 1)) ≡ kept (λ m. get_or flags m false) (below n) ++ cond b (n ∷ []) []
flagged_more flags n b e =
    let next : n + 1 ≡ suc n = omega arith in
    ap (λ k. kept (λ m. get_or flags m false) (below k)) next ∙ kept-more (λ m. get_or flags m false) (below n) n ∙ ap (λ c. kept (λ m. get_or flags m false) (below n) ++ cond c (n ∷ []) []) e

pub take_all : {A : Type 0} (i : ℕ) (xs : List A) → length xs ≤ i → take i xs ≡ xs
take_all zero [] h = refl
take_all zero (x ∷ xs) h = absurd (omega (arith, h))
take_all (suc i) [] h = refl
take_all (suc i) (x ∷ xs) h = ap (λ l. x ∷ l) (take_all i xs (omega (arith, h)))

-- the places of pipes, one pipe more
pub places_next : (slots : List (Option LogicalPipe)) (test : Wire → Bool) (i : ℕ) (b : Bool) → IsTrue (are_there slots) → i < length slots → passes test slots i ≡ b
    → places_from 0 (λ p. test (wire_of p)) (take (i + 1) (values slots)) ≡ places_from 0 (λ p. test (wire_of p)) (take i (values slots)) ++ cond b (i ∷ []) []
places_next slots test i b there inside e =
    let long = length_there slots there in
    let x = item_at (values slots) i (omega (arith, long, inside)) in
    let within : i < length (values slots) = omega (arith, long, inside) in
    let here : get_or (values slots) i x.0 ≡ x.0 = get_or_from_slice_get (values slots) i x.0 x.0 x.1 in
    let passed : test (wire_of x.0) ≡ b = sym (ap (passes_if test) (value_there slots there i ∙ x.1)) ∙ e in
    let many : 0 + length (take i (values slots)) ≡ i = (let l = take_length i (values slots) within in omega (arith, l)) in
    ap (places_from 0 (λ p. test (wire_of p))) (take_next i (values slots) x.0 within ∙ ap (λ p. take i (values slots) ++ p ∷ []) here) ∙ places-more 0 (λ p. test (wire_of p)) (take i (values slots)) x.0
    ∙ (λ j. places_from 0 (λ p. test (wire_of p)) (take i (values slots)) ++ cond (passed j) (many j ∷ []) [])

places_same : {A : Type 0} (k : ℕ) (f g : A → Bool) (xs : List A) → ((x : A) → Contains xs x → f x ≡ g x) → places_from k f xs ≡ places_from k g xs
places_same k f g [] h = refl
places_same k f g (x ∷ xs) h =
    let first = h x (contains_first x x xs refl) in
    let rest = places_same (k + 1) f g xs (λ y c. h y (contains_later x y xs c)) in
    λ i. cond (first i) (k ∷ rest i) (rest i)

module _ {N : Type 0} (intensive : N → Bool) (g : Graph N) (linked : IsLinked g) (flags : List Bool) (found : kept (λ m. get_or flags m false) (below (length g.nodes.slots)) ≡ runnable_nodes intensive g) where
  -- the pipes that lead to what is flagged are those of the phase
  pub pipes_found : places_from 0 (λ p. feeds_flagged flags (wire_of p)) (values g.pipes.slots) ≡ runnable_pipes intensive g
  pipes_found =
      places_same 0 (λ p. feeds_flagged flags (wire_of p)) (λ p. both_ready (wire_of p) && is_one_of p.receiver.0 (runnable_nodes intensive g)) (values g.pipes.slots) (λ p c.
      let inside = (linked.inside p c).2 in
      let is : get_or flags p.receiver.0 false ≡ is_one_of p.receiver.0 (runnable_nodes intensive g) =
      sym (one_of_kept (λ m. get_or flags m false) (length g.nodes.slots) p.receiver.0 inside) ∙ ap (is_one_of p.receiver.0) found in
      ap (λ b. both_ready (wire_of p) && b) is)
