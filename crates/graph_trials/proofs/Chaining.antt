-- Chains grow by a node, and one from a source over filters to a sink may run.
use Rattle.std.proofs.Common.{◌≡◌, ℕ, zero, suc, ◌+◌, ◌<◌, ◌≤◌, ◌⊎◌, Bool, true, false, cond, List, [], ◌∷◌, ◌++◌, length, get_or, take, Some, None, refl, sym, ap, subst, ◌∙◌, inl, inr, arith}
use Rattle.std.specs.Prelude.{All, IsTrue, ◌&&◌, count_by, map, nat_eq, nat_lt, slice_get}
use Rattle.std.proofs.lemmas.Bool.Decides.{nat_tests}
use Rattle.std.proofs.lemmas.List.{length-append, take_all, take_more}
use Rattle.std.proofs.lemmas.List.Sums.{sum_by_push}
use Rattle.std.specs.List.{list_all}
use Rattle.ps_ports.specs.declared.port_state.PortState.TheVariants as port
use Rattle.ps_ports.specs.Examples.{a_wire}
use Rattle.ps_ports.specs.Wires.{Wire}
use Rattle.ps_settle.proofs.Members.{length_map, map_at}
use Rattle.ps_graph.specs.declared.graph.Graph.{Graph}
use Rattle.ps_graph.specs.declared.graph.GraphNode.{GraphNode}
use Rattle.ps_graph.specs.declared.key.GraphNodeKey.{GraphNodeKey}
use Rattle.ps_graph.specs.Complete.{IsComplete, inputs_of, readers_of, readers_of_port}
use Rattle.ps_graph.specs.Shown.{IsLinked, nodes_of, standing_of, values, wire_of, wires_of}
use Rattle.ps_graph.proofs.Feeding.{and_both}
use Rattle.ps_graph.proofs.Growing.{map-append}
use Rattle.ps_graph.proofs.Places.{length_there}
use Rattle.graph_trials.specs.declared.kind.Kind.{Kind}
use Rattle.graph_trials.specs.declared.kind.Kind.TheVariants as kind
use Rattle.graph_trials.specs.declared.node.TrialNode.{TrialNode}
use Rattle.graph_trials.specs.Chains.{IsChain, kinds_of, line, link}
use Rattle.graph_trials.specs.Trying.{FitsKind, is_link}
use Rattle.graph_trials.specs.Trying.{inputs_of as kind_inputs, outputs_of as kind_outputs}

more_length : {A : Type 0} (xs ys : List A) (x : A) → ys ≡ xs ++ x ∷ [] → length ys ≡ suc (length xs)
more_length xs ys x e = let l = length-append xs (x ∷ []) in omega (arith, ap length e, l)

-- as many slots as nodes and wires
nodes_long : (g : Graph TrialNode) → IsLinked g → length (nodes_of g.nodes.slots) ≡ length g.nodes.slots
nodes_long g linked = length_map (λ (n : GraphNode TrialNode). n.compute) (values g.nodes.slots) ∙ length_there g.nodes.slots linked.nodes_there

wires_long : (g : Graph TrialNode) → IsLinked g → length (wires_of g.pipes.slots) ≡ length g.pipes.slots
wires_long g linked = length_map wire_of (values g.pipes.slots) ∙ length_there g.pipes.slots linked.pipes_there

module _ (g g' : Graph TrialNode) (chain : IsChain g) (linked : IsLinked g') (last : ℕ) (is_last : last ≡ length g.pipes.slots) (node : TrialNode) (nodes : nodes_of g'.nodes.slots ≡ nodes_of g.nodes.slots ++ node ∷ [])
    (wires : wires_of g'.pipes.slots ≡ wires_of g.pipes.slots ++ a_wire last 0 (length g.nodes.slots) 0 port.Blocked port.Blocked ∷ []) where
  pub pipes_more : length g'.pipes.slots ≡ suc (length g.pipes.slots)
  pipes_more = sym (wires_long g' linked) ∙ more_length (wires_of g.pipes.slots) (wires_of g'.pipes.slots) (a_wire last 0 (length g.nodes.slots) 0 port.Blocked port.Blocked) wires ∙ ap suc (wires_long g chain.linked)

  nodes_more : length g'.nodes.slots ≡ suc (length g.nodes.slots)
  nodes_more = sym (nodes_long g' linked) ∙ more_length (nodes_of g.nodes.slots) (nodes_of g'.nodes.slots) node nodes ∙ ap suc (nodes_long g chain.linked)

  -- a chain with a node that reads its last one is a chain
  pub chain_more : IsChain g'
  chain_more =
      let old = chain.wires in
      let count = chain.count in
      let all : wires_of g'.pipes.slots ≡ line (suc (length g.pipes.slots)) = wires ∙ (λ i. old i ++ a_wire (is_last i) 0 (count i) 0 port.Blocked port.Blocked ∷ []) in
      record { linked = linked; count = nodes_more ∙ ap suc count ∙ ap suc (sym pipes_more); wires = all ∙ ap line (sym pipes_more) }

  pub kinds_more : kinds_of g' ≡ kinds_of g ++ node.kind ∷ []
  kinds_more = ap (map (λ (n : TrialNode). n.kind)) nodes ∙ map-append (λ (n : TrialNode). n.kind) (nodes_of g.nodes.slots) (node ∷ [])

module _ (g g' : Graph TrialNode) (no_nodes : g.nodes.slots ≡ []) (no_pipes : g.pipes.slots ≡ []) (linked : IsLinked g') (node : TrialNode) (nodes : nodes_of g'.nodes.slots ≡ nodes_of g.nodes.slots ++ node ∷ [])
    (wires : wires_of g'.pipes.slots ≡ wires_of g.pipes.slots ++ []) where
  only : nodes_of g'.nodes.slots ≡ node ∷ []
  only = nodes ∙ ap (λ l. nodes_of l ++ node ∷ []) no_nodes

  none : wires_of g'.pipes.slots ≡ []
  none = wires ∙ ap (λ l. wires_of l ++ []) no_pipes

  pub first_pipes : length g'.pipes.slots ≡ 0
  first_pipes = sym (wires_long g' linked) ∙ ap length none

  -- one node alone is a chain
  pub chain_first : IsChain g'
  chain_first = record { linked = linked; count = sym (nodes_long g' linked) ∙ ap length only ∙ ap suc (sym first_pipes); wires = none ∙ ap line (sym first_pipes) }

  pub kinds_first : kinds_of g' ≡ node.kind ∷ []
  kinds_first = ap (map (λ (n : TrialNode). n.kind)) only

-- a test that holds of one link holds once, if the line is long enough
count_at : (test : Wire → Bool) (j : ℕ) → ((k : ℕ) → test (link k) ≡ nat_eq k j) → (m : ℕ) → count_by test (line m) ≡ cond (nat_lt j m) 1 0
count_at test j one zero = let none : nat_lt j 0 ≡ false = grind (arith, nat_tests) in rw none refl
count_at test j one (suc k) =
    sum_by_push (λ w. cond (test w) 1 0) (line k) (link k) ∙ ap (λ n. n + cond (test (link k)) 1 0) (count_at test j one k) ∙ ap (λ b. cond (nat_lt j k) 1 0 + cond b 1 0) (one k)
    ∙ by (nat_lt j k) (nat_eq k j) (nat_lt j (suc k)) refl refl refl
  where
    by : (a b c : Bool) → nat_lt j k ≡ a → nat_eq k j ≡ b → nat_lt j (suc k) ≡ c → cond a 1 0 + cond b 1 0 ≡ cond c 1 0
    by true true c ea eb ec = absurd (grind (arith, nat_tests))
    by true false true ea eb ec = refl
    by true false false ea eb ec = absurd (grind (arith, nat_tests))
    by false true true ea eb ec = refl
    by false true false ea eb ec = absurd (grind (arith, nat_tests))
    by false false true ea eb ec = absurd (grind (arith, nat_tests))
    by false false false ea eb ec = refl

count_none : (test : Wire → Bool) → ((k : ℕ) → test (link k) ≡ false) → (m : ℕ) → count_by test (line m) ≡ 0
count_none test never zero = refl
count_none test never (suc k) = sum_by_push (λ w. cond (test w) 1 0) (line k) (link k) ∙ ap (λ n. n + cond (test (link k)) 1 0) (count_none test never k) ∙ ap (λ b. 0 + cond b 1 0) (never k)

readers-line : (n m : ℕ) → readers_of n (line m) ≡ cond (nat_lt n m) 1 0
readers-line n m = count_at (λ p. nat_eq p.sender n) n (λ k. refl) m

ports-line : (n m : ℕ) → readers_of_port n 0 (line m) ≡ cond (nat_lt n m) 1 0
ports-line n m = count_at (λ p. nat_eq p.sender n && nat_eq p.port 0) n (λ k. by (nat_eq k n)) m
  where
    by : (b : Bool) → (b && true) ≡ b
    by true = refl
    by false = refl

inputs-line : (n m : ℕ) → inputs_of (suc n) (line m) ≡ cond (nat_lt n m) 1 0
inputs-line n m = count_at (λ p. nat_eq p.receiver (suc n)) n (λ k. by k) m
  where
    by : (k : ℕ) → nat_eq (suc k) (suc n) ≡ nat_eq k n
    by k = same (nat_eq (suc k) (suc n)) (nat_eq k n) refl refl
      where
        same : (a b : Bool) → nat_eq (suc k) (suc n) ≡ a → nat_eq k n ≡ b → a ≡ b
        same true true ea eb = refl
        same true false ea eb = absurd (grind (arith, nat_tests))
        same false true ea eb = absurd (grind (arith, nat_tests))
        same false false ea eb = refl

apart : (k : ℕ) → nat_eq (suc k) 0 ≡ false
apart k = grind (arith, nat_tests)

first-line : (m : ℕ) → inputs_of 0 (line m) ≡ 0
first-line m = count_none (λ p. nat_eq p.receiver 0) apart m

-- one of the links more
pub links_more : (first : Kind) (links : List Kind) (n : ℕ) (d : Kind) → n < length links → (first ∷ take n links) ++ get_or links n d ∷ [] ≡ first ∷ take (n + 1) links
links_more first links n d h = ap (λ l. first ∷ l) (sym (take_more links n d h))

-- all of the links
pub links_all : (first : Kind) (links : List Kind) (n : ℕ) → length links ≤ n → first ∷ take n links ≡ first ∷ links
links_all first links n h = ap (λ l. first ∷ l) (take_all n links h)

-- a link has one input and one reader
link_ports : (k : Kind) → is_link k ≡ true → (kind_inputs k ≡ 1) × (kind_outputs k ≡ 1)
link_ports (kind.Source spent) e = absurd (let clash : false ≡ true = e in cc)
link_ports kind.Filter e = (refl, refl)
link_ports (kind.Map over) e = (refl, refl)
link_ports kind.Union e = (refl, refl)
link_ports kind.Taker e = (refl, refl)
link_ports kind.Sink e = absurd (let clash : false ≡ true = e in cc)

-- what stands behind the source
behind : (links : List Kind) (n : ℕ) (k : Kind) → list_all is_link links ≡ true → slice_get (links ++ kind.Sink ∷ []) n ≡ Some k → ((n < length links) × (is_link k ≡ true)) ⊎ ((n ≡ length links) × (kind.Sink ≡ k))
behind [] zero k all e = inr (refl, (let both : Some kind.Sink ≡ Some k = e in cc))
behind [] (suc n) k all e = absurd (let clash : None ≡ Some k = e in cc)
behind (l ∷ ls) zero k all e =
    let is : l ≡ k = (let both : Some l ≡ Some k = e in cc) in
    inl (omega arith, ap is_link (sym is) ∙ (and_both (is_link l) (list_all is_link ls) all).0)
behind (l ∷ ls) (suc n) k all e =
    elim (behind ls n k ((and_both (is_link l) (list_all is_link ls) all).1) e) [
      | inl (lower, is) ↦ inl (omega (arith, lower), is)
      | inr (same, is) ↦ inr (ap suc same, is)
    ]

one_of : (n m : ℕ) → n < m → cond {A = ℕ} (nat_lt n m) 1 0 ≡ 1
one_of n m h = let yes : nat_lt n m ≡ true = grind (arith, nat_tests) in ap (λ b. cond {A = ℕ} b 1 0) yes

none_of : (n m : ℕ) → m ≤ n → cond {A = ℕ} (nat_lt n m) 1 0 ≡ 0
none_of n m h = let past : nat_lt n m ≡ false = grind (arith, nat_tests) in ap (λ b. cond {A = ℕ} b 1 0) past

-- a chain from a source over links to a sink lacks nothing
pub chain_complete : (g : Graph TrialNode) (spent : Bool) (links : List Kind) → IsTrue (list_all is_link links) → IsChain g → kinds_of g ≡ (kind.Source spent ∷ links) ++ kind.Sink ∷ [] → length g.pipes.slots ≡ length links + 1
    → IsComplete FitsKind (standing_of g)
chain_complete g spent links all chain kinds long =
    record {
      one_reader = λ n port h. subst (λ ws. readers_of_port n port ws ≡ 1) (sym wires) (at n port (subst (λ ws. port < readers_of n ws) wires h));
      ports = λ n node at.
          let here : slice_get (kind.Source spent ∷ links ++ kind.Sink ∷ []) n ≡ Some node.kind = ap (λ l. slice_get l n) (sym kinds) ∙ map_at (λ (x : TrialNode). x.kind) (nodes_of g.nodes.slots) n node at in
          subst (λ ws. FitsKind node (inputs_of n ws) (readers_of n ws)) (sym wires) (fits n node.kind here);
    }
  where
    wires : wires_of g.pipes.slots ≡ line (length links + 1)
    wires = chain.wires ∙ ap line long

    at : (n port : ℕ) → port < readers_of n (line (length links + 1)) → readers_of_port n port (line (length links + 1)) ≡ 1
    at n port h = by (nat_lt n (length links + 1)) refl
      where
        by : (b : Bool) → nat_lt n (length links + 1) ≡ b → readers_of_port n port (line (length links + 1)) ≡ 1
        by true e =
            let one : readers_of n (line (length links + 1)) ≡ 1 = readers-line n (length links + 1) ∙ ap (λ b. cond b 1 0) e in
            let first : port ≡ 0 = omega (arith, h, one) in
            ap (λ p. readers_of_port n p (line (length links + 1))) first ∙ ports-line n (length links + 1) ∙ ap (λ b. cond b 1 0) e
        by false e = let none : readers_of n (line (length links + 1)) ≡ 0 = readers-line n (length links + 1) ∙ ap (λ b. cond b 1 0) e in absurd (omega (arith, h, none))

    fits : (n : ℕ) (k : Kind) → slice_get (kind.Source spent ∷ links ++ kind.Sink ∷ []) n ≡ Some k → (inputs_of n (line (length links + 1)) ≡ kind_inputs k) × (readers_of n (line (length links + 1)) ≡ kind_outputs k)
    fits zero k e =
        let is : kind.Source spent ≡ k = (let both : Some (kind.Source spent) ≡ Some k = e in cc) in
        (first-line (length links + 1) ∙ ap kind_inputs is, readers-line 0 (length links + 1) ∙ one_of 0 (length links + 1) (omega arith) ∙ ap kind_outputs is)
    fits (suc n) k e = elim (behind links n k all e) [
      | inl (lower, is) ↦
          let ports = link_ports k is in
          (inputs-line n (length links + 1) ∙ one_of n (length links + 1) (omega (arith, lower)) ∙ sym ports.0, readers-line (suc n) (length links + 1) ∙ one_of (suc n) (length links + 1) (omega (arith, lower)) ∙ sym ports.1)
      | inr (same, is) ↦
          (inputs-line n (length links + 1) ∙ one_of n (length links + 1) (omega (arith, same)) ∙ ap kind_inputs is, readers-line (suc n) (length links + 1) ∙ none_of (suc n) (length links + 1) (omega (arith, same)) ∙ ap kind_outputs is)
    ]

-- the sender of the only input is among so many nodes
pub one_sender : (s : GraphNodeKey) (port bound : ℕ) → s.0 < bound → All (λ (i : GraphNodeKey × ℕ). i.0.0 < bound) ((s, port) ∷ [])
one_sender s port bound h zero d inside = h
one_sender s port bound h (suc k) d inside = absurd (omega (arith, inside))
