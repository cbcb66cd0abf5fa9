-- A graph that is put together and lacks nothing may run.
use Rattle.std.proofs.Common.{◌≡◌, ℕ, ◌<◌, Bool, true, false, cond, List, [], ◌∷◌, length, sym, ap, refl, subst, ◌∙◌, arith}
use Rattle.std.specs.Prelude.{◌&&◌, count_by, map, nat_eq, nat_lt}
use Rattle.std.specs.List.{filter as kept}
use Rattle.std.proofs.lemmas.List.Sums.{length-filter}
use Rattle.ps_frame.specs.Sorting.{in_order}
use Rattle.ps_frame.specs.Zip.{below}
use Rattle.ps_ports.specs.Wires.{Wire, wires_in, wires_out}
use Rattle.ps_settle.proofs.Members.{at_map, contains_at, in_order-map, kept-map, length_map, map_at, map_twice, place_of}
use Rattle.ps_graph.specs.declared.graph.Graph.{Graph}
use Rattle.ps_graph.specs.declared.graph.GraphNode.{GraphNode}
use Rattle.ps_graph.specs.declared.graph.LogicalPipe.{LogicalPipe}
use Rattle.ps_graph.specs.Complete.{IsComplete, inputs_of, readers_of, readers_of_port}
use Rattle.ps_graph.specs.Shown.{CanRun, IsLinked, inputs_into, is_to, nodes_of, standing_of, values, wire_of, wires_of}
use Rattle.ps_graph.proofs.Ordering.{count-map, each_once, in_order-below}
use Rattle.ps_graph.proofs.Places.{length_in_order, length_there, value_there}

pub kept-both : {A : Type 0} (first then : A → Bool) (xs : List A) → kept then (kept first xs) ≡ kept (λ x. first x && then x) xs
kept-both first then [] = refl
kept-both first then (x ∷ xs) = by (first x) (kept-both first then xs)
  where
    by : (b : Bool) → kept then (kept first xs) ≡ kept (λ y. first y && then y) xs
        → kept then (cond b (x ∷ kept first xs) (kept first xs)) ≡ cond (b && then x) (x ∷ kept (λ y. first y && then y) xs) (kept (λ y. first y && then y) xs)
    by true rest = λ i. cond (then x) (x ∷ rest i) (rest i)
    by false rest = rest

count-kept : {A : Type 0} (first then : A → Bool) (xs : List A) → count_by then (kept first xs) ≡ count_by (λ x. first x && then x) xs
count-kept first then xs = sym (length-filter then (kept first xs)) ∙ ap length (kept-both first then xs) ∙ length-filter (λ x. first x && then x) xs

-- as many wires lead to a node, and from it, as are counted
pub inputs_count : (n : ℕ) (ws : List Wire) → length (wires_in n ws) ≡ inputs_of n ws
inputs_count n ws = length_in_order (λ (p q : Wire). nat_lt p.input q.input) (kept (λ (p : Wire). nat_eq p.receiver n) ws) ∙ length-filter (λ (p : Wire). nat_eq p.receiver n) ws

pub readers_count : (n : ℕ) (ws : List Wire) → length (wires_out n ws) ≡ readers_of n ws
readers_count n ws = length_in_order (λ (p q : Wire). nat_lt p.port q.port) (kept (λ (p : Wire). nat_eq p.sender n) ws) ∙ length-filter (λ (p : Wire). nat_eq p.sender n) ws

-- where each port has one reader, the wires out of a node are numbered from 0 on
ports_numbered : (n : ℕ) (ws : List Wire) → ((port : ℕ) → port < readers_of n ws → readers_of_port n port ws ≡ 1) → map (λ (p : Wire). p.port) (wires_out n ws) ≡ below (length (wires_out n ws))
ports_numbered n ws one =
    let from_n : Wire → Bool = λ p. nat_eq p.sender n in
    let ports : List ℕ = map (λ (p : Wire). p.port) (kept from_n ws) in
    let long : length ports ≡ readers_of n ws = length_map (λ (p : Wire). p.port) (kept from_n ws) ∙ length-filter from_n ws in
    let count : length (wires_out n ws) ≡ length ports = readers_count n ws ∙ sym long in
    sym (in_order-map nat_lt (λ (p : Wire). p.port) (kept from_n ws))
    ∙ each_once ports (λ k h. count-map (λ (p : Wire). p.port) (λ x. nat_eq x k) (kept from_n ws) ∙ count-kept from_n (λ (p : Wire). nat_eq p.port k) ws ∙ one k (omega (arith, h, long))) ∙ ap below (sym count)

-- the wires into a node of a linked graph are numbered from 0 on
inputs_numbered : (n : ℕ) (pipes : List LogicalPipe) → inputs_into n pipes ≡ below (length (inputs_into n pipes)) → map (λ (p : Wire). p.input) (wires_in n (map wire_of pipes)) ≡ below (length (wires_in n (map wire_of pipes)))
inputs_numbered n pipes numbered =
    let to_n : Wire → Bool = λ p. nat_eq p.receiver n in
    let same : map (λ (p : Wire). p.input) (kept to_n (map wire_of pipes)) ≡ inputs_into n pipes = ap (map (λ (p : Wire). p.input)) (kept-map to_n wire_of pipes) ∙ map_twice (λ (p : Wire). p.input) wire_of (kept (is_to n) pipes) in
    let long : length (inputs_into n pipes) ≡ length (wires_in n (map wire_of pipes)) =
    ap length (sym same) ∙ length_map (λ (p : Wire). p.input) (kept to_n (map wire_of pipes)) ∙ sym (length_in_order (λ (p q : Wire). nat_lt p.input q.input) (kept to_n (map wire_of pipes))) in
    sym (in_order-map nat_lt (λ (p : Wire). p.input) (kept to_n (map wire_of pipes))) ∙ ap (in_order nat_lt) (same ∙ numbered) ∙ in_order-below (length (inputs_into n pipes)) ∙ ap below long

-- a graph that is put together and complete may run
pub complete_runs : {N : Type 0} (HasPorts : N → ℕ → ℕ → Type 0) (g : Graph N) → IsLinked g → IsComplete HasPorts (standing_of g) → CanRun HasPorts g
complete_runs HasPorts g linked complete =
    record {
      linked = linked;
      wired = record {
        forward = λ w c.
            let i = place_of (wires_of g.pipes.slots) w c in
            let p = at_map wire_of (values g.pipes.slots) i.0 w i.1 in
            let o = linked.inside p.0 (contains_at (values g.pipes.slots) i.0 p.0 p.1) in
            let long = length_map (λ (n : GraphNode _). n.compute) (values g.nodes.slots) ∙ length_there g.nodes.slots linked.nodes_there in
            let up = o.2 in
            let P : Wire → Type 0 = λ v. (v.sender < v.receiver) × (v.receiver < length (nodes_of g.nodes.slots)) in
            subst P p.2 (o.1, omega (arith, up, long));
        inputs = λ n. inputs_numbered n (values g.pipes.slots) (linked.numbered n);
        ports = λ n. ports_numbered n (wires_of g.pipes.slots) (complete.one_reader n);
      };
      ports = λ n node stands.
          let at = map_at (λ (x : GraphNode _). x.compute) (values g.nodes.slots) n node (sym (value_there g.nodes.slots linked.nodes_there n) ∙ stands) in
          let P : ℕ → ℕ → Type 0 = λ i o. HasPorts node.compute i o in
          let ins = inputs_count n (wires_of g.pipes.slots) in
          let outs = readers_count n (wires_of g.pipes.slots) in
          subst (λ i. P i (length (wires_out n (wires_of g.pipes.slots)))) (sym ins) (subst (λ o. P (inputs_of n (wires_of g.pipes.slots)) o) (sym outs) (complete.ports n node.compute at));
    }
