-- A graph from its first node to its last.
use Rattle.std.proofs.Common.{◌≡◌, ℕ, ◌-◌, ◌^◌, ◌<◌, List, [], Option, length, take, ap, sym, subst, ◌∙◌, arith}
use Rattle.std.specs.List.{AllZip}
use Rattle.pu_base.specs.declared.arena.Node.{Node}
use Rattle.ps_frame.specs.Functions.{Functions}
use Rattle.ps_frame.specs.Trees.{Tree}
use Rattle.ps_meaning.specs.Shape.{Shape}
use Rattle.ps_meaning.specs.Sound.{IsSound, all_inputs}
use Rattle.ps_graph.specs.Shown.{IsLinked, nodes_of as graph_nodes, wires_of}
use Rattle.ps_graph.specs.Turning.{origins_of}
use Rattle.ps_graph.specs.declared.graph.Graph.{Graph}
use Rattle.ps_graph.specs.declared.key.GraphNodeKey.{GraphNodeKey}
use Rattle.ps_nodes.specs.declared.flow.FlowNode.{FlowNode}
use Rattle.ps_phys.proofs.Places.{none-placed}
use Rattle.ps_phys.specs.Shown.{nodes_of, shown}
use Rattle.ps_phys.specs.Underway.{AreThere, numbers_in}
use Rattle.ps_phys.specs.Walks.{node_at, order_from, renumbered, shape_in}
use Rattle.ps_phys.specs.declared.phys.PhysNode.{PhysNode}
use Rattle.ps_phys.specs.declared.phys.PhysNodeKey.{PhysNodeKey}
use Rattle.graph_parts.specs.Keyed.{IsKeyed}
use Rattle.graph_parts.specs.Orders.{IsSoundOrder, ordered}
use Rattle.plan_graphs.specs.Underway.{IsUnderway}
use Rattle.plan_graphs.specs.Wiring.{IsBuiltOf, IsMadeIn}
use Rattle.graph_parts.specs.Wires.{origins_in, wires_from}
use Rattle.graph_parts.proofs.Lists.{map-length, take-all}
use Rattle.graph_parts.proofs.Ordered.{numbers-count}

module _ (f : Node → Tree) (slots : List (Option PhysNode)) (ks : List PhysNodeKey) (root : ℕ) (order : numbers_in ks ≡ order_from (nodes_of f slots) root) where
  same-shape : ordered f slots ks ≡ shown f slots root
  same-shape = ap (λ o. shape_in o (nodes_of f slots)) order

  shape-count : length (ordered f slots ks) ≡ length ks
  shape-count = map-length (λ n. renumbered (numbers_in ks) (node_at (nodes_of f slots) n)) (numbers_in ks) ∙ numbers-count ks

  pub sound_order : AreThere slots ks → (sound : (F : Functions) × IsSound F (shown f slots root)) → length (shown f slots root) < 2 ^ 32 - 1 → length (all_inputs (shown f slots root)) < 2 ^ 32 - 1 → IsSoundOrder f slots ks
  sound_order there sound few few-inputs =
      let own = subst (IsSound sound.0) (sym same-shape) sound.1 in
      let P : Shape → Type 0 = λ s. length s < 2 ^ 32 - 1 in
      let Q : Shape → Type 0 = λ s. length (all_inputs s) < 2 ^ 32 - 1 in
      let few' = subst P (sym same-shape) few in
      record { there = there; functions = sound.0; sound = own.0; few = omega (arith, few', shape-count); few_inputs = subst Q (sym same-shape) few-inputs }

  module _ (g : Graph FlowNode) (keys : List (Option GraphNodeKey)) (last : IsUnderway (ordered f slots ks) (numbers_in ks) (length ks) g keys) where
    whole : take (length ks) (ordered f slots ks) ≡ ordered f slots ks
    whole = take-all (ordered f slots ks) (length ks) (omega (arith, shape-count))

    pub all_built : IsBuiltOf (shown f slots root) g
    all_built = subst Built same-shape (record { nodes = subst Nodes whole last.nodes; origins = last.origins ∙ ap origins_in whole; wires = last.wires ∙ ap (wires_from 0) whole })
      where
        Built : Shape → Type 0
        Built s = IsBuiltOf s g

        Nodes : Shape → Type 0
        Nodes s = AllZip (IsMadeIn (ordered f slots ks)) s (graph_nodes g.nodes.slots)

    pub all_keyed : IsKeyed (order_from (nodes_of f slots) root) keys
    all_keyed =
        let P : List ℕ → Type 0 = λ ns. IsKeyed ns keys in
        let count = numbers-count ks in
        subst P (take-all (numbers_in ks) (length ks) (omega (arith, count)) ∙ order) last.keyed

pub starts : (shape : Shape) (order : List ℕ) (g : Graph FlowNode) (keys : List (Option GraphNodeKey)) → g.nodes.slots ≡ [] → g.pipes.slots ≡ [] → IsLinked g → keys ≡ [] → IsUnderway shape order 0 g keys
starts shape order g keys nodes pipes linked none =
    record {
      linked = linked;
      nodes = (let P : List FlowNode → Type 0 = λ ns. AllZip (IsMadeIn shape) [] ns in subst P (sym (ap graph_nodes nodes)) tt);
      origins = ap origins_of nodes;
      wires = ap wires_of pipes;
      keyed = (let P : List (Option GraphNodeKey) → Type 0 = λ ks. IsKeyed [] ks in subst P (sym none) none-placed);
    }
