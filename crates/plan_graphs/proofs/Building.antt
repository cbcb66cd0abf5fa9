-- One node more is put into a graph.
use Rattle.std.proofs.Common.{◌≡◌, ℕ, ◌+◌, ◌^◌, ◌<◌, ◌≤◌, List, [], ◌∷◌, ◌++◌, Option, Some, length, take, ap, sym, subst, ◌∙◌, arith}
use Rattle.std.specs.Prelude.{All, map, slice_get}
use Rattle.std.specs.List.{AllByRecursion, AllZip}
use Rattle.std.proofs.lemmas.List.Elements.{All-from_recursion}
use Rattle.keyed_slots.specs.Slots.{value_at}
use Rattle.pu_base.specs.declared.arena.Node.{Node}
use Rattle.ps_frame.specs.Trees.{Tree}
use Rattle.ps_meaning.specs.Shape.{PhysicalNode, Shape}
use Rattle.ps_graph.proofs.Places.{length_there}
use Rattle.ps_graph.specs.Adding.{fresh_wires}
use Rattle.ps_graph.specs.Shown.{IsLinked, nodes_of as graph_nodes, values, wire_of, wires_of}
use Rattle.ps_graph.specs.Turning.{origins_of}
use Rattle.ps_graph.specs.declared.graph.Graph.{Graph}
use Rattle.ps_graph.specs.declared.graph.GraphNode.{GraphNode}
use Rattle.ps_graph.specs.declared.key.GraphNodeKey.{GraphNodeKey}
use Rattle.ps_nodes.specs.declared.flow.FlowNode.{FlowNode}
use Rattle.ps_phys.specs.Shown.{inputs_of, kind_of, physical_node}
use Rattle.ps_phys.specs.Underway.{numbers_in}
use Rattle.ps_phys.specs.Walks.{renumbered, renumbered_input}
use Rattle.ps_phys.specs.declared.phys.PhysNode.{PhysNode}
use Rattle.ps_phys.specs.declared.phys.PhysNodeKey.{PhysNodeKey}
use Rattle.graph_parts.specs.Keyed.{IsKeyed, port_of}
use Rattle.plan_graphs.specs.Made.{IsMadeOf}
use Rattle.graph_parts.specs.Read.{schemas_read}
use Rattle.graph_parts.specs.Orders.{IsSoundOrder, ordered}
use Rattle.plan_graphs.specs.Underway.{IsUnderway}
use Rattle.plan_graphs.specs.Wiring.{IsMadeIn}
use Rattle.graph_parts.specs.Wires.{origins_in, wires_from, wires_to}
use Rattle.graph_parts.proofs.PortKeys.{ports-there, ports-wired}
use Rattle.graph_parts.proofs.Lists.{map-length, take-count, take-one, within, zip-count, zip-more}
use Rattle.graph_parts.proofs.Ordered.{earlier, map-at, node-stands, numbers-count, schemas-same}
use Rattle.graph_parts.proofs.Wiring.{inputs-room, origins-more, wires-count, wires-more}

module _ (f : Node → Tree) (slots : List (Option PhysNode)) (ks : List PhysNodeKey) (k : ℕ) (key : PhysNodeKey) (p : PhysNode) (g : Graph FlowNode) (keys : List (Option GraphNodeKey)) (sound : IsSoundOrder f slots ks) (l : k < length ks)
    (at : slice_get ks k ≡ Some key) (there : value_at slots key.0 ≡ Some p) (before : IsUnderway (ordered f slots ks) (numbers_in ks) k g keys)
  where
    abbrev shape : Shape
    shape = ordered f slots ks

    abbrev node : PhysicalNode
    node = renumbered (numbers_in ks) (physical_node f p)

    stands : slice_get shape k ≡ Some node
    stands = node-stands f slots ks k key p at there

    are-earlier : AllByRecursion (λ (i : ℕ × ℕ). i.0 < k) (map (renumbered_input (numbers_in ks)) (inputs_of p.kind))
    are-earlier = earlier f slots ks sound.functions sound.sound k key p l at there

    few-numbers : k ≤ length (numbers_in ks)
    few-numbers = let count = numbers-count ks in omega (arith, count, l)

    -- so many nodes are in the graph
    pub node-count : length g.nodes.slots ≡ k
    node-count =
        let there' = length_there g.nodes.slots before.linked.nodes_there in
        let computes = map-length (λ (n : GraphNode FlowNode). n.compute) (values g.nodes.slots) in
        let zipped = zip-count (IsMadeIn shape) (take k shape) (graph_nodes g.nodes.slots) before.nodes in
        let taken = take-count shape k (let inside = within shape k node stands in omega (arith, inside)) in
        omega (arith, there', computes, zipped, taken)

    pub pipe-room : (inputs : List (GraphNodeKey × ℕ)) (other : GraphNodeKey) → inputs ≡ map (port_of other keys) (inputs_of p.kind) → length g.pipes.slots + length inputs < 2 ^ 32
    pipe-room inputs other e =
        let there' = length_there g.pipes.slots before.linked.pipes_there in
        let wires = sym (map-length wire_of (values g.pipes.slots)) ∙ ap length before.wires ∙ wires-count 0 (take k shape) in
        let ports = ap length e ∙ map-length (port_of other keys) (inputs_of p.kind) in
        let inputs' = map-length (renumbered_input (numbers_in ks)) (inputs_of p.kind) in
        let room = inputs-room shape k node stands in
        let few = sound.few_inputs in
        omega (arith, there', wires, ports, inputs', room, few)

    pub senders : (inputs : List (GraphNodeKey × ℕ)) (other : GraphNodeKey) → inputs ≡ map (port_of other keys) (inputs_of p.kind) → All (λ (i : GraphNodeKey × ℕ). i.0.0 < length g.nodes.slots) inputs
    senders inputs other e =
        let P : List (GraphNodeKey × ℕ) → Type 0 = λ is. All (λ (i : GraphNodeKey × ℕ). i.0.0 < length g.nodes.slots) is in
        subst P (sym e)
        (All-from_recursion (λ (i : GraphNodeKey × ℕ). i.0.0 < length g.nodes.slots) (map (port_of other keys) (inputs_of p.kind))
        (ports-there (numbers_in ks) k keys other few-numbers before.keyed (length g.nodes.slots) node-count (inputs_of p.kind) are-earlier))

    pub next-underway : (g' : Graph FlowNode) (keys' : List (Option GraphNodeKey)) (n : FlowNode) (number other : GraphNodeKey) (inputs : List (GraphNodeKey × ℕ)) → inputs ≡ map (port_of other keys) (inputs_of p.kind)
        → IsMadeOf (kind_of f p.kind) p.output_schema (schemas_read slots (inputs_of p.kind)) n → number.0 ≡ length g.nodes.slots → graph_nodes g'.nodes.slots ≡ graph_nodes g.nodes.slots ++ n ∷ [] → origins_of g'.nodes.slots ≡ origins_of g.nodes.slots ++ p.origin ∷ []
        → wires_of g'.pipes.slots ≡ wires_of g.pipes.slots ++ fresh_wires (length g.nodes.slots) 0 inputs → IsLinked g' → ((earlier : List ℕ) → number.0 ≡ length earlier → IsKeyed earlier keys → IsKeyed (earlier ++ key.0 ∷ []) keys')
        → IsUnderway shape (numbers_in ks) (k + 1) g' keys'
    next-underway g' keys' n number other inputs ports made numbered nodes origins wires linked noted =
        record {
          linked = linked;
          nodes = subst NodesIn (sym (take-one shape k node stands)) (subst (AllZip (IsMadeIn shape) (take k shape ++ node ∷ [])) (sym nodes) (zip-more (IsMadeIn shape) (take k shape) (graph_nodes g.nodes.slots) node n before.nodes made-in));
          origins = origins ∙ ap (λ os. os ++ p.origin ∷ []) before.origins ∙ sym (ap origins_in (take-one shape k node stands) ∙ origins-more (take k shape) node);
          wires = all-wires;
          keyed = subst KeyedBy (sym (take-one (numbers_in ks) k key.0 number-at)) (noted (take k (numbers_in ks)) (numbered ∙ node-count ∙ sym (take-count (numbers_in ks) k few-numbers)) before.keyed);
        }
      where
        NodesIn : Shape → Type 0
        NodesIn ps = AllZip (IsMadeIn shape) ps (graph_nodes g'.nodes.slots)

        KeyedBy : List ℕ → Type 0
        KeyedBy ns = IsKeyed ns keys'

        made-in : IsMadeIn shape node n
        made-in = subst (λ ss. IsMadeOf (kind_of f p.kind) p.output_schema ss n) (sym (schemas-same f slots ks sound.functions sound.sound k key p l at there)) made

        number-at : slice_get (numbers_in ks) k ≡ Some key.0
        number-at = map-at (λ (x : PhysNodeKey). x.0) ks k key at

        fresh : fresh_wires (length g.nodes.slots) 0 inputs ≡ wires_to k 0 node.inputs
        fresh = ap (fresh_wires (length g.nodes.slots) 0) ports ∙ ap (λ r. fresh_wires r 0 (map (port_of other keys) (inputs_of p.kind))) node-count ∙ ports-wired (numbers_in ks) k keys other few-numbers before.keyed k 0 (inputs_of p.kind) are-earlier

        place : k ≡ 0 + length (take k shape)
        place = let taken = take-count shape k (let inside = within shape k node stands in omega (arith, inside)) in omega (arith, taken)

        all-wires : wires_of g'.pipes.slots ≡ wires_from 0 (take (k + 1) shape)
        all-wires =
            wires ∙ (λ i. before.wires i ++ fresh i) ∙ ap (λ r. wires_from 0 (take k shape) ++ wires_to r 0 node.inputs) place ∙ sym (ap (wires_from 0) (take-one shape k node stands) ∙ wires-more 0 (take k shape) node)
