-- A turn of a node, put together: what was given, the update, and what was told.
use Rattle.std.proofs.Common.{◌≡◌, ℕ, Bool, List, length, Option, Some, sym, ap, subst, ◌∙◌}
use Rattle.std.specs.Prelude.{slice_set}
use Rattle.keyed_slots.specs.Slots.{value_at}
use Rattle.ps_frame.specs.declared.refusal.PolarsError.{PolarsError}
use Rattle.ps_ports.specs.Ports.{Sides}
use Rattle.ps_ports.specs.UpdateLaws.{KeepsUpdateLaws, update_limit}
use Rattle.ps_ports.specs.Wires.{Wire, given_to, wires_in, wires_out, written}
use Rattle.ps_settle.specs.Sweeps.{TellsReaders, TellsSenders, Turned}
use Rattle.ps_settle.proofs.Members.{length_map}
use Rattle.ps_graph.specs.declared.graph.Graph.{Graph}
use Rattle.ps_graph.specs.declared.graph.GraphNode.{GraphNode}
use Rattle.ps_graph.specs.Linked.{JoinAlike}
use Rattle.ps_graph.specs.Shown.{CanRun, nodes_of, standing_of, wire_of, wires_of}
use Rattle.ps_graph.specs.Turning.{MayFail, NodeFails, NodeTurned, origins_of}
use Rattle.ps_graph.proofs.Failing.{fails_now}
use Rattle.ps_graph.proofs.Places.{length_there}
use Rattle.ps_graph.proofs.Reading.{length_inputs, length_outputs}
use Rattle.ps_graph.proofs.Telling.{value_set}
use Rattle.ps_graph.proofs.Turning.{can_next, keys_of, node_stands, origin_stands, origins_next, stands_next}

-- as many nodes as slots
pub nodes_long : {N : Type 0} (HasPorts : N → ℕ → ℕ → Type 0) (g : Graph N) → CanRun HasPorts g → length (nodes_of g.nodes.slots) ≡ length g.nodes.slots
nodes_long HasPorts g can = length_map (λ (n : GraphNode _). n.compute) _ ∙ length_there g.nodes.slots can.linked.nodes_there

-- as many wires as slots
pub pipes_long : {N : Type 0} (HasPorts : N → ℕ → ℕ → Type 0) (g : Graph N) → CanRun HasPorts g → length (wires_of g.pipes.slots) ≡ length g.pipes.slots
pipes_long HasPorts g can = length_map wire_of _ ∙ length_there g.pipes.slots can.linked.pipes_there

pub limit_slots : {N : Type 0} (HasPorts : N → ℕ → ℕ → Type 0) (g : Graph N) → CanRun HasPorts g
    → update_limit (length (nodes_of g.nodes.slots)) (length (wires_of g.pipes.slots)) ≡ update_limit (length g.nodes.slots) (length g.pipes.slots)
limit_slots HasPorts g can = let n = nodes_long HasPorts g can in let p = pipes_long HasPorts g can in λ i. update_limit (n i) (p i)

module _ {N : Type 0} (HasPorts : N → ℕ → ℕ → Type 0) (rank : N → ℕ) (Update : N → Sides → N → Sides → Type 0) (Faults : N → Sides → PolarsError → Type 0) (laws : KeepsUpdateLaws rank Update)
    (stay : (a b : N) (given answer : Sides) (i o : ℕ) → Update a given b answer → HasPorts a i o → HasPorts b i o) (g : Graph N) (can : CanRun HasPorts g) (v : ℕ) (node : GraphNode N) (stands : value_at g.nodes.slots v ≡ Some node)
    (given : Sides) (given_is : given ≡ given_to v (wires_of g.pipes.slots)) where
  -- the error of the update
  pub turn_fails : (e : PolarsError) → NodeFails Faults node given e → MayFail rank Update Faults (standing_of g) (origins_of g.nodes.slots) e
  turn_fails e fails =
      let P : Sides → Type 0 = λ s. NodeFails Faults node s e in
      fails_now rank Update Faults (standing_of g) (origins_of g.nodes.slots) v node e (node_stands HasPorts g can v node stands) (origin_stands HasPorts g can v node stands) (subst P given_is fails)

  module _ (nodes' : List (Option (GraphNode N))) (answer : Sides) (changed : Bool) (k : ℕ) (k_is : k ≡ v) (u : NodeTurned rank Update node k g.nodes.slots nodes' given answer changed) where
    next : nodes' ≡ slice_set g.nodes.slots v (Some (record node { compute = u.after }))
    next = u.next ∙ ap (λ i. slice_set g.nodes.slots i (Some (record node { compute = u.after }))) k_is

    -- the node keeps its keys
    pub node_then : (x : GraphNode N) → value_at nodes' v ≡ Some x → (x.inputs ≡ node.inputs) × (x.outputs ≡ node.outputs)
    node_then x at =
        let here : value_at nodes' v ≡ Some (record node { compute = u.after }) = ap (λ l. value_at l v) next ∙ value_set g.nodes.slots v node (record node { compute = u.after }) stands in
        let is : record node { compute = u.after } ≡ x = (let both : Some (record node { compute = u.after }) ≡ Some x = sym here ∙ at in cc) in
        (sym (ap (λ (z : GraphNode N). z.inputs) is), sym (ap (λ (z : GraphNode N). z.outputs) is))

    pub long_in : length answer.inputs ≡ length node.inputs.items
    long_in =
        (laws.lengths node.compute u.after given answer u.update).0 ∙ ap (λ (s : Sides). length s.inputs) given_is ∙ length_map (λ (w : Wire). w.send_state) (wires_in v (wires_of g.pipes.slots))
        ∙ sym (length_inputs v node.inputs.items node.outputs.items g.pipes.slots (keys_of HasPorts g can v node stands))

    pub long_out : length answer.outputs ≡ length node.outputs.items
    long_out =
        (laws.lengths node.compute u.after given answer u.update).1 ∙ ap (λ (s : Sides). length s.outputs) given_is ∙ length_map (λ (w : Wire). w.receive_state) (wires_out v (wires_of g.pipes.slots))
        ∙ sym (length_outputs v node.inputs.items node.outputs.items g.pipes.slots (keys_of HasPorts g can v node stands))

    module _ (g' : Graph N) (nodes_are : g'.nodes.slots ≡ nodes') (same : JoinAlike g.pipes.slots g'.pipes.slots) (wires : wires_of g'.pipes.slots ≡ written v answer (wires_of g.pipes.slots)) where
      pub turn_can : CanRun HasPorts g'
      turn_can = can_next HasPorts g can v node stands u.after answer g' (nodes_are ∙ next) same wires (λ i o. stay node.compute u.after given answer i o u.update)

      pub turn_origins : origins_of g'.nodes.slots ≡ origins_of g.nodes.slots
      turn_origins = origins_next HasPorts g can v node stands u.after answer g' (nodes_are ∙ next) same wires

      pub turn_made : (m m' s s' : ℕ → Bool) → TellsReaders v answer (wires_of g.pipes.slots) m m' → TellsSenders v answer (wires_of g.pipes.slots) s s' → Turned rank Update (standing_of g) (standing_of g') v m m' s s' changed
      turn_made m m' s s' readers senders =
          let P : Sides → Type 0 = λ x. Update node.compute x u.after answer in
          record {
            before = node.compute;
            after = u.after;
            answer = answer;
            stood = node_stands HasPorts g can v node stands;
            update = subst P given_is u.update;
            next = stands_next HasPorts g can v node stands u.after answer g' (nodes_are ∙ next) same wires;
            stays = u.stays;
            changes = u.changes;
            tells_readers = readers;
            tells_senders = senders;
          }
