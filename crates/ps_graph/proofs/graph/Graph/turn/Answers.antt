-- A turn: the node's update over what its pipes tell, and its answer told to them.
use Rattle.std.proofs.Common.{◌≡◌, Some, length, sym, ap, ◌∙◌, rules, refl}
use Rattle.keyed_slots.specs.Slots.{value_at}
use Rattle.ps_graph.specs.Marking.{is_marked}
use Rattle.ps_graph.specs.Turning.{sides_of}
use Rattle.ps_graph.proofs.Turned.{long_in, long_out, node_then, turn_can, turn_fails, turn_made, turn_origins}
use Rattle.ps_graph.proofs.graph.Graph.turn.Goals as goal

pub returns-in-Err-clause-fault : goal.returns-in-Err-clause-fault
returns-in-Err-clause-fault g c =
    let laws = g.met.N.ComputeNode g.world.𝓛 g.world.𝓜 g.world.𝓡 ((λ s x. x), (λ x. x), (λ x. x), λ x. x) in
    let stands : value_at c.args.self.now.nodes.slots c.args.number ≡ Some c.in-Some.node.now = search rules in
    let here : value_at c.args.self.now.nodes.slots c.from_number-key.result.0 ≡ Some c.in-Some.node.now = search rules in
    let fails = rw here at c.in-Err.ensures.fault in
    turn_fails g.N.ComputeNode.HasPorts g.N.ComputeNode.stages g.N.ComputeNode.Update g.N.ComputeNode.Faults laws.laws laws.ports_stay c.args.self.now c.requires.can c.args.number c.in-Some.node.now stands
    (sides_of c.in_ok-ends.ends) c.in_ok-ends.ensures.given c.in-Err.error fails

pub tell_node-requires-clause-inputs : goal.tell_node-requires-clause-inputs
tell_node-requires-clause-inputs g c =
    let laws = g.met.N.ComputeNode g.world.𝓛 g.world.𝓜 g.world.𝓡 ((λ s x. x), (λ x. x), (λ x. x), λ x. x) in
    let stands : value_at c.args.self.now.nodes.slots c.args.number ≡ Some c.in-Some.node.now = search rules in
    let here : value_at c.args.self.now.nodes.slots c.from_number-key.result.0 ≡ Some c.in-Some.node.now = search rules in
    let key : c.from_number-key.result.0 ≡ c.args.number = search rules in
    let u = rw here at c.in-Ok.ensures.updated in
    let at : value_at c.update_one.new.nodes.slots c.args.number ≡ Some c.in-Some-get.node.now = search rules in
    let keys = (node_then g.N.ComputeNode.HasPorts g.N.ComputeNode.stages g.N.ComputeNode.Update g.N.ComputeNode.Faults laws.laws laws.ports_stay c.args.self.now c.requires.can c.args.number c.in-Some.node.now stands
    (sides_of c.in_ok-ends.ends) c.in_ok-ends.ensures.given c.update_one.new.nodes.slots (sides_of c.update_one.new.ends) c.in-Ok.changed c.from_number-key.result.0 key u c.in-Some-get.node.now at).0 in
    long_in g.N.ComputeNode.HasPorts g.N.ComputeNode.stages g.N.ComputeNode.Update g.N.ComputeNode.Faults laws.laws laws.ports_stay c.args.self.now c.requires.can c.args.number c.in-Some.node.now stands
    (sides_of c.in_ok-ends.ends) c.in_ok-ends.ensures.given c.update_one.new.nodes.slots (sides_of c.update_one.new.ends) c.in-Ok.changed c.from_number-key.result.0 key u ∙ sym (ap (λ z. length z.items) keys) ∙ sym (ap length c.as_slice-3.ensures.value)

pub tell_node-requires-clause-outputs : goal.tell_node-requires-clause-outputs
tell_node-requires-clause-outputs g c =
    let laws = g.met.N.ComputeNode g.world.𝓛 g.world.𝓜 g.world.𝓡 ((λ s x. x), (λ x. x), (λ x. x), λ x. x) in
    let stands : value_at c.args.self.now.nodes.slots c.args.number ≡ Some c.in-Some.node.now = search rules in
    let here : value_at c.args.self.now.nodes.slots c.from_number-key.result.0 ≡ Some c.in-Some.node.now = search rules in
    let key : c.from_number-key.result.0 ≡ c.args.number = search rules in
    let u = rw here at c.in-Ok.ensures.updated in
    let at : value_at c.update_one.new.nodes.slots c.args.number ≡ Some c.in-Some-get.node.now = search rules in
    let keys = (node_then g.N.ComputeNode.HasPorts g.N.ComputeNode.stages g.N.ComputeNode.Update g.N.ComputeNode.Faults laws.laws laws.ports_stay c.args.self.now c.requires.can c.args.number c.in-Some.node.now stands
    (sides_of c.in_ok-ends.ends) c.in_ok-ends.ensures.given c.update_one.new.nodes.slots (sides_of c.update_one.new.ends) c.in-Ok.changed c.from_number-key.result.0 key u c.in-Some-get.node.now at).1 in
    long_out g.N.ComputeNode.HasPorts g.N.ComputeNode.stages g.N.ComputeNode.Update g.N.ComputeNode.Faults laws.laws laws.ports_stay c.args.self.now c.requires.can c.args.number c.in-Some.node.now stands
    (sides_of c.in_ok-ends.ends) c.in_ok-ends.ensures.given c.update_one.new.nodes.slots (sides_of c.update_one.new.ends) c.in-Ok.changed c.from_number-key.result.0 key u ∙ sym (ap (λ z. length z.items) keys) ∙ sym (ap length c.as_slice-4.ensures.value)

pub returns-clause-turned : goal.returns-clause-turned
returns-clause-turned g c =
    let laws = g.met.N.ComputeNode g.world.𝓛 g.world.𝓜 g.world.𝓡 ((λ s x. x), (λ x. x), (λ x. x), λ x. x) in
    let stands : value_at c.args.self.now.nodes.slots c.args.number ≡ Some c.in-Some.node.now = search rules in
    let here : value_at c.args.self.now.nodes.slots c.from_number-key.result.0 ≡ Some c.in-Some.node.now = search rules in
    let key : c.from_number-key.result.0 ≡ c.args.number = search rules in
    let u = rw here at c.in-Ok.ensures.updated in
    turn_made g.N.ComputeNode.HasPorts g.N.ComputeNode.stages g.N.ComputeNode.Update g.N.ComputeNode.Faults laws.laws laws.ports_stay c.args.self.now c.requires.can c.args.number c.in-Some.node.now stands
    (sides_of c.in_ok-ends.ends) c.in_ok-ends.ensures.given c.update_one.new.nodes.slots (sides_of c.update_one.new.ends) c.in-Ok.changed c.from_number-key.result.0 key u (record { nodes = c.update_one.new.nodes; pipes = c.tell_node.new.pipes }) refl c.in_ok-tell_node.ensures.joins c.in_ok-tell_node.ensures.written
    (is_marked c.args.readers.now) (is_marked c.tell_node.new.readers) (is_marked c.args.senders.now) (is_marked c.tell_node.new.senders) c.in_ok-tell_node.ensures.readers c.in_ok-tell_node.ensures.senders

pub returns-clause-can : goal.returns-clause-can
returns-clause-can g c =
    let laws = g.met.N.ComputeNode g.world.𝓛 g.world.𝓜 g.world.𝓡 ((λ s x. x), (λ x. x), (λ x. x), λ x. x) in
    let stands : value_at c.args.self.now.nodes.slots c.args.number ≡ Some c.in-Some.node.now = search rules in
    let here : value_at c.args.self.now.nodes.slots c.from_number-key.result.0 ≡ Some c.in-Some.node.now = search rules in
    let key : c.from_number-key.result.0 ≡ c.args.number = search rules in
    let u = rw here at c.in-Ok.ensures.updated in
    turn_can g.N.ComputeNode.HasPorts g.N.ComputeNode.stages g.N.ComputeNode.Update g.N.ComputeNode.Faults laws.laws laws.ports_stay c.args.self.now c.requires.can c.args.number c.in-Some.node.now stands
    (sides_of c.in_ok-ends.ends) c.in_ok-ends.ensures.given c.update_one.new.nodes.slots (sides_of c.update_one.new.ends) c.in-Ok.changed c.from_number-key.result.0 key u (record { nodes = c.update_one.new.nodes; pipes = c.tell_node.new.pipes }) refl c.in_ok-tell_node.ensures.joins c.in_ok-tell_node.ensures.written

pub returns-clause-origins : goal.returns-clause-origins
returns-clause-origins g c =
    let laws = g.met.N.ComputeNode g.world.𝓛 g.world.𝓜 g.world.𝓡 ((λ s x. x), (λ x. x), (λ x. x), λ x. x) in
    let stands : value_at c.args.self.now.nodes.slots c.args.number ≡ Some c.in-Some.node.now = search rules in
    let here : value_at c.args.self.now.nodes.slots c.from_number-key.result.0 ≡ Some c.in-Some.node.now = search rules in
    let key : c.from_number-key.result.0 ≡ c.args.number = search rules in
    let u = rw here at c.in-Ok.ensures.updated in
    turn_origins g.N.ComputeNode.HasPorts g.N.ComputeNode.stages g.N.ComputeNode.Update g.N.ComputeNode.Faults laws.laws laws.ports_stay c.args.self.now c.requires.can c.args.number c.in-Some.node.now stands
    (sides_of c.in_ok-ends.ends) c.in_ok-ends.ensures.given c.update_one.new.nodes.slots (sides_of c.update_one.new.ends) c.in-Ok.changed c.from_number-key.result.0 key u (record { nodes = c.update_one.new.nodes; pipes = c.tell_node.new.pipes }) refl c.in_ok-tell_node.ensures.joins c.in_ok-tell_node.ensures.written
