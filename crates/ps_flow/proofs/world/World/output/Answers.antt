-- The table of the one sink.
use Rattle.std.proofs.Common.{◌≡◌, ◌∙◌, None, Some, inl, inr, arith, ap, refl, rules, sym}
use Rattle.std.proofs.lemmas.Bool.{cases_eq}
use Rattle.keyed_slots.specs.Slots.{value_at}
use Rattle.ps_flow.proofs.Sinks.{inside_graph, no_sink, node_of, sink_table, seen_slot}
use Rattle.ps_flow.proofs.world.World.output.Goals as goal
use Rattle.ps_graph.proofs.Places.{count_there}
use Rattle.ps_graph.specs.declared.key.GraphNodeKey.{GraphNodeKey}

pub loop-number-init : goal.loop-number-init
loop-number-init g c = record { others = λ k h. refl; none = λ w k x stands h at. absurd (omega (arith, h)) }

pub overflow_cast-number : goal.overflow_cast-number
overflow_cast-number g c =
    let linked = c.requires.sink.3.linked in
    let count = c.len-number-end.ensures.count ∙ count_there c.args.self.now.graph.nodes.slots linked.nodes_there in
    let few = linked.few_nodes in
    let test = c.loop-number-test.true in
    omega (arith, count, few, test)

pub loop-number-preserved : goal.loop-number-preserved
loop-number-preserved g c =
    let i = c.loop-number.number in
    let key : c.from_number-key.result.0 ≡ i = ap (λ (k : GraphNodeKey). k.0) c.from_number-key.ensures in
    record {
      others = λ k h. c.table_at.ensures.others k (omega (arith, h, key)) ∙ c.loop-number.invariant.others k (omega (arith, h));
      none = λ w k x stands h at. elim (cases_eq k i) [
        | inl here ↦
            let node = node_of g.N.RunNode.Has w c.args.self.now stands k x at in
            let now : value_at c.loop-number.self.graph.nodes.slots c.from_number-key.result.0 ≡ Some node.0 =
            ap (value_at c.loop-number.self.graph.nodes.slots) (key ∙ sym here) ∙ c.loop-number.invariant.others k (omega (arith, here)) ∙ node.1 in
            let told = rw now at c.in_ok-found.ensures.table in
            let none : c.in_ok-found.found ≡ None = search rules in
            no_sink g.N.RunNode.Has w c.args.self.now stands k node.0 node.1 c.in_ok-found.found told none x at
        | inr other ↦ c.loop-number.invariant.none w k x stands (omega (arith, h, other)) at
      ];
    }

pub unreachable-requires : goal.unreachable-requires
unreachable-requires g c =
    let known = c.requires.sink in
    let linked = known.3.linked in
    let count = c.len-number-end.ensures.count ∙ count_there c.args.self.now.graph.nodes.slots linked.nodes_there in
    let over = c.loop-number-test.false in
    let inside = inside_graph g.N.RunNode.Has known.0 c.args.self.now known.3 known.1 known.2 known.4.there in
    c.loop-number.invariant.none known.0 known.1 known.2 known.3 (omega (arith, count, over, inside)) known.4.there known.4.kind

pub returns-in-Some-clause-table : goal.returns-in-Some-clause-table
returns-in-Some-clause-table g c = λ w n x stands sink.
    let i = c.loop-number.number in
    let key : c.from_number-key.result.0 ≡ i = ap (λ (k : GraphNodeKey). k.0) c.from_number-key.ensures in
    let count = c.len-number-end.ensures.count ∙ count_there c.args.self.now.graph.nodes.slots stands.linked.nodes_there in
    let test = c.loop-number-test.true in
    let node = seen_slot g.N.RunNode.Has w c.args.self.now stands i (omega (arith, count, test)) in
    let now : value_at c.loop-number.self.graph.nodes.slots c.from_number-key.result.0 ≡ Some node.0 = ap (value_at c.loop-number.self.graph.nodes.slots) key ∙ c.loop-number.invariant.others i (omega arith) ∙ node.1 in
    let told = rw now at c.in_ok-found.ensures.table in
    sink_table g.N.RunNode.Has w c.args.self.now stands i node.0 node.1 c.in_ok-found.found told c.in-Some.table c.in-Some.is n x sink
