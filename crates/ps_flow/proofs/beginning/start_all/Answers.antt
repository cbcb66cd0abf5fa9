-- One node more, and in the end all.
use Rattle.std.proofs.Common.{◌≡◌, ◌∙◌, ◌<◌, arith, ap, length, refl, subst}
use Rattle.ps_flow.proofs.Begun.{next_started, none_started, still_there}
use Rattle.ps_flow.proofs.beginning.start_all.Goals as goal
use Rattle.ps_flow.specs.Openings.{AreStarted}
use Rattle.ps_graph.proofs.Places.{count_there}
use Rattle.ps_graph.specs.declared.key.GraphNodeKey.{GraphNodeKey}

pub loop-number-init : goal.loop-number-init
loop-number-init g c = record { nodes = none_started g.N.RunNode.Has g.N.RunNode.IsNew c.args.options.now c.args.graph.now.nodes.slots; pipes = refl }

pub overflow_cast-number : goal.overflow_cast-number
overflow_cast-number g c =
    let count = c.len-number-end.ensures.count ∙ count_there c.args.graph.now.nodes.slots c.requires.linked.nodes_there in
    let few = c.requires.linked.few_nodes in
    let test = c.loop-number-test.true in
    omega (arith, count, few, test)

pub loop-number-preserved : goal.loop-number-preserved
loop-number-preserved g c =
    let old = c.args.graph.now.nodes.slots in
    let there = c.requires.linked.nodes_there in
    let count = c.len-number-end.ensures.count ∙ count_there old there in
    let test = c.loop-number-test.true in
    let inside : c.loop-number.number < length old = omega (arith, count, test) in
    let key = ap (λ (k : GraphNodeKey). k.0) c.from_number-key.ensures in
    let x = still_there g.N.RunNode.Has g.N.RunNode.IsNew c.args.options.now c.loop-number.number c.from_number-key.result.0 old c.loop-number.graph.nodes.slots key inside there c.loop-number.invariant.nodes in
    let told = rw x.1 at c.start_one.ensures in
    record {
      nodes = next_started g.N.RunNode.Has g.N.RunNode.IsNew c.args.options.now c.loop-number.number c.from_number-key.result.0 old c.loop-number.graph.nodes.slots c.start_one.new.nodes.slots x.0 key x.1 c.loop-number.invariant.nodes told;
      pipes = c.loop-number.invariant.pipes;
    }

pub returns-clause-nodes : goal.returns-clause-nodes
returns-clause-nodes g c =
    let old = c.args.graph.now.nodes.slots in
    let count = c.len-number-end.ensures.count ∙ count_there old c.requires.linked.nodes_there in
    let over = c.loop-number-test.false in
    let within = c.loop-number.auto.number-end in
    let all : c.loop-number.number ≡ length old = omega (arith, count, over, within) in
    subst (λ k. AreStarted g.N.RunNode.Has g.N.RunNode.IsNew c.args.options.now k old c.loop-number.graph.nodes.slots) all c.loop-number.invariant.nodes
