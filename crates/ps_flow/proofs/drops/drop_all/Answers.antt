-- One node fewer is left.
use Rattle.std.proofs.Common.{arith}
use Rattle.ps_flow.proofs.Dropping.{sweeps_all, sweeps_done, sweeps_on}
use Rattle.ps_flow.proofs.drops.drop_all.Goals as goal

pub loop-node-init : goal.loop-node-init
loop-node-init g c = sweeps_all c.args.graph.now c.args.pipes.now _ c.inserts-node.ensures

pub overflow_cast-node : goal.overflow_cast-node
overflow_cast-node g c =
    let count = c.inserts-node.ensures in
    let few = c.requires.linked.few_nodes in
    let within = c.loop-node.auto.node in
    omega (arith, count, few, within)

pub loop-node-preserved : goal.loop-node-preserved
loop-node-preserved g c =
    let count = c.inserts-node.ensures in
    let within = c.loop-node.auto.node in
    let test = c.loop-node-test.true in
    sweeps_on c.args.graph.now c.requires.linked c.args.pipes.now c.loop-node.pipes c.drop_node.new.pipes c.loop-node.node (omega (arith, count, within)) (omega (arith, test)) c.loop-node.invariant c.drop_node.ensures

pub returns : goal.returns
returns g c =
    let over = c.loop-node-test.false in
    sweeps_done c.args.graph.now c.args.pipes.now c.loop-node.pipes c.loop-node.node (omega (arith, over)) c.loop-node.invariant
