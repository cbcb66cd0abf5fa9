-- A chain with a node that reads its last one is a chain.
use Rattle.std.proofs.Common.{◌+◌, length, [], ◌∷◌, ◌++◌, ap, ◌∙◌, arith}
use Rattle.graph_trials.specs.Chains.{kinds_of}
use Rattle.graph_trials.specs.declared.kind.Kind.{Kind}
use Rattle.graph_trials.proofs.Chaining.{chain_more, kinds_more, one_sender, pipes_more}
use Rattle.graph_trials.proofs.settling.extend.Goals as goal

pub add_node-requires-clause-linked : goal.add_node-requires-clause-linked
add_node-requires-clause-linked c = c.requires.chain.linked

pub add_node-requires-clause-senders : goal.add_node-requires-clause-senders
add_node-requires-clause-senders c = let count = c.requires.chain.count in let last = c.requires.last in one_sender c.args.last 0 (length c.args.graph.now.nodes.slots) (omega (arith, count, last))

pub add_node-requires-clause-nodes : goal.add_node-requires-clause-nodes
add_node-requires-clause-nodes c = let count = c.requires.chain.count in let room = c.requires.room in omega (arith, count, room)

pub add_node-requires-clause-pipes : goal.add_node-requires-clause-pipes
add_node-requires-clause-pipes c = let room = c.requires.room in omega (arith, room)

pub returns-clause-chain : goal.returns-clause-chain
returns-clause-chain c =
    chain_more c.args.graph.now c.add_node.new.self c.requires.chain c.in_ok-add_node.ensures.linked c.args.last.0 c.requires.last c.new-node.result c.in_ok-add_node.ensures.nodes c.in_ok-add_node.ensures.wires

pub returns-clause-pipes : goal.returns-clause-pipes
returns-clause-pipes c =
    let more = pipes_more c.args.graph.now c.add_node.new.self c.requires.chain c.in_ok-add_node.ensures.linked c.args.last.0 c.requires.last c.new-node.result c.in_ok-add_node.ensures.nodes c.in_ok-add_node.ensures.wires in
    omega (arith, more)

pub returns-clause-kinds : goal.returns-clause-kinds
returns-clause-kinds c =
    kinds_more c.args.graph.now c.add_node.new.self c.requires.chain c.in_ok-add_node.ensures.linked c.args.last.0 c.requires.last c.new-node.result c.in_ok-add_node.ensures.nodes c.in_ok-add_node.ensures.wires
    ∙ ap (λ (k : Kind). kinds_of c.args.graph.now ++ k ∷ []) c.new-node.ensures
