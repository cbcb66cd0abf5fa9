-- One node alone is a chain.
use Rattle.std.proofs.Common.{[], ◌∷◌, ap, ◌∙◌}
use Rattle.graph_trials.specs.declared.kind.Kind.{Kind}
use Rattle.graph_trials.proofs.Chaining.{chain_first, first_pipes, kinds_first}
use Rattle.graph_trials.proofs.settling.source.Goals as goal

pub returns-clause-chain : goal.returns-clause-chain
returns-clause-chain c =
    chain_first c.in_ok-graph.graph c.add_node.new.self c.in_ok-graph.ensures.nodes c.in_ok-graph.ensures.pipes c.in_ok-add_node.ensures.linked c.new-node.result c.in_ok-add_node.ensures.nodes c.in_ok-add_node.ensures.wires

pub returns-clause-pipes : goal.returns-clause-pipes
returns-clause-pipes c =
    first_pipes c.in_ok-graph.graph c.add_node.new.self c.in_ok-graph.ensures.nodes c.in_ok-graph.ensures.pipes c.in_ok-add_node.ensures.linked c.new-node.result c.in_ok-add_node.ensures.nodes c.in_ok-add_node.ensures.wires

pub returns-clause-kinds : goal.returns-clause-kinds
returns-clause-kinds c =
    kinds_first c.in_ok-graph.graph c.add_node.new.self c.in_ok-graph.ensures.nodes c.in_ok-graph.ensures.pipes c.in_ok-add_node.ensures.linked c.new-node.result c.in_ok-add_node.ensures.nodes c.in_ok-add_node.ensures.wires
    ∙ ap (λ (k : Kind). k ∷ []) c.new-node.ensures
