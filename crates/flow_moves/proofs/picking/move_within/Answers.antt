-- Those from a place on, and those before it.
use Rattle.std.proofs.Common.{arith}
use Rattle.flow_moves.proofs.Parts.{few_nodes, nodes_many}
use Rattle.flow_moves.proofs.Whole.{from_both, none_on}
use Rattle.flow_moves.proofs.picking.move_within.Goals as goal

pub overflow_cast-count : goal.overflow_cast-count
overflow_cast-count g c =
    let count = c.inserts-count.ensures in
    let few = few_nodes c.args.world.now c.graph.result.now c.graph.ensures c.requires.linked in
    omega (arith, count, few)

pub returns-in-None-clause-none : goal.returns-in-None-clause-none
returns-in-None-clause-none g c =
    let h = c.args.world.now in
    none_on c.move_among-in-None.result
    (λ before. λ F w n stands may open_phase runs.
    let count = c.inserts-count.ensures in
    let many = nodes_many g.N.RunNode.Has w h stands c.graph.result.now c.graph.ensures in
    from_both F w c.min-start.result c.inserts-count.result (omega (arith, count, many))
    (λ m low high. c.in-None.ensures.none F w m stands may open_phase runs low high)
    (λ m high. before F w m stands may open_phase runs (omega arith) high)
    n)
    c.move_among-in-None.ensures.none
