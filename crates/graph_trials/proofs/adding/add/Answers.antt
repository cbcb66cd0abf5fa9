use Rattle.std.proofs.Common.{◌≡◌, ◌∙◌, length, arith}
use Rattle.ps_graph.proofs.Places.{count_there}
use Rattle.graph_trials.proofs.adding.add.Goals as goal

pub add_node-requires-clause-pipes : goal.add_node-requires-clause-pipes
add_node-requires-clause-pipes g c =
    let count : c.len.result ≡ length c.args.graph.now.pipes.slots = c.len.ensures.count ∙ count_there _ c.requires.pipes_there in
    omega (arith, count, c.if-len-ge1000.false, c.if-inputs-ge1000.false)
