-- All slots have a node.
use Rattle.std.proofs.Common.{◌∙◌}
use Rattle.ps_graph.proofs.Places.{count_there}
use Rattle.ps_graph.proofs.graph.Graph.count.Goals as goal

pub returns : goal.returns
returns g c = c.len.ensures.count ∙ count_there c.args.self.now.nodes.slots c.requires.there
