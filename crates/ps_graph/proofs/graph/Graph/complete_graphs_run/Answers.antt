-- The law, of this graph.
use Rattle.ps_graph.proofs.Completing.{complete_runs}
use Rattle.ps_graph.proofs.graph.Graph.complete_graphs_run.Goals as goal

pub returns : goal.returns
returns g c = complete_runs g.N.ComputeNode.HasPorts c.args.self.now c.requires.linked c.requires.complete
