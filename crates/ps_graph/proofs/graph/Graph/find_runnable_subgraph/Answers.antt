-- The flags are those of the phase, so the pipes that lead to what is flagged are its pipes.
use Rattle.std.proofs.Common.{Bool, List, ap, ◌∙◌}
use Rattle.ps_graph.specs.Running.{feeds_flagged}
use Rattle.ps_graph.specs.Shown.{places_from, values, wire_of}
use Rattle.ps_graph.proofs.Scanning.{pipes_found}
use Rattle.ps_graph.proofs.graph.Graph.find_runnable_subgraph.Goals as goal

pub returns-clause-pipes : goal.returns-clause-pipes
returns-clause-pipes g c =
    c.in_ok-pipes.ensures.keys ∙ ap (λ (l : List Bool). places_from 0 (λ p. feeds_flagged l (wire_of p)) (values c.args.self.now.pipes.slots)) c.as_slice-2.ensures.value
    ∙ pipes_found g.N.ComputeNode.intensive c.args.self.now c.requires c.in_ok-flags.flags.items c.in_ok-flags.ensures.flagged
