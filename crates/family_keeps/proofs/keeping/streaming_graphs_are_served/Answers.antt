use Rattle.family_keeps.proofs.Served.{served}
use Rattle.family_keeps.proofs.keeping.streaming_graphs_are_served.Goals as goal

pub returns : goal.returns
returns c = λ F shape o w sound streams r. served F shape o w sound r streams
