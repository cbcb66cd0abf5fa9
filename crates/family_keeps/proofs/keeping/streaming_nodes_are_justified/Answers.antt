use Rattle.family_keeps.proofs.Served.{node_justified}
use Rattle.family_keeps.proofs.keeping.streaming_nodes_are_justified.Goals as goal

pub returns : goal.returns
returns c = λ F shape o w n p sound r there is. node_justified F shape o w sound r n p there is
