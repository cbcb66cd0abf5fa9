use Rattle.family_keeps.proofs.Served.{node_holds}
use Rattle.family_keeps.proofs.keeping.streaming_nodes_hold.Goals as goal

pub returns : goal.returns
returns c = λ F shape o w n p sound r there is. node_holds F shape o w sound r n p there is
