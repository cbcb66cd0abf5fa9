use Rattle.run_promises.proofs.EachNode.{every_holds}
use Rattle.run_promises.proofs.promised.every_node_holds.Goals as goal

pub returns : goal.returns
returns c = λ F shape o w n sound r. every_holds F shape o w n sound r
