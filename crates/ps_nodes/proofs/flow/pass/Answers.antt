-- It answers by passing.
use Rattle.node_states.specs.Views.{sides_of}
use Rattle.ps_nodes.proofs.Updated.{passing_update}
use Rattle.ps_nodes.proofs.flow.pass.Goals as goal

pub returns : goal.returns
returns c = passing_update c.args._node.now (sides_of c.args.recv.now c.args.send.now) _ c.requires.passing c.requires.input c.requires.output c.answer.ensures
