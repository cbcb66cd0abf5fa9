use denote.Param.Send.{sendable}
use Rattle.ps_nodes.proofs.flow.FlowNode.TheSendSync.{the_send}
use Rattle.std.proofs.Common.{rules}
use Rattle.flow_trials.proofs.scripts.answers.Goals as goal

pub answers-requires : goal.answers-requires
answers-requires c = (search (rules, sendable, the_send), c.requires.ports)
