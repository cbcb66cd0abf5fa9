use denote.Param.Send.{sendable}
use Rattle.ps_nodes.proofs.flow.FlowNode.TheSendSync.{the_send}
use Rattle.std.proofs.Common.{rules}
use Rattle.flow_trials.proofs.scripts.stands_behind.Goals as goal

pub stands_behind-requires : goal.stands_behind-requires
stands_behind-requires c = (search (rules, sendable, the_send), c.requires.ports)
