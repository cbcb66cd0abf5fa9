-- A mark is set.
use Rattle.std.proofs.Common.{arith}
use Rattle.ps_flow.proofs.Marking.{close_past, close_set}
use Rattle.ps_flow.proofs.marks.Marks.close.Goals as goal

pub returns-then-node-len : goal.returns-then-node-len
returns-then-node-len c =
    let test = c.if-node-len.true in
    let len = c.len.ensures in
    close_set c.args.self.now.list.items c.args.node c.index_mut.result.now (omega (arith, test, len)) c.index_mut.ensures.value

pub returns-else-node-len : goal.returns-else-node-len
returns-else-node-len c =
    let test = c.if-node-len.false in
    let len = c.len.ensures in
    close_past c.args.self.now.list.items c.args.node (omega (arith, test, len))
