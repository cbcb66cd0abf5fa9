-- A worker hands its piece in.
use Rattle.std.proofs.Common.{refl, arith}
use Rattle.ps_outs.proofs.Counting.{stayed, took}
use Rattle.ps_outs.proofs.outs.Outs.take_back.Goals as goal

pub returns-then-worker-len : goal.returns-then-worker-len
returns-then-worker-len c = λ workers outs q out of. took workers outs c.args.self.now out c.args.worker q _ refl of

pub returns-else-worker-len : goal.returns-else-worker-len
returns-else-worker-len c = λ workers outs q out of.
    let over = c.if-worker-len.false in
    let len = c.len.ensures in
    stayed workers outs c.args.self.now out c.args.worker q (omega (arith, over, len)) of
