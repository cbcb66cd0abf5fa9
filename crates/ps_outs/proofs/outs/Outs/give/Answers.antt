-- A worker takes a piece out.
use Rattle.std.proofs.Common.{refl}
use Rattle.ps_outs.proofs.Counting.{gave}
use Rattle.ps_outs.proofs.outs.Outs.give.Goals as goal

pub returns : goal.returns
returns c = λ workers outs q out of. gave workers outs c.args.self.now out c.args.worker c.args.out q _ refl c.requires of
