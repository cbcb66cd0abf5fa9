-- As many wait as are left.
use Rattle.std.proofs.Common.{◌∙◌}
use Rattle.ps_pipes.proofs.Showing.{waits_is}
use Rattle.ps_pipes.proofs.pipe.Pipe.waiting.Goals as goal

pub returns : goal.returns
returns c = λ s p shown. c.waiting.ensures ∙ waits_is s p c.args.self.now shown
