-- What is left begins with what is read next.
use Rattle.std.proofs.Common.{◌∙◌}
use Rattle.ps_pipes.proofs.Showing.{first_is}
use Rattle.ps_pipes.proofs.pipe.Pipe.has_next.Goals as goal

pub returns : goal.returns
returns c = λ s p shown. c.is_ready.ensures ∙ first_is s p c.args.self.now shown
