-- What is left begins with what is read next.
use Rattle.std.proofs.Common.{◌∙◌}
use Rattle.ps_pipes.proofs.Showing.{next_is}
use Rattle.ps_pipes.proofs.pipe.Pipe.peek.Goals as goal

pub returns : goal.returns
returns c = λ s p shown. c.peek.ensures ∙ next_is s p c.args.self.now shown
