use Rattle.ps_multiplexers.proofs.Through.{both-through}
use Rattle.ps_multiplexers.proofs.readers.go_through_two.Goals as goal

pub returns : goal.returns
returns c = record {
  through = λ number before ports fits.
      both-through number before c.args.readers.now.slots c.through.new.readers.slots c.through-2.new.readers.slots c.args.left.now c.through.result c.args.right.now c.through-2.result ports fits (c.through.ensures.through number before ports) (c.through-2.ensures.through number);
}
