use Rattle.std.proofs.Common.{sym}
use Rattle.ps_multiplexers.proofs.Through.{through-none, through-some}
use Rattle.ps_phys.specs.Shown.{stream_of}
use Rattle.ps_multiplexers.proofs.readers.through.Goals as goal

pub returns-in-Some : goal.returns-in-Some
returns-in-Some c = record {
  through = λ number before ports fits.
      let e = c.in-Some.ensures in
      through-some number before c.args.readers.now.slots c.next_of.new.readers.slots c.args.input.node.0 ports e.others (stream_of c.args.input) (stream_of c.in-Some.stream) (sym e.stream) e.port fits;
}

pub returns-in-None : goal.returns-in-None
returns-in-None c = record {
  through = λ number before ports fits.
      let e = c.in-None.ensures in
      through-none number before c.args.readers.now.slots c.next_of.new.readers.slots c.args.input.node.0 ports e.others (stream_of c.args.input) (sym e.stream) (e.none (sym e.stream));
}
