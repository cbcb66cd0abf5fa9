use Rattle.ps_multiplexers.proofs.Noted.{noted-first}
use Rattle.ps_multiplexers.proofs.readers.note_first.Goals as goal

pub returns-clause-noted : goal.returns-clause-noted
returns-clause-noted c = λ first read several noted. noted-first first read several c.args.node.0 c.args.readers.now.slots c.insert.new.self.slots noted c.requires.none c.in_ok-insert.ensures.updates
