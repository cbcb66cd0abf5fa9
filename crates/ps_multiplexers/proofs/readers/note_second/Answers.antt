use Rattle.std.proofs.Common.{◌∙◌, ◌++◌, ap, length, map, sym}
use Rattle.ps_multiplexers.proofs.Noted.{again-second, noted-second}
use Rattle.ps_multiplexers.specs.Multiplexers.{multiplexer_of}
use Rattle.ps_phys.specs.Shown.{nodes_of}
use Rattle.ps_multiplexers.proofs.readers.note_second.Goals as goal

pub returns-clause-noted : goal.returns-clause-noted
returns-clause-noted c = λ first read several noted size.
    noted-second first read several c.args.node.0 c.args.readers.now.slots c.insert.new.self.slots c.in_ok-first.first (length c.args.phys.now.slots) noted c.requires.once c.in_ok-insert.ensures.updates c.in_ok-first.ensures.first size

pub returns-clause-nodes : goal.returns-clause-nodes
returns-clause-nodes c = λ f first read several noted.
    c.in_ok-first.ensures.nodes f
    ∙ ap (λ ms. nodes_of f c.args.phys.now.slots ++ map (multiplexer_of (nodes_of f c.args.phys.now.slots)) ms) (sym (again-second first read several c.args.node.0 c.args.readers.now.slots noted c.requires.once))
