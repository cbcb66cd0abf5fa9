use Rattle.std.proofs.Common.{◌∙◌, ◌++◌, Some, ap, append-nil, map, sym}
use Rattle.ps_multiplexers.proofs.Noted.{again-first, again-later, always-ok, noted-later}
use Rattle.ps_multiplexers.specs.Multiplexers.{multiplexer_of}
use Rattle.ps_phys.specs.Shown.{nodes_of}
use Rattle.ps_multiplexers.proofs.readers.note_reader.Goals as goal

pub returns-in_default-clause-noted : goal.returns-in_default-clause-noted
returns-in_default-clause-noted c = λ first read several noted size. c.note_first.ensures.noted first read several noted

pub returns-in_default-clause-nodes : goal.returns-in_default-clause-nodes
returns-in_default-clause-nodes c = λ f first read several noted.
    always-ok c.note_first.result _
    (sym (append-nil (nodes_of f c.args.phys.now.slots)) ∙ ap (λ ms. nodes_of f c.args.phys.now.slots ++ map (multiplexer_of (nodes_of f c.args.phys.now.slots)) ms) (sym (again-first first read several c.args.node.0 c.args.readers.now.slots noted c.in_default.ensures)))

pub note_second-requires-clause-once : goal.note_second-requires-clause-once
note_second-requires-clause-once c = sym (ap (λ k. Some k) c.in-One.is) ∙ c.in-Some.ensures

pub returns-in-Several-clause-noted : goal.returns-in-Several-clause-noted
returns-in-Several-clause-noted c = λ first read several noted size.
    noted-later first read several c.args.node.0 c.args.readers.now.slots _ noted (sym (ap (λ k. Some k) c.in-Several.is) ∙ c.in-Some.ensures)

pub returns-in-Several-clause-nodes : goal.returns-in-Several-clause-nodes
returns-in-Several-clause-nodes c = λ f first read several noted.
    sym (append-nil (nodes_of f c.args.phys.now.slots))
    ∙ ap (λ ms. nodes_of f c.args.phys.now.slots ++ map (multiplexer_of (nodes_of f c.args.phys.now.slots)) ms) (sym (again-later first read several c.args.node.0 c.args.readers.now.slots _ noted (sym (ap (λ k. Some k) c.in-Several.is) ∙ c.in-Some.ensures)))

pub returns-in_default-clause-filled : goal.returns-in_default-clause-filled
returns-in_default-clause-filled c = λ first filled. always-ok c.note_first.result _ filled
