use Rattle.std.proofs.Common.{◌∙◌, sym}
use Rattle.ps_multiplexers.proofs.Rewiring.{filled-push, inserted-shown}
use Rattle.ps_multiplexers.proofs.readers.insert_behind.Goals as goal

pub returns-clause-nodes : goal.returns-clause-nodes
returns-clause-nodes c = λ f.
    inserted-shown f c.args.phys.now.slots c.insert.new.self.slots c.args.node c.in-Some.read.now c.new.result c.first.result (sym c.in-Some.ensures)
    (c.new.ensures.schema ∙ c.in-Ok.ensures.same) c.new.ensures.origin c.new.ensures.kind c.first.ensures.node c.first.ensures.port c.in_ok-key.ensures.added

pub returns-clause-filled : goal.returns-clause-filled
returns-clause-filled c = λ first filled. filled-push first c.args.phys.now.slots c.insert.new.self.slots c.new.result filled c.in_ok-key.ensures.added
