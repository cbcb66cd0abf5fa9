-- One pipe more.
use Rattle.std.proofs.Common.{sym, ◌∙◌}
use Rattle.ps_world.specs.Opening.{fresh_pipe}
use Rattle.world_pipes.proofs.Phased.{one_more}
use Rattle.world_pipes.proofs.pipes.Pipes.add.Goals as goal

pub returns-clause-shown : goal.returns-clause-shown
returns-clause-shown c = λ s ps sender port receiver input room bounded shown.
    one_more s ps (fresh_pipe sender port receiver input) c.args.self.now _ _ shown c.in-Ok.ensures.items
    (record { shows = c.in_ok-pipe.ensures.shows (s.schema sender) sender port receiver input; bounded = c.in_ok-pipe.ensures.bounded ∙ sym bounded; room = c.in_ok-pipe.ensures.room ∙ sym room })
