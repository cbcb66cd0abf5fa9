-- The heads are made of the counts of what was stored.
use Rattle.std.proofs.Common.{◌∙◌, ap}
use Rattle.node_states.proofs.HeadsSeen.{heads_made}
use Rattle.node_states.specs.Heads.{heads_from}
use Rattle.node_states.proofs.heads.see.Goals as goal

pub returns : goal.returns
returns c stores came =
    heads_made c.args.null_extend c.args.booked c.args.recv.now stores c.args.came.now _ c.requires.came came
    (c.write.ensures ∙ ap (λ spent. heads_from c.args.null_extend spent c.args.booked c.args.recv.now c.args.came.now) c.is_spent-is_spent.ensures)
