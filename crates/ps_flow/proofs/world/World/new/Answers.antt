-- The opening of the shape.
use Rattle.std.proofs.Common.{◌∙◌, ◌+◌, [], ap, sym, subst}
use Rattle.ps_flow.proofs.Begun.{all_stand, begins, started_linked}
use Rattle.ps_flow.proofs.world.World.new.Goals as goal
use Rattle.ps_graph.proofs.Places.{count_there}
use Rattle.ps_outs.specs.Out.{AreOut}

pub empty_pipes-requires-clause-linked : goal.empty_pipes-requires-clause-linked
empty_pipes-requires-clause-linked g c = λ κs lives. started_linked g.N.RunNode.Has g.N.RunNode.IsNew c.args.options.now c.args.graph c.requires.linked c.start_all.new.graph c.start_all.ensures.pipes c.start_all.ensures.nodes

pub returns-clause-opening : goal.returns-clause-opening
returns-clause-opening g c = λ shape built.
    let Has = g.N.RunNode.Has in
    let there = all_stand Has g.N.RunNode.IsNew c.args.options.now c.args.graph c.requires.linked c.start_all.new.graph c.start_all.ensures.pipes c.start_all.ensures.nodes in
    begins Has g.N.RunNode.IsNew c.args.options.now c.args.graph c.requires.linked c.start_all.new.graph c.start_all.ensures.pipes c.start_all.ensures.nodes shape built c.in_ok-marks.marks c.in_ok-pipes.pipes c.in_ok-outs.outs c.new-journal.result c.len.result
    (c.len.ensures.count ∙ count_there c.start_all.new.graph.nodes.slots there) c.in_ok-marks.ensures.marks (λ s room bounds. c.in_ok-pipes.ensures.shown s (room ∙ ap (λ n. n + 4) (sym c.workers.ensures)) bounds)
    (subst (λ n. AreOut n [] c.in_ok-outs.outs) c.workers-2.ensures c.in_ok-outs.ensures.out) c.new-journal.ensures
