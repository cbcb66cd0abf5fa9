-- The graph that all of its nodes make.
use Rattle.std.proofs.Common.{refl}
use Rattle.run_graphs.proofs.Becoming.{running_built, running_linked}
use Rattle.run_graphs.proofs.graphs.running_graph.Goals as goal

pub returns-in-Ok-add_all-clause-linked : goal.returns-in-Ok-add_all-clause-linked
returns-in-Ok-add_all-clause-linked c =
    running_linked c.args.graph c.requires.linked c.requires.streams c.args.schemas.now c.requires.schemas (record { nodes = c.add_all.new.made; pipes = c.args.graph.pipes }) refl c.in-Ok-add_all.ensures.all

pub returns-in-Ok-add_all-clause-built : goal.returns-in-Ok-add_all-clause-built
returns-in-Ok-add_all-clause-built c =
    running_built c.args.graph c.requires.linked c.requires.streams c.args.schemas.now c.requires.schemas (record { nodes = c.add_all.new.made; pipes = c.args.graph.pipes }) refl c.in-Ok-add_all.ensures.all
