use Rattle.node_bench.proofs.nodes.repeat.Given as goal

abbrev pub ghosts-repeat_plan : goal.ghosts-repeat_plan
ghosts-repeat_plan a = record { name = a.blank.name; parts = a.blank.parts }
