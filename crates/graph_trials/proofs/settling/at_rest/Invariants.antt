use Rattle.graph_trials.proofs.settling.at_rest.Given as goal

abbrev pub ghosts-settle : goal.ghosts-settle
ghosts-settle a = record { name = a.blank.name; parts = a.blank.parts }
