use Rattle.node_trials.proofs.owned_maps.mapped.Given as goal

abbrev pub ghosts-map_table : goal.ghosts-map_table
ghosts-map_table a = record { name = a.blank.name; parts = a.blank.parts }
