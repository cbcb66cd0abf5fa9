use Rattle.ps_flow.proofs.world.World.try_open.Given as goal

abbrev pub ghosts-settle : goal.ghosts-settle
ghosts-settle g a = record { name = a.blank.name; parts = a.blank.parts }
