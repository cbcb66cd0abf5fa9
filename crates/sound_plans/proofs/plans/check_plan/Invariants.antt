use Rattle.sound_plans.proofs.plans.check_plan.Given as goal

abbrev pub ghosts-are_fit : goal.ghosts-are_fit
ghosts-are_fit g a = record { name = a.blank.name; parts = a.blank.parts }
