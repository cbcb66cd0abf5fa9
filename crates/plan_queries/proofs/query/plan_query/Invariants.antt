use Rattle.plan_queries.proofs.query.plan_query.Given as goal

abbrev pub ghosts-valid_plan : goal.ghosts-valid_plan
ghosts-valid_plan g a = record { name = a.blank.name; parts = a.blank.parts }
