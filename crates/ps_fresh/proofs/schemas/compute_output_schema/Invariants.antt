use Rattle.ps_fresh.proofs.schemas.compute_output_schema.Given as goal

abbrev pub ghosts-typed_schema : goal.ghosts-typed_schema
ghosts-typed_schema a = record { name = a.blank.name; parts = a.blank.parts }
