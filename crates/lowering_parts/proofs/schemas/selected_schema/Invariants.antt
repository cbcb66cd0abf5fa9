use Rattle.lowering_parts.proofs.schemas.selected_schema.Given as goal

abbrev pub ghosts-counted_schema : goal.ghosts-counted_schema
ghosts-counted_schema a = record { name = a.blank.name; parts = a.blank.parts }
