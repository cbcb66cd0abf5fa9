use Rattle.made_tables.proofs.join_tables.schema_of_join.Given as goal

abbrev pub ghosts-counted_schema : goal.ghosts-counted_schema
ghosts-counted_schema a = record { name = a.blank.name; parts = a.blank.parts }
