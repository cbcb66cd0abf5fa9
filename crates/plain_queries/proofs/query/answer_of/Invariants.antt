use Rattle.plain_queries.proofs.query.answer_of.Given as goal

abbrev pub ghosts-table_of : goal.ghosts-table_of
ghosts-table_of g a = record { name = a.blank.name; parts = a.blank.parts }
