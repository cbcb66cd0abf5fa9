use Rattle.ps_typing.proofs.nature.has_literal_aggregate.Given as goal

abbrev pub ghosts-looks_for_aggregate : goal.ghosts-looks_for_aggregate
ghosts-looks_for_aggregate a = record { name = a.blank.name; parts = a.blank.parts }
