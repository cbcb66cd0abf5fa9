use Rattle.ps_typing.proofs.kinds.expr_kind.Given as goal

abbrev pub ghosts-uncounted_kind : goal.ghosts-uncounted_kind
ghosts-uncounted_kind a = record { name = a.blank.name; parts = a.blank.parts }
