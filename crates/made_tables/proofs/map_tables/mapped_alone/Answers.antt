-- It is fit with no functions at hand.
use Rattle.made_tables.proofs.Alone.{ready_alone}
use Rattle.std.proofs.Common.{[], ◌∷◌}
use Rattle.made_tables.proofs.map_tables.mapped_alone.Goals as goal

pub mapped-requires-clause-fit : goal.mapped-requires-clause-fit
mapped-requires-clause-fit c lifetimes = (c.requires.fit.0, ready_alone c.args.map.now (c.args.input ∷ []) c.requires.fit.0 c.requires.alone c.requires.fit.1)
