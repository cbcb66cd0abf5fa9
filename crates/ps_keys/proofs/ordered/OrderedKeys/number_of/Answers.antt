use Rattle.std.proofs.Common.{inl, refl, sym}
use Rattle.ps_keys.proofs.ordered.OrderedKeys.number_of.Goals as goal

pub returns-in-Some-clause-number : goal.returns-in-Some-clause-number
returns-in-Some-clause-number c = inl (c.requires.ordered.found c.args.row c.in-Some.key.now c.requires.row (sym c.in-Some.ensures.value), refl)
