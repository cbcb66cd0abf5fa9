-- What a slot ends as, where a `&mut` to its value is returned.
use Rattle.std.specs.Prelude.{Option, Some}
use Rattle.std.specs.Borrow.{Lends, Fml, RattleType, MutBor}
use Rattle.std.specs.contracts.option.Option.{the_row}

-- once the borrow r ends, the slot has the last value written through r
abbrev pub lends_slot : (V : RattleType) → MutBor (Option V.Denot) → MutBor V.Denot → Fml
lends_slot V s r = Lends (the_row V) V s r Some
