-- What is kept of a type whose values fit memory.
use Rattle.std.specs.Prelude.{◌^◌}
use Rattle.std.specs.Mem.{type_size}
use base.Fml.{Lft, Fml, flt}
use denote.RattleType.{RattleType}
use denote.Sharing.{said}

-- that they do, owned
abbrev pub fits : RattleType → Fml
fits R = flt (type_size R) (2 ^ 63)

-- and lent
abbrev pub fits_lent : RattleType → Lft → Fml
fits_lent R = said (fits R)
