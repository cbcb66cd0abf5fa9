-- The schemas of the tests.
use Rattle.std.specs.Prelude.{[], ◌∷◌, codes}
use Rattle.ps_frame.specs.Tables.{Fields}
use Rattle.ps_frame.specs.declared.value.DataType.TheVariants as kind

-- whole numbers, under the name a
abbrev pub numbers_alone : Fields
numbers_alone = (codes "a", kind.Int64) ∷ []

-- numbers of rows in front of them
abbrev pub numbers_counted : Fields
numbers_counted = (codes "i", kind.IdxSize) ∷ numbers_alone
