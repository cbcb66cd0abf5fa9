-- Small tables: one of two columns, and others of one.
use Rattle.std.specs.Prelude.{[], ◌∷◌}
use Rattle.ps_frame.specs.Examples.{a, b, int}
use Rattle.ps_frame.specs.Tables.{Frame}
use Rattle.ps_frame.specs.declared.value.DataType.TheVariants as kind

abbrev pub a_and_b : Frame
a_and_b = record { schema = (a, kind.Int64) ∷ (b, kind.Int64) ∷ []; rows = (int 1 ∷ int 4 ∷ []) ∷ (int 2 ∷ int 5 ∷ []) ∷ [] }

abbrev pub only_b : Frame
only_b = record { schema = (b, kind.Int64) ∷ []; rows = (int 4 ∷ []) ∷ (int 5 ∷ []) ∷ [] }

-- the values of a under the name of b
abbrev pub misnamed : Frame
misnamed = record { schema = (b, kind.Int64) ∷ []; rows = (int 1 ∷ []) ∷ (int 2 ∷ []) ∷ [] }

-- two rows without columns
abbrev pub no_columns : Frame
no_columns = record { schema = []; rows = [] ∷ [] ∷ [] }
