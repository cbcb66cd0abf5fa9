-- Tables of the keys of rows.
use Rattle.std.specs.Prelude.{ℕ, ◌<◌, List, Vec, length}
use Rattle.std.specs.declared.alloc.Global.{Global}
use Rattle.ps_frame.specs.Series.{Series}
use Rattle.ps_keys.specs.Chains.{IsSound}
use Rattle.ps_keys.specs.Hashes.{row_at}
use Rattle.ps_keys.specs.Ordered.{IsOrdered}
use Rattle.ps_keys.specs.declared.table.KeyTable.{KeyTable}
use Rattle.ps_keys.specs.declared.table.KeyTable.TheVariants as table

-- the first row of each key
abbrev pub first_rows : KeyTable → Vec ℕ Global
first_rows (table.Hashed t) = t.firsts
first_rows (table.Ordered t) = t.firsts

abbrev pub firsts_of : KeyTable → List ℕ
firsts_of t = (first_rows t).items

-- the keys of rows of the columns are found
abbrev pub IsReady : List Series → KeyTable → Type 0
IsReady columns (table.Hashed t) = IsSound (row_at columns) t × (0 < length t.heads.items)
IsReady columns (table.Ordered t) = IsOrdered columns t
