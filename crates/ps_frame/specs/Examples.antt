-- Small values, expressions and tables, of which examples speak.
use Rattle.std.specs.Prelude.{ℕ, ℤ, pos, List, [], ◌∷◌, codes, true}
use Rattle.ps_frame.specs.Causes.{Cause}
use Rattle.ps_frame.specs.Tables.{Table}
use Rattle.ps_frame.specs.Trees.{Tree}
use Rattle.ps_frame.specs.declared.expr.LiteralValue.TheVariants as lit
use Rattle.ps_frame.specs.declared.value.DataFault.TheVariants as fault
use Rattle.ps_frame.specs.declared.value.DataType.TheVariants as kind
use Rattle.ps_frame.specs.declared.value.Value.{Value}
use Rattle.ps_frame.specs.declared.value.Value.TheVariants as val

abbrev pub a : List ℕ
a = codes "a"

abbrev pub b : List ℕ
b = codes "b"

-- a number of kind Int64
abbrev pub int : ℕ → Value
int n = val.Int64 (pos n)

-- a literal of kind Int64
abbrev pub lit_int : ℤ → Tree
lit_int z = Tree.literal (lit.Int64 z)

-- a table with the column a
abbrev pub table_a : List (List Value) → Table
table_a rows = record { schema = (a, kind.Int64) ∷ []; rows = rows; broken = [] }

abbrev pub a123 : Table
a123 = table_a ((int 1 ∷ []) ∷ (int 2 ∷ []) ∷ (int 3 ∷ []) ∷ [])

abbrev pub col_a : Tree
col_a = Tree.column a

-- a cause from an earlier node
abbrev pub earlier : Cause
earlier = record { fault = fault.Gather; node = 0 }

abbrev pub bad_text : Tree
bad_text = Tree.cast kind.Int64 true (Tree.literal (lit.String (codes "x")))
