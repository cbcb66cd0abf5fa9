-- Tables by their rows: one row alone, one part after another, a front.
use Rattle.std.specs.Prelude.{◌≡◌, ◌++◌, false, is_some, IsTrue, List, [], ◌∷◌}
use Rattle.ps_frame.specs.Tables.{Fields, Table}
use Rattle.ps_frame.specs.Trees.{Tree}
use Rattle.ps_frame.specs.Typing.{is_elementwise, is_independent, kind_over}
use Rattle.ps_frame.specs.declared.value.Value.{Value}

-- the expression has a kind over the schema
abbrev pub HasKind : Fields → Tree → Type 0
HasKind schema t = IsTrue (is_some (kind_over schema t))

-- an elementwise expression of a kind that reads its input
pub record GoesByRow (schema : Fields) (t : Tree) : Type 0 where
  pub elementwise : IsTrue (is_elementwise t)
  pub reads_input : is_independent t ≡ false
  pub kind : HasKind schema t

-- a whole table of one row
abbrev pub row_alone : Fields → List Value → Table
row_alone schema row = record { schema = schema; rows = row ∷ []; broken = [] }

-- the rows of p and then those of q are the rows of t; what broke each of them doesn't count
pub record AreParts (p q t : Table) : Type 0 where
  pub first_schema : p.schema ≡ t.schema
  pub second_schema : q.schema ≡ t.schema
  pub rows : p.rows ++ q.rows ≡ t.rows

-- ys begins with xs
abbrev pub Begins : {A : Type 0} → List A → List A → Type 0
Begins {A} xs ys = (rest : List A) × (xs ++ rest ≡ ys)

-- the rows of t begin with those of p
pub record IsFront (p t : Table) : Type 0 where
  pub schema : p.schema ≡ t.schema
  pub rows : Begins p.rows t.rows
