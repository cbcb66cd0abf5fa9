-- Zips of a table and expressions over it that are kept as columns.
use Rattle.std.specs.Prelude.{◌≡◌, ◌≤◌, ◌⊎◌, ℕ, List, [], ◌++◌, map, Contains, IsSome, Option, Some}
use Rattle.std.specs.List.{AllByRecursion}
use Rattle.ps_frame.specs.Aggregates.{max_rows}
use Rattle.ps_frame.specs.Frames.{AllOfHeight, column_values, kinds_of}
use Rattle.ps_frame.specs.Tables.{Fields, Table, rows_of}
use Rattle.ps_frame.specs.Trees.{IsComplete, Tree}
use Rattle.ps_frame.specs.Series.{Series}
use Rattle.ps_frame.specs.Typing.{kind_over}
use Rattle.ps_frame.specs.Zip.{Zipped}
use Rattle.ps_frame.specs.declared.refusal.PolarsError.{PolarsError}
use Rattle.ps_frame.specs.declared.refusal.PolarsError.TheVariants as error
use Rattle.ps_frame.specs.declared.value.DataFault.{DataFault}
use Rattle.ps_frame.specs.declared.value.DataFault.TheVariants as fault
use Rattle.ps_frame.specs.declared.value.DataType.{DataType}
use Rattle.ps_meaning.specs.Errors.{fault_error}
use Rattle.ps_meaning.specs.Meaning.{HasLargeColumn}

-- nothing is missing in the expressions, and each has a kind over the schema
abbrev pub AreTypedOver : Fields → List Tree → Type 0
AreTypedOver schema trees = AllByRecursion IsComplete trees × AllByRecursion (λ t. IsSome (kind_over schema t)) trees

-- the kinds of expressions over a schema, and those of its fields before them
abbrev pub expr_kinds : Fields → List Tree → List (Option DataType)
expr_kinds schema trees = map (kind_over schema) trees

abbrev pub keyed_kinds : Fields → List Tree → List (Option DataType)
keyed_kinds schema trees = map Some (kinds_of schema) ++ expr_kinds schema trees

-- columns have the rows of a zip that nothing broke, these kinds, and one height that can be counted
pub record KeepsZip (z : Zipped) (kinds : List (Option DataType)) (columns : List Series) (height : ℕ) : Type 0 where
  pub rows : z.rows ≡ rows_of height (column_values columns)
  pub whole : z.broken ≡ []
  pub kinds_are : map (λ (c : Series). Some c.kind) columns ≡ kinds
  pub heights : AllOfHeight height columns
  pub small : height ≤ max_rows

-- a fault breaks a zip at the node, or it is Rows where the column of an expression is large
abbrev pub IsZipFault : ℕ → List Tree → Table → Zipped → DataFault → Type 0
IsZipFault at trees t z f = Contains z.broken (record { fault = f; node = at }) ⊎ ((f ≡ fault.Rows) × HasLargeColumn at trees t)

-- want of memory, or such a fault
abbrev pub IsZipError : ℕ → List Tree → Table → Zipped → PolarsError → Type 0
IsZipError at trees t z e = (e ≡ error.OutOfMemory) ⊎ ((f : DataFault) × (e ≡ fault_error at f) × IsZipFault at trees t z f)
