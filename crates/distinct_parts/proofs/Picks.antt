-- Aggregations of columns that give the values of one of the rows.
use Rattle.std.proofs.Common.{◌≡◌, ◌≢◌, ℕ, List, [], ◌∷◌, get_or}
use Rattle.std.specs.Prelude.{Option, map}
use Rattle.ps_frame.specs.Aggregates.{aggregate_column}
use Rattle.ps_frame.specs.Causes.{whole_column}
use Rattle.ps_frame.specs.Free.{free_causes}
use Rattle.ps_frame.specs.Trees.{Aggregation, Tree}
use Rattle.ps_frame.specs.Typing.{aggregate_kind}
use Rattle.ps_frame.specs.declared.value.DataType.{DataType}
use Rattle.ps_frame.specs.declared.value.Value.{Value}
use Rattle.ps_frame.specs.declared.value.Value.TheVariants as val
use Rattle.ps_meaning.specs.Steps.{Name}
use Rattle.ps_shares.proofs.Members.{Has}

-- of rows it picks one, and of a column the value of that row; it has the kind of the column, and no fault
pub record Picks (a : Aggregation) : Type 0 where
  pub row : List (List Value) → List Value
  pub value : List Value → Value
  pub column : (at : ℕ) (k : Option DataType) (vs : List Value) → aggregate_column at a k vs ≡ whole_column (value vs ∷ [])
  pub of_rows : (j : ℕ) (rows : List (List Value)) → value (map (λ row. get_or row j val.Null) rows) ≡ get_or (row rows) j val.Null
  pub one_of : (rows : List (List Value)) → rows ≢ [] → Has rows (row rows)
  pub kind : (o : Option DataType) → aggregate_kind a o ≡ o
  pub free : (at : ℕ) (n : Name) → free_causes at (Tree.aggregate a (Tree.column n)) ≡ []
