-- What the trials know of their maps.
use Rattle.std.specs.Prelude.{ℕ, true, List, [], ◌∷◌, codes}
use Rattle.ps_frame.specs.Tables.{Fields}
use Rattle.ps_frame.specs.Trees.{Tree}
use Rattle.ps_frame.specs.declared.expr.AExpr.{AExpr}
use Rattle.ps_frame.specs.declared.expr.AExpr.TheVariants as entry
use Rattle.ps_frame.specs.declared.value.DataType.TheVariants as kind
use Rattle.ps_meaning.specs.Steps.{Named, Step, select}
use Rattle.ps_meaning.specs.declared.map.MapKind.{MapKind}
use Rattle.ps_meaning.specs.declared.map.MapKind.TheVariants as map
use Rattle.ps_meaning.specs.declared.options.ExprIR.{ExprIR}
use Rattle.ps_meaning.specs.declared.options.OutputName.TheVariants as output
use Rattle.ps_nodes.specs.Fit.{CanMap}
use Rattle.ps_nodes.specs.declared.in_memory_map.InMemoryMapNode.{InMemoryMapNode}
use Rattle.ps_owned_maps.specs.Owned.{step_of}

-- by which step a map makes its table, the schema of its input, and how many of its morsels were claimed
pub record Shown : Type 0 where
  pub step : Step
  pub schema : Fields
  pub sent : ℕ

unfoldable pub shown_of : InMemoryMapNode → Shown
shown_of n = record { step = step_of n.map; schema = n.input.schema; sent = n.made.sent }

-- its updates can make its table
unfoldable pub CanTurn : Shown → Type 0
CanTurn s = CanMap s.step s.schema

-- one column of numbers
abbrev pub numbers : Fields
numbers = (codes "a", kind.Int64) ∷ []

-- a map over it of which nothing was claimed
unfoldable pub over_numbers : Step → Shown
over_numbers step = record { step = step; schema = numbers; sent = 0 }

-- the column, and the count that is read off it
abbrev pub count_entries : List AExpr
count_entries = entry.Column (codes "a") ∷ entry.Cast (record { 0 = 0 }) kind.IdxSize true ∷ []

abbrev pub count_named : ExprIR
count_named = record { node = record { 0 = 1 }; output_name = output.Alias (codes "a") }

-- as a tree
abbrev pub count_read : Named
count_read = (codes "a", Tree.cast kind.IdxSize true (Tree.column (codes "a")))

-- the map that reads it
abbrev pub count_map : MapKind
count_map = map.Select (count_named ∷ [])

-- as a step
unfoldable pub reads : Step
reads = select (count_read ∷ [])
