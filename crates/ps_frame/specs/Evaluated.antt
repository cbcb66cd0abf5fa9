-- What the code holds of a column: each faulty cell by one of its causes, and some of what ended it.
use Rattle.std.specs.Prelude.{◌≡◌, ◌⊎◌, ⊤, List, [], ◌∷◌, Option, Some, None}
use Rattle.std.specs.List.{AllByRecursion, AllZip}
use Rattle.ps_frame.specs.Causes.{Cause, Cell, Column, value, faulty, is_empty}
use Rattle.ps_frame.specs.declared.value.Cell.{Cell as Held}
use Rattle.ps_frame.specs.declared.value.Cell.TheVariants as held
use Rattle.ps_frame.specs.declared.value.DataFault.{DataFault}
use Rattle.ps_frame.specs.declared.value.DataType.{DataType}
use Rattle.ps_frame.specs.declared.value.Evaluated.{Evaluated}

-- a fault is that of one of these causes
abbrev pub IsFaultOf : List Cause → DataFault → Type 0
IsFaultOf [] f = ⊥
IsFaultOf (x ∷ xs) f = (f ≡ x.fault) ⊎ IsFaultOf xs f

-- the faults are among those of the causes
abbrev pub AreAmong : List Cause → List DataFault → Type 0
AreAmong causes faults = AllByRecursion (IsFaultOf causes) faults

-- the code holds a cell: its value, or any one of its causes
abbrev pub Holds : Held → Cell → Type 0
Holds (held.Val v) (value w) = v ≡ w
Holds (held.Bad f) (faulty c cs) = IsFaultOf (c ∷ cs) f
Holds _ _ = ⊥

-- what the code holds stands for a column
pub record StandsFor (e : Evaluated) (c : Column) : Type 0 where
  pub cells : AllZip Holds e.cells.items c.cells
  pub ended : is_empty e.broken.items ≡ is_empty c.broken
  pub among : AreAmong c.broken e.broken.items

-- the kind of an answer is that of its expression, where this has one
abbrev pub IsKindOf : Option DataType → DataType → Type 0
IsKindOf None d = ⊤
IsKindOf (Some k) d = k ≡ d
