-- The columns that a distinct compares.
use Rattle.std.specs.Prelude.{⊤, IsTrue, List, Option, None, Some}
use Rattle.std.specs.List.{AllByRecursion}
use Rattle.ps_frame.specs.Frames.{has_name}
use Rattle.ps_frame.specs.Tables.{Fields}
use Rattle.ps_meaning.specs.Steps.{Name}

-- each of these names stands in the schema
abbrev pub StandIn : Option (List Name) → Fields → Type 0
StandIn None s = ⊤
StandIn (Some ns) s = AllByRecursion (λ n. IsTrue (has_name n s)) ns
