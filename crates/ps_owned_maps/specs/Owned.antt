-- Maps with expressions of their own.
use Rattle.std.specs.Prelude.{Bool, true, false, List}
use Rattle.ps_frame.specs.Trees.{tree_at}
use Rattle.ps_frame.specs.declared.expr.AExpr.{AExpr}
use Rattle.ps_meaning.specs.Maps.{map_step}
use Rattle.ps_meaning.specs.Steps.{Step, user}
use Rattle.ps_meaning.specs.declared.map.MapKind.{MapKind}

-- what a map does, and the expressions that it names
pub record MapParts : Type 0 where
  pub kind : MapKind
  pub exprs : List AExpr

-- the step of a map
abbrev pub step_of : MapParts → Step
step_of m = map_step (tree_at m.exprs) m.kind

-- a function that the caller handed in
abbrev pub is_function : Step → Bool
is_function (user n) = true
is_function _ = false
