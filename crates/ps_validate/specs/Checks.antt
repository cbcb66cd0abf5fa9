-- What the check of a node tells: that nothing of it is refused, and its schema, or what it is refused for.
use Rattle.std.specs.Prelude.{◌⊎◌, List}
use Rattle.pu_base.specs.declared.arena.Node.{Node}
use Rattle.ps_frame.specs.Functions.{Functions}
use Rattle.ps_frame.specs.Tables.{Fields}
use Rattle.ps_frame.specs.declared.refusal.PolarsError.{PolarsError}
use Rattle.ps_meaning.specs.StepRefusals.{NamesMissingFunction}
use Rattle.ps_meaning.specs.Steps.{Step}
use Rattle.ps_validate.specs.Fit.{IsEntryError, IsWellFormed, IsPlaceError, IsPlaced}
use Rattle.ps_validate.specs.Nodes.{GivesSchema, IsNodeError}

-- a node in its place, whose entry fits, with the schema of its step over inputs of these schemas
pub record IsChecked (F : Functions) (root at : Node) (step : Step) (inputs : List Node) (ss : List Fields) (s : Fields) : Type 0 where
  pub placed : IsPlaced root at step
  pub fit : IsWellFormed F.count step inputs
  pub given : GivesSchema F step ss s

-- An error at a node, with its cause in the node's place, in its entry, or in its step over inputs of these schemas. Only a step whose function is there is held against the rules on names and kinds.
abbrev pub IsCheckError : Functions → Node → Node → Step → List Node → List Fields → PolarsError → Type 0
IsCheckError F root at step inputs ss e = IsPlaceError root at step e ⊎ (IsEntryError F.count at step inputs e ⊎ ((¬ NamesMissingFunction F.count step) × IsNodeError F at step ss e))
