-- Which rules on names and kinds a node keeps.
use Rattle.std.specs.Prelude.{◌≡◌, ◌≢◌, List, [], ◌∷◌, Some, IsTrue}
use Rattle.ps_frame.specs.Frames.{has_distinct_names}
use Rattle.ps_frame.specs.Functions.{Functions}
use Rattle.ps_frame.specs.Tables.{Fields}
use Rattle.ps_frame.specs.Trees.{Tree}
use Rattle.ps_frame.specs.Typing.{kind_over}
use Rattle.ps_frame.specs.declared.value.DataType.TheVariants as data_type
use Rattle.ps_meaning.specs.Shape.{PhysicalKind, filter_node}
use Rattle.ps_meaning.specs.Sound.{BreaksNoRule, HasSchema, have_kinds_over, rules_of}
use Rattle.ps_meaning.specs.StepRefusals.{repeats}
use Rattle.ps_meaning.specs.Steps.{Name}

-- Over inputs of these schemas the kind gives the schema s, which has a column; its expressions have kinds, and no rule on names and kinds is broken: no name stands twice, and each column that is read is there.
pub record KeepsRules (F : Functions) (kind : PhysicalKind) (s : Fields) (ss : List Fields) : Type 0 where
  pub schema : HasSchema F kind ss s
  pub not_empty : s ≢ []
  pub kinds : IsTrue (have_kinds_over ss (rules_of kind))
  pub rules : BreaksNoRule F (rules_of kind) ss

-- no name stands twice
abbrev pub Differ : List Name → Type 0
Differ ns = (n : Name) → ¬ IsTrue (repeats n ns)

-- a filter by a truth value, over columns whose names differ
abbrev pub FiltersKeepRules : Type 0
FiltersKeepRules = (F : Functions) (e : Tree) (s : Fields) → s ≢ [] → IsTrue (has_distinct_names s) → kind_over s e ≡ Some data_type.Boolean → KeepsRules F (filter_node e) s (s ∷ [])
