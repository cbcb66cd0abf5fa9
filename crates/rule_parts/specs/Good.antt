-- A step that no rule refuses, over streams of these schemas, where the names of these are known.
use Rattle.std.specs.Prelude.{◌≡◌, ℕ, ◌≤◌, List, [], ◌∷◌, length, Some, slice_get, IsTrue, ⊤}
use Rattle.ps_frame.specs.Frames.{has_distinct_names}
use Rattle.ps_frame.specs.Functions.{Functions}
use Rattle.ps_frame.specs.Lawful.{FitsFrame}
use Rattle.ps_frame.specs.Tables.{Fields}
use Rattle.ps_meaning.specs.Laws.{IsTypedStep}
use Rattle.ps_meaning.specs.Schemas.{is_among, names_of}
use Rattle.ps_meaning.specs.Shape.{PhysicalNode, Shape}
use Rattle.ps_meaning.specs.StepRefusals.{HasBadKeys, HasNoKey, IsValidated, NamesMissingFunction}
use Rattle.ps_meaning.specs.Steps.{Name, Step, hconcat, join, left_out, scan, union}
use Rattle.ps_rules.specs.Names.{IsKnown, Names}
use Rattle.ps_rules.specs.Slots.{State, Stream}
use Rattle.plan_rules.specs.Nodes.{step_stream}

-- so many inputs
abbrev pub TakesInputs : Step → ℕ → Type 0
TakesInputs (scan table columns) n = n ≡ 0
TakesInputs (union cut) n = 1 ≤ n
TakesInputs hconcat n = 1 ≤ n
TakesInputs (join o) n = n ≡ 2
TakesInputs (left_out what) n = ⊥
TakesInputs _ n = n ≡ 1

-- the rows of a scanned table fit its schema, in which no name stands twice
abbrev pub HoldsTable : Step → Type 0
HoldsTable (scan table columns) = FitsFrame table × IsTrue (has_distinct_names table.schema)
HoldsTable _ = ⊤

-- over inputs of these schemas no rule refuses the step
pub record IsGoodStep (F : Functions) (step : Step) (ss : List Fields) : Type 0 where
  pub typed : IsTypedStep F step ss
  pub keys : ¬ HasBadKeys step
  pub key : ¬ HasNoKey step
  pub unvalidated : ¬ IsValidated step
  pub known : ¬ NamesMissingFunction F.count step
  pub inputs : TakesInputs step (length ss)
  pub table : HoldsTable step

-- the node of a stream is there, and has this schema
pub record IsStream (nodes : Shape) (i : Stream) (f : Fields) : Type 0 where
  pub node : PhysicalNode
  pub there : slice_get nodes i.0 ≡ Some node
  pub schema : node.schema ≡ f

-- streams of these schemas, in order
abbrev pub AreStreams : Shape → List Stream → List Fields → Type 0
AreStreams nodes [] [] = ⊤
AreStreams nodes (i ∷ is) (f ∷ fs) = IsStream nodes i f × AreStreams nodes is fs
AreStreams nodes _ _ = ⊥

-- no fresh name will be one of a schema's
abbrev pub KnowsNames : Names → Fields → Type 0
KnowsNames names f = (n : Name) → IsTrue (is_among n (names_of f)) → IsKnown names n

-- a name that is known stays known while the rules lower a step
abbrev pub KnownNamesStay : Type 0
KnownNamesStay = (F : Functions) (at : ℕ) (step : Step) (schema : Fields) (inputs : List Stream) (s : State) (n : Name) → IsKnown s.names n → IsKnown (step_stream at F step schema inputs s).state.names n
