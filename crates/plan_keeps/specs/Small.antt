-- What the rules on one step keep of it over inputs of a kind.
use Rattle.std.specs.Prelude.{◌≡◌, ℕ, ◌<◌, ◌≤◌, ◌⊎◌, List, ◌++◌, length, Contains}
use Rattle.std.specs.List.{AllByRecursion}
use Rattle.ps_frame.specs.Functions.{Functions}
use Rattle.ps_frame.specs.Tables.{Fields, Table}
use Rattle.ps_meaning.specs.Shape.{IsPhysicalChoice, Shape}
use Rattle.ps_meaning.specs.Steps.{Step}
use Rattle.ps_rules.specs.Slots.{State, Stream}
use Rattle.plan_rules.specs.Nodes.{step_stream}
use Rattle.step_keeps.specs.Kept.{EndsAsStep, HaveRows, IsMadeFor, ShowsOnlyStep, SomeIsLarge, tables_from}

-- Nodes are only added, and the stream is one of them or an input. Over inputs that mean fine tables, the stream's table ends as one that the step gives over these, and the new nodes show nothing else.
pub record KeepsStepOver (IsFine : List Table → Type 0) (F : Functions) (at : ℕ) (step : Step) (before after : State) (inputs : List Stream) (stream : Stream) : Type 0 where
  pub more : Shape
  pub nodes : after.nodes ≡ before.nodes ++ more
  pub made : AllByRecursion (IsMadeFor at before.nodes inputs) more
  pub there : stream.0 < length after.nodes
  pub fed : (length before.nodes ≤ stream.0) ⊎ Contains inputs stream
  pub meaning : (tables : ℕ → Table) → IsPhysicalChoice F after.nodes tables → HaveRows before.nodes tables inputs → IsFine (tables_from tables inputs)
      → EndsAsStep F at step (tables_from tables inputs) (tables stream.0) × ShowsOnlyStep F before.nodes after.nodes tables at step (tables_from tables inputs)

-- The rule of a step with this schema keeps it over inputs of which none is large.
abbrev pub IsKeptSmallStep : Functions → (at : ℕ) → Step → Fields → List Stream → State → Type 0
IsKeptSmallStep F at step schema inputs s =
    let m = step_stream at F step schema inputs s in
    KeepsStepOver (λ ts. ¬ SomeIsLarge ts) F at step s m.state inputs m.stream
