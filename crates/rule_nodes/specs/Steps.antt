-- When the nodes of a step stay those of a sound shape: the step is one that no rule refuses, over streams of a sound shape.
use Rattle.std.specs.Prelude.{ℕ, ◌≤◌, ◌^◌, List, ◌∷◌}
use Rattle.std.specs.List.{AllByRecursion}
use Rattle.ps_frame.specs.Functions.{Functions}
use Rattle.ps_frame.specs.Tables.{Fields}
use Rattle.ps_meaning.specs.Schemas.{schema_or_empty}
use Rattle.ps_meaning.specs.Sound.{IsSoundButForReaders}
use Rattle.ps_meaning.specs.Steps.{Step}
use Rattle.ps_rules.specs.Slots.{State, Stream}
use Rattle.plan_rules.specs.Nodes.{step_stream}
use Rattle.rule_parts.specs.Good.{AreStreams, IsGoodStep, IsStream, KnowsNames}

-- The shape stays sound but for readers, and the stream has the step's schema. The counter of names stays in 64 bits: past that two numbers may have one name.
abbrev pub StepsStaySound : Type 0
StepsStaySound =
    (F : Functions) (at : ℕ) (step : Step) (ss : List Fields) (inputs : List Stream) (s : State) → IsGoodStep F step ss → IsSoundButForReaders F s.nodes → AreStreams s.nodes inputs ss
    → AllByRecursion (KnowsNames s.names) (schema_or_empty F step ss ∷ ss)
    → let m = step_stream at F step (schema_or_empty F step ss) inputs s in
    m.state.names.next ≤ 2 ^ 64 → IsSoundButForReaders F m.state.nodes × IsStream m.state.nodes m.stream (schema_or_empty F step ss)
