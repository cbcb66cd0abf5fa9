-- The table of the call of a step stays within those that the step gives, over streams of a shape that is sound but for its readers.
use Rattle.std.proofs.Common.{◌≡◌, ℕ, ◌≤◌, ◌^◌, Bool, true, false, List, ◌∷◌, refl}
use Rattle.std.specs.List.{AllByRecursion}
use Rattle.ps_frame.specs.Functions.{Functions}
use Rattle.ps_frame.specs.Tables.{Fields}
use Rattle.ps_meaning.specs.Schemas.{schema_or_empty}
use Rattle.ps_meaning.specs.Sound.{IsSoundButForReaders}
use Rattle.ps_meaning.specs.Steps.{DistinctStep, Step, cache, distinct}
use Rattle.ps_rules.specs.Slots.{State, Stream}
use Rattle.plan_rules.specs.Distinct.{keeps_none}
use Rattle.plan_rules.specs.Nodes.{step_stream}
use Rattle.rule_parts.specs.Good.{AreStreams, IsGoodStep, KnowsNames}
use Rattle.within_plans.specs.Within.{StaysWithinStep}
use Rattle.within_plans.proofs.Kept.{kept_within, small_within}
use Rattle.plans_keep.proofs.Steps.{step_counted, step_kept}

-- what a step owes over streams of these schemas
abbrev Owes : Functions → ℕ → State → Step → List Stream → List Fields → Type 0
Owes F at s step is ss =
    let out = schema_or_empty F step ss in
    let m = step_stream at F step out is s in
    IsGoodStep F step ss → ((id : ℕ) → cache id ≡ step → ⊥) → AllByRecursion (KnowsNames s.names) (out ∷ ss) → m.state.names.next ≤ 2 ^ 64 → StaysWithinStep F at step s m.state is m.stream

module _ (F : Functions) (at : ℕ) (s : State) (inputs : List Stream) (ss : List Fields) (sound : IsSoundButForReaders F s.nodes) (streams : AreStreams s.nodes inputs ss) where
  distinct_within : (o : DistinctStep) → Owes F at s (distinct o) inputs ss
  distinct_within o good other known small = by (keeps_none o.keep) refl
    where
      by : (b : Bool) → keeps_none o.keep ≡ b
          → StaysWithinStep F at (distinct o) s (step_stream at F (distinct o) (schema_or_empty F (distinct o) ss) inputs s).state inputs (step_stream at F (distinct o) (schema_or_empty F (distinct o) ss) inputs s).stream
      by true q =
          let k = step_counted F at s (distinct o) inputs ss sound streams good q known small in
          small_within F at (distinct o) s (step_stream at F (distinct o) (schema_or_empty F (distinct o) ss) inputs s).state inputs (step_stream at F (distinct o) (schema_or_empty F (distinct o) ss) inputs s).stream k.0 k.1
      by false q =
          kept_within F at (distinct o) s (step_stream at F (distinct o) (schema_or_empty F (distinct o) ss) inputs s).state inputs (step_stream at F (distinct o) (schema_or_empty F (distinct o) ss) inputs s).stream
          (step_kept F at s (distinct o) inputs ss other sound streams good q known small)

  by_step : (step : Step) → Owes F at s step inputs ss
  by_step (distinct o) = distinct_within o
  by_step step =
      λ good other known small. let m = step_stream at F step (schema_or_empty F step ss) inputs s in
      kept_within F at step s m.state inputs m.stream (step_kept F at s step inputs ss other sound streams good tt known small)

pub step_within : (F : Functions) (at : ℕ) (s : State) (step : Step) (inputs : List Stream) (ss : List Fields) → ((id : ℕ) → cache id ≡ step → ⊥) → IsSoundButForReaders F s.nodes → AreStreams s.nodes inputs ss → IsGoodStep F step ss
    → AllByRecursion (KnowsNames s.names) (schema_or_empty F step ss ∷ ss) → (step_stream at F step (schema_or_empty F step ss) inputs s).state.names.next ≤ 2 ^ 64
    → StaysWithinStep F at step s (step_stream at F step (schema_or_empty F step ss) inputs s).state inputs (step_stream at F step (schema_or_empty F step ss) inputs s).stream
step_within F at s step inputs ss other sound streams good known small = by_step F at s inputs ss sound streams step good other known small
