-- Calls that keep their step over all inputs, or over those of which none is large.
use Rattle.std.proofs.Common.{ℕ, List}
use Rattle.ps_frame.specs.Functions.{Functions}
use Rattle.ps_frame.specs.Tables.{Fields, Table}
use Rattle.ps_meaning.specs.Steps.{Step}
use Rattle.ps_rules.specs.Slots.{State, Stream}
use Rattle.plan_rules.specs.Plans.{LoweredPlans}
use Rattle.step_keeps.specs.Kept.{IsKeptStep, KeepsStep, SomeIsLarge, tables_from}
use Rattle.plan_keeps.specs.Kept.{IsKeptCall}
use Rattle.plan_keeps.specs.Small.{IsKeptSmallStep, KeepsStepOver}

module _ (F : Functions) (at : ℕ) (step : Step) where
  -- over all inputs, so over fine ones
  over_fine : (IsFine : List Table → Type 0) (before after : State) (inputs : List Stream) (stream : Stream) → KeepsStep F at step before after inputs stream → KeepsStepOver IsFine F at step before after inputs stream
  over_fine IsFine before after inputs stream k = record { more = k.more; nodes = k.nodes; made = k.made; there = k.there; fed = k.fed; meaning = λ tables chosen rows fine. k.meaning tables chosen rows }

  -- over fine inputs, so over those that are finer
  over_finer : (IsFine IsFiner : List Table → Type 0) → ((ts : List Table) → IsFiner ts → IsFine ts) → (before after : State) (inputs : List Stream) (stream : Stream) → KeepsStepOver IsFine F at step before after inputs stream
      → KeepsStepOver IsFiner F at step before after inputs stream
  over_finer IsFine IsFiner within before after inputs stream k =
      record { more = k.more; nodes = k.nodes; made = k.made; there = k.there; fed = k.fed; meaning = λ tables chosen rows fine. k.meaning tables chosen rows (within (tables_from tables inputs) fine) }

  pub kept_call : (schema : Fields) (small : Type 0) (r : LoweredPlans) → IsKeptStep F at step schema r.streams r.progress.state → IsKeptCall F at step schema small r
  kept_call schema small r k = over_fine (λ ts. small → SomeIsLarge ts → ⊥) r.progress.state _ r.streams _ k

  pub small_call : (schema : Fields) (small : Type 0) → small → (r : LoweredPlans) → IsKeptSmallStep F at step schema r.streams r.progress.state → IsKeptCall F at step schema small r
  small_call schema small few r k = over_finer (λ ts. SomeIsLarge ts → ⊥) (λ ts. small → SomeIsLarge ts → ⊥) (λ ts h. h few) r.progress.state _ r.streams _ k
