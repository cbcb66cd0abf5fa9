-- A call that keeps its step, over all inputs or over those of which none is large.
use Rattle.std.proofs.Common.{ℕ, ◌<◌, ◌≤◌, ◌⊎◌, List, [], ◌∷◌, length, inl, inr, arith}
use Rattle.ps_frame.specs.Aggregates.{max_rows}
use Rattle.ps_frame.specs.Functions.{Functions}
use Rattle.ps_frame.specs.Tables.{Table}
use Rattle.ps_meaning.specs.Cases.{Case}
use Rattle.ps_meaning.specs.Shape.{IsPhysicalChoice}
use Rattle.ps_meaning.specs.Steps.{Step}
use Rattle.ps_meaning.specs.Within.{Within}
use Rattle.ps_meaning.proofs.WithinLemmas.{alike_within}
use Rattle.ps_rules.specs.Slots.{State, Stream}
use Rattle.step_keeps.specs.Kept.{EndsAsStep, HaveRows, KeepsStep, ShowsOnlyStep, SomeIsLarge, tables_from}
use Rattle.plan_keeps.specs.Small.{KeepsStepOver}
use Rattle.within_plans.specs.Within.{StaysWithinStep}
use native.Mathlib.Decide.{dec_le}
use mathlib.Core.Logic.{dite}

-- what ends as a table of the step lies within it
pub kept_within : (F : Functions) (at : ℕ) (step : Step) (before after : State) (inputs : List Stream) (stream : Stream) → KeepsStep F at step before after inputs stream → StaysWithinStep F at step before after inputs stream
kept_within F at step before after inputs stream k =
    record {
      more = k.more;
      nodes = k.nodes;
      made = k.made;
      there = k.there;
      fed = k.fed;
      table = λ tables chosen rows. let m = (k.meaning tables chosen rows).0.table in (m.0, m.1, alike_within (tables stream.0) m.0 m.2);
      kept = λ tables chosen rows. inl (k.meaning tables chosen rows);
    }

-- some table is large, or none is
large_or : (ts : List Table) → SomeIsLarge ts ⊎ (SomeIsLarge ts → ⊥)
large_or [] = inr (λ h. h)
large_or (t ∷ ts) = by (large_or ts)
  where
    neither : length t.rows ≤ max_rows → (SomeIsLarge ts → ⊥) → (max_rows < length t.rows) ⊎ SomeIsLarge ts → ⊥
    neither few none (inl long) = absurd (omega arith)
    neither few none (inr h) = none h

    by : SomeIsLarge ts ⊎ (SomeIsLarge ts → ⊥) → SomeIsLarge (t ∷ ts) ⊎ (SomeIsLarge (t ∷ ts) → ⊥)
    by (inl h) = inl (inr h)
    by (inr none) = dite (dec_le (length t.rows) max_rows) (λ few. inr (neither few none)) (λ beyond. inl (inl (omega arith)))

-- what is kept over inputs of which none is large, and stays within over any
pub small_within : (F : Functions) (at : ℕ) (step : Step) (before after : State) (inputs : List Stream) (stream : Stream) → KeepsStepOver (λ ts. SomeIsLarge ts → ⊥) F at step before after inputs stream
    → ((tables : ℕ → Table) → IsPhysicalChoice F after.nodes tables → HaveRows before.nodes tables inputs → (K : Table) × Case F at step (tables_from tables inputs) K × Within (tables stream.0) K) → StaysWithinStep F at step before after inputs stream
small_within F at step before after inputs stream k table =
    record {
      more = k.more;
      nodes = k.nodes;
      made = k.made;
      there = k.there;
      fed = k.fed;
      table = table;
      kept = λ tables chosen rows. by tables chosen rows (large_or (tables_from tables inputs));
    }
  where
    by : (tables : ℕ → Table) → IsPhysicalChoice F after.nodes tables → HaveRows before.nodes tables inputs → SomeIsLarge (tables_from tables inputs) ⊎ (SomeIsLarge (tables_from tables inputs) → ⊥)
        → (EndsAsStep F at step (tables_from tables inputs) (tables stream.0) × ShowsOnlyStep F before.nodes after.nodes tables at step (tables_from tables inputs)) ⊎ SomeIsLarge (tables_from tables inputs)
    by tables chosen rows (inl large) = inr large
    by tables chosen rows (inr small) = inl (k.meaning tables chosen rows small)
