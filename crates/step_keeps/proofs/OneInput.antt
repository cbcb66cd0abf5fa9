-- What is kept of a step over one input is the lowering of that step.
use Rattle.std.proofs.Common.{ℕ, ◌<◌, ◌⊎◌, [], ◌∷◌, length, inl, inr}
use Rattle.ps_frame.specs.Aggregates.{max_rows}
use Rattle.ps_frame.specs.Functions.{Functions}
use Rattle.ps_frame.specs.Tables.{Table}
use Rattle.ps_meaning.specs.Meaning.{IsLargeCase}
use Rattle.ps_meaning.specs.Steps.{Step}
use Rattle.ps_plan.specs.Lowering.{LowersStep}
use Rattle.ps_rules.specs.Slots.{State, Stream}
use Rattle.step_keeps.specs.Kept.{KeepsStep, SomeIsLarge}

pub lowers_step : (F : Functions) (at : ℕ) (step : Step) (before after : State) (input stream : Stream) → KeepsStep F at step before after (input ∷ []) stream → LowersStep F before.nodes after.nodes at step input.0 stream.0
lowers_step F at step before after input stream k tables chosen rows =
    let m = k.meaning tables chosen (rows, tt) in (
      record { table = m.0.table; causes = m.0.causes },
      record { causes = m.1.causes; sizes = λ n low high large. only (tables input.0) (m.1.sizes n low high large) },
    )
  where
    only : (t : Table) → IsLargeCase F at step (t ∷ []) ⊎ SomeIsLarge (t ∷ []) → IsLargeCase F at step (t ∷ []) ⊎ (max_rows < length t.rows)
    only t (inl h) = inl h
    only t (inr (inl h)) = inr h
    only t (inr (inr h)) = absurd h
