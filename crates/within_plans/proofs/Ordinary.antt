-- A step is a cache, or its call is made over what its inputs are lowered to.
use Rattle.std.proofs.Common.{◌≡◌, ℕ, refl}
use Rattle.ps_frame.specs.Functions.{Functions}
use Rattle.ps_frame.specs.Tables.{Fields, Table}
use Rattle.ps_meaning.specs.Meaning.{Choice, IsChosen}
use Rattle.ps_meaning.specs.PlanTrees.{PlanTree}
use Rattle.ps_meaning.specs.Steps.{Step, cache}
use Rattle.plan_laws.specs.Laws.{IsCacheOf}
use Rattle.plan_rules.specs.Plans.{LoweredPlans, Progress, node_stream, stream_over}
use Rattle.within_plans.specs.Within.{IsWithinCall, IsWithinNode}

pub record IsOrdinary (F : Functions) (at : ℕ) (step : Step) : Type 1 where
  pub chosen : (choice : Choice) (T : Table) → IsChosen choice step T
  pub other : (k : ℕ) → IsCacheOf k step → ⊥
  pub within : (schema : Fields) (K : Progress → Type 0) (lower : Progress → LoweredPlans) (p : Progress) → IsWithinNode F at step schema K lower p → K p × IsWithinCall F at step schema (lower p)
  pub back : (schema : Fields) (K : Progress → Type 0) (lower : Progress → LoweredPlans) (p : Progress) → K p × IsWithinCall F at step schema (lower p) → IsWithinNode F at step schema K lower p
  pub same : (schema : Fields) (input : PlanTree) (lower : Progress → LoweredPlans) (p : Progress) → stream_over F at step schema (lower p) ≡ node_stream F at step schema input lower p

pub data CacheOr (F : Functions) (at : ℕ) (step : Step) : Type 1 where
  is_cache : (id : ℕ) → cache id ≡ step → CacheOr F at step
  is_ordinary : IsOrdinary F at step → CacheOr F at step

pub cache_or : (F : Functions) (at : ℕ) (step : Step) → CacheOr F at step
cache_or F at (cache id) = is_cache id refl
cache_or F at _ = is_ordinary (record { chosen = λ choice T. tt; other = λ k h. h; within = λ schema K lower p h. h; back = λ schema K lower p h. h; same = λ schema input lower p. refl })
