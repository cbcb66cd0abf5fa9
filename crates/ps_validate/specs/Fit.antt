-- What a node is refused for by its entry, its place in the plan and its cache id, whatever its inputs give.
use Rattle.std.specs.Prelude.{◌≡◌, ◌≢◌, ◌⊎◌, ℕ, List, [], Contains, IsSomeAnd, slice_get, ⊤}
use Rattle.pu_base.specs.declared.arena.Node.{Node}
use Rattle.ps_frame.specs.declared.expr.What.TheVariants as what
use Rattle.ps_frame.specs.declared.refusal.PolarsError.{PolarsError}
use Rattle.ps_frame.specs.declared.refusal.PolarsError.TheVariants as error
use Rattle.ps_frame.specs.declared.refusal.Why.TheVariants as why
use Rattle.ps_meaning.specs.Laws.{IsBuilt}
use Rattle.ps_meaning.specs.StepRefusals.{HasBadKeys, HasNoKey, IsFileSink, IsSinkStep, IsValidated, NamesMissingFunction, NeedsInput}
use Rattle.ps_plan.specs.Refusals.{IsCacheOver}
use Rattle.ps_meaning.specs.Steps.{Step, left_out}
use Rattle.ps_plan.specs.declared.ir.IR.{IR}
use Rattle.ps_validate.specs.Entries.{IsStepError, IsUnsupportedStep}

-- Keys and flags fit, there is a key and an input where one is needed, a function's number is below the count, and all of it is supported.
pub record IsWellFormed (count : ℕ) (step : Step) (inputs : List Node) : Type 0 where
  pub keys : ¬ HasBadKeys step
  pub key : ¬ HasNoKey step
  pub validation : ¬ IsValidated step
  pub file : ¬ IsFileSink step
  pub function : ¬ NamesMissingFunction count step
  pub input : NeedsInput step → inputs ≢ []
  pub built : IsBuilt step

-- an error at a node, with its cause in the node's entry
abbrev pub IsEntryError : ℕ → Node → Step → List Node → PolarsError → Type 0
IsEntryError count at step inputs (error.InvalidPlan node why.Shape) = (node ≡ at) × (NamesMissingFunction count step ⊎ (NeedsInput step × (inputs ≡ [])))
IsEntryError count at step inputs (error.Unsupported node w) = (node ≡ at) × (IsUnsupportedStep step w ⊎ (step ≡ left_out w))
IsEntryError count at step inputs e = IsStepError at step e

-- the root is a sink, and no other node is
pub record IsPlaced (root at : Node) (step : Step) : Type 0 where
  pub root_sinks : at.0 ≡ root.0 → IsSinkStep step
  pub others_dont : at.0 ≢ root.0 → ¬ IsSinkStep step

-- an error at a node, with its cause in the place of the node
abbrev pub IsPlaceError : Node → Node → Step → PolarsError → Type 0
IsPlaceError root at step (error.InvalidPlan node why.Shape) = (node ≡ at) × (at.0 ≢ root.0) × IsSinkStep step
IsPlaceError root at step (error.Unsupported node what.RootNotSink) = (node ≡ at) × (at.0 ≡ root.0) × (¬ IsSinkStep step)
IsPlaceError root at step _ = ⊥

-- a cache of this id over this node stands at a number
abbrev pub IsCacheAt : List IR → ℕ → ℕ → ℕ → Type 0
IsCacheAt nodes n id input = IsSomeAnd (slice_get nodes n) (IsCacheOver id input)

-- each cache id stands over one node
abbrev pub HaveOneInput : List IR → List ℕ → Type 0
HaveOneInput nodes order = (n m id a b : ℕ) → Contains order n → Contains order m → IsCacheAt nodes n id a → IsCacheAt nodes m id b → a ≡ b

-- the id of a cache stands over another node too
pub record IsSplitCache (nodes : List IR) (order : List ℕ) (n : ℕ) : Type 0 where
  pub id : ℕ
  pub input : ℕ
  pub other : ℕ
  pub other_input : ℕ
  pub stands : Contains order n
  pub other_stands : Contains order other
  pub here : IsCacheAt nodes n id input
  pub there : IsCacheAt nodes other id other_input
  pub apart : input ≢ other_input

-- an error at a cache whose id stands over two nodes. Want of memory needs no cause.
abbrev pub IsCacheError : List IR → List ℕ → PolarsError → Type 0
IsCacheError nodes order (error.InvalidPlan node why.Limits) = IsSplitCache nodes order node.0
IsCacheError nodes order error.OutOfMemory = ⊤
IsCacheError nodes order _ = ⊥
