-- What a list of a plan's nodes tells of the plan where it is a survey of it.
use Rattle.std.specs.Prelude.{◌≡◌, ◌≢◌, ℕ, ◌≤◌, List, take, slice_get, Some, Contains, AllPairs}
use Rattle.ps_plan.specs.Graph.{HasNoCircle, IsInRange, Reached, inputs_at}
use Rattle.ps_meaning.specs.PlanTrees.{depth, occurrences}
use Rattle.ps_plan.specs.Plans.{IsPlan, Plan, tree_of}

-- wherever a number stands in the list, all that it names stands before it
abbrev pub NamedFirst : (ℕ → List ℕ) → List ℕ → Type 0
NamedFirst next order = (i n m : ℕ) → slice_get order i ≡ Some n → Contains (next n) m → Contains (take i order) m

-- each number stands once
abbrev pub Once : List ℕ → Type 0
Once xs = AllPairs (λ a b. a ≢ b) xs

-- no limit on depth or size is passed
abbrev pub IsWithinLimits : ℕ → ℕ → Type 0
IsWithinLimits depth size = (depth ≤ 256) × (size ≤ 65536)

-- these are the reached nodes, each once and after its inputs; their trees are complete and within the limits
pub record IsSurvey (plan : Plan) (order : List ℕ) : Type 0 where
  pub all : (n : ℕ) → Reached plan n → Contains order n
  pub reached : (n : ℕ) → Contains order n → Reached plan n
  pub once : Once order
  pub inputs_first : NamedFirst (inputs_at plan) order
  pub complete : (n : ℕ) → Reached plan n → IsPlan plan.nodes plan.exprs (record { 0 = n })
  pub no_circle : (n : ℕ) → Reached plan n → HasNoCircle plan n
  pub in_range : (n : ℕ) → Reached plan n → IsInRange plan n
  pub limits : (n : ℕ) → Reached plan n → IsWithinLimits (depth (tree_of plan n)) (occurrences (tree_of plan n))
