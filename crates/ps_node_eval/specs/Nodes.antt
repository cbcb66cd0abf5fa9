-- What the computation of a node of a plan takes and answers.
use Rattle.std.specs.Prelude.{◌≡◌, ℕ, List, IfSome, slice_get}
use Rattle.ps_frame.specs.Functions.{Functions}
use Rattle.ps_frame.specs.Tables.{Frame}
use Rattle.ps_frame.specs.Trees.{tree_at}
use Rattle.ps_frame.specs.declared.refusal.PolarsError.{PolarsError}
use Rattle.ps_meaning.specs.Nodes.{GivesFrame, MayFault}
use Rattle.ps_plan.specs.Plans.{Plan}
use Rattle.ps_plan.specs.Entries.{entry_inputs, entry_step}
use Rattle.ps_walks.specs.Accepted.{schemas_at}
use Rattle.ps_walks.specs.Fit.{plan_schemas}
use Rattle.ready_steps.specs.Ready.{frame_schemas}

-- the tables fit the inputs of the node
abbrev pub FitInputs : Functions → Plan → ℕ → List Frame → Type 0
FitInputs F plan n fs = IfSome (slice_get plan.nodes n) (λ e. frame_schemas fs ≡ schemas_at (plan_schemas F plan) (entry_inputs e))

-- the node's step gives the table over these
abbrev pub NodeGives : Functions → Plan → ℕ → List Frame → Frame → Type 0
NodeGives F plan n fs f = IfSome (slice_get plan.nodes n) (λ e. GivesFrame F n (entry_step (tree_at plan.exprs) e) fs f)

-- an error that the node may end with over these
abbrev pub NodeFaults : Functions → Plan → ℕ → List Frame → PolarsError → Type 0
NodeFaults F plan n fs e = IfSome (slice_get plan.nodes n) (λ x. MayFault F n (entry_step (tree_at plan.exprs) x) fs e)
