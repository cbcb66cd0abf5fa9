-- Tables kept by the numbers of nodes: each node gives its own over those of its inputs.
use Rattle.std.specs.Prelude.{ℕ, List, map, Contains, IfSome, slice_get}
use Rattle.pu_base.specs.declared.arena.Node.{Node}
use Rattle.ps_frame.specs.Functions.{Functions}
use Rattle.ps_frame.specs.Tables.{Frame}
use Rattle.ps_frame.specs.Trees.{tree_at}
use Rattle.ps_frame.specs.declared.value.DataFault.{DataFault}
use Rattle.ps_plan.specs.Graph.{Path, inputs_at}
use Rattle.ps_meaning.specs.Nodes.{GivesFrame, IsFaultAt}
use Rattle.ps_plan.specs.Plans.{Plan}
use Rattle.ps_plan.specs.Entries.{entry_inputs, entry_step}

-- the table of each number
abbrev pub Tables : Type 0
Tables = ℕ → Frame

-- the tables of these nodes
abbrev pub tables_of : Tables → List Node → List Frame
tables_of T ns = map (λ (m : Node). T m.0) ns

-- the node's step gives its table over those of its inputs
abbrev pub GivesAt : Functions → Plan → Tables → ℕ → Type 0
GivesAt F plan T n = IfSome (slice_get plan.nodes n) (λ e. GivesFrame F n (entry_step (tree_at plan.exprs) e) (tables_of T (entry_inputs e)) (T n))

-- so does each node at or below this one
abbrev pub EachGives : Functions → Plan → Tables → ℕ → Type 0
EachGives F plan T n = (m : ℕ) → Path (inputs_at plan) n m → GivesAt F plan T m

-- so does each node below this one
abbrev pub EachBelowGives : Functions → Plan → Tables → ℕ → Type 0
EachBelowGives F plan T n = (i m : ℕ) → Contains (inputs_at plan n) i → Path (inputs_at plan) i m → GivesAt F plan T m

-- the fault may come of the node's step over the tables of its inputs
abbrev pub FaultsAt : Functions → Plan → Tables → ℕ → DataFault → Type 0
FaultsAt F plan T n f = IfSome (slice_get plan.nodes n) (λ e. IsFaultAt F n (entry_step (tree_at plan.exprs) e) (tables_of T (entry_inputs e)) f)
