-- How many nodes the calls that lower steps and plans may insert.
use Rattle.std.specs.Prelude.{ℕ, ℤ, suc, ◌+◌, ◌*◌, ◌≤◌, List, length}
use Rattle.ps_frame.specs.Functions.{Functions}
use Rattle.ps_frame.specs.Tables.{Fields}
use Rattle.ps_meaning.specs.PlanTrees.{PlanTree, PlanTrees, missing, no_trees, node, tree}
use Rattle.ps_meaning.specs.Steps.{GroupStep, Step, exprs_of, step_exprs}
use Rattle.ps_rules.specs.Counted.{inserts_for, occurrences_in}
use Rattle.ps_rules.specs.Slots.{State, Stream}
use Rattle.plan_rules.specs.Groups.{group_stream}
use Rattle.plan_rules.specs.Nodes.{step_stream}
use Rattle.plan_rules.specs.Plans.{Progress, lower_plan}
use Rattle.plan_rules.specs.Slices.{slice_stream}

-- the nodes of a plan, and the occurrences in their expressions that aren't columns
abbrev mutual
  pub plan_occurrences : PlanTree → ℕ
  plan_occurrences (node at step below) = suc (occurrences_in (step_exprs step) + occurrences_below below)
  plan_occurrences missing = 0

  pub occurrences_below : PlanTrees → ℕ
  occurrences_below no_trees = 0
  occurrences_below (tree t ts) = plan_occurrences t + occurrences_below ts

-- a bound on the nodes that a call on a plan inserts
abbrev pub inserts_for_plan : PlanTree → ℕ
inserts_for_plan t = 64 * suc (plan_occurrences t)

-- at most so many nodes are inserted
abbrev pub InsertsAtMost : ℕ → (before after : State) → Type 0
InsertsAtMost most before after = length after.nodes ≤ length before.nodes + most

-- of a group-by its keys alone count
abbrev pub GroupsInsertFew : Type 0
GroupsInsertFew = (at : ℕ) (o : GroupStep) (input : Stream) (s : State) → InsertsAtMost (inserts_for (exprs_of o.keys)) s (group_stream at o input s).state

-- a slice is one node
abbrev pub SlicesInsertOne : Type 0
SlicesInsertOne = (at : ℕ) (offset : ℤ) (n : ℕ) (input : Stream) (s : State) → InsertsAtMost 1 s (slice_stream at offset n input s).state

-- of a step its own expressions count
abbrev pub StepsInsertFew : Type 0
StepsInsertFew = (F : Functions) (at : ℕ) (step : Step) (schema : Fields) (inputs : List Stream) (s : State) → InsertsAtMost (inserts_for (step_exprs step)) s (step_stream at F step schema inputs s).state

-- of a plan its nodes and their expressions; a cache id that has a stream already adds none
abbrev pub PlansInsertFew : Type 0
PlansInsertFew = (F : Functions) (t : PlanTree) (p : Progress) → InsertsAtMost (inserts_for_plan t) p.state (lower_plan F t p).progress.state
