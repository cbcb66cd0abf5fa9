-- A query whose plan is refused, since a name in it is no column.
use Rattle.std.specs.Prelude.{[], ◌∷◌, codes}
use Rattle.ps_frame.specs.Trees.{Tree}
use Rattle.ps_meaning.specs.PlanTrees.{PlanTree, no_trees, tree}
use Rattle.ps_meaning.specs.PlanTrees as plan
use Rattle.ps_meaning.specs.Steps.{memory_sink}
use Rattle.ps_meaning.specs.Steps as step
use Rattle.text_plans.specs.Examples.{left}
use Rattle.text_plans.specs.QueryPlans.{scan_at}
use Rattle.text_queries.specs.Queries.{Name, Query, Select}

-- from t | select x = a, y = z
abbrev pub of_no_column : Query
of_no_column = record { source = codes "t"; stages = Select (record { name = codes "x"; expr = Name (codes "a") } ∷ record { name = codes "y"; expr = Name (codes "z") } ∷ []) ∷ [] }

-- its select over the two rows of t, and its plan
abbrev pub its_select : PlanTree
its_select = plan.node 1 (step.select ((codes "x", Tree.column (codes "a")) ∷ (codes "y", Tree.column (codes "z")) ∷ [])) (tree (scan_at 0 left) no_trees)

abbrev pub its_plan : PlanTree
its_plan = plan.node 2 memory_sink (tree its_select no_trees)
