-- Two small tables, and queries over them.
use Rattle.std.specs.Prelude.{pos, false, [], ◌∷◌, None, codes}
use Rattle.ps_frame.specs.Tables.{Frame}
use Rattle.ps_frame.specs.Trees.{Tree}
use Rattle.ps_frame.specs.declared.expr.LiteralValue.TheVariants as literal
use Rattle.ps_frame.specs.declared.expr.Operator.TheVariants as op
use Rattle.ps_frame.specs.declared.value.DataType.TheVariants as kind
use Rattle.ps_frame.specs.declared.value.Value.TheVariants as val
use Rattle.ps_meaning.specs.PlanTrees.{PlanTree, no_trees, tree}
use Rattle.ps_meaning.specs.PlanTrees as plan
use Rattle.ps_meaning.specs.Steps.{memory_sink}
use Rattle.ps_meaning.specs.Steps as step
use Rattle.ps_meaning.specs.declared.options.JoinType.TheVariants as how
use Rattle.ps_meaning.specs.declared.options.JoinValidation.TheVariants as validation
use Rattle.text_plans.specs.QueryPlans.{Tables, table_named}
use Rattle.text_queries.specs.Queries.{Name, Int, Binary, Filter, Join, Query}

abbrev pub left : Frame
left = record { schema = (codes "a", kind.Int64) ∷ []; rows = (val.Int64 (pos 1) ∷ []) ∷ (val.Int64 (pos 2) ∷ []) ∷ [] }

abbrev pub right : Frame
right = record { schema = (codes "a", kind.Int64) ∷ []; rows = (val.Int64 (pos 2) ∷ []) ∷ [] }

-- the tables t and u
abbrev pub two_tables : Tables
two_tables = table_named (codes "t" ∷ codes "u" ∷ []) (left ∷ right ∷ [])

-- from t | join inner u on a | filter a > 1
abbrev pub joined_and_filtered : Query
joined_and_filtered = record { source = codes "t"; stages = Join how.Inner (codes "u") (codes "a" ∷ []) ∷ Filter (Binary op.Gt (Name (codes "a")) (Int (pos 1))) ∷ [] }

-- the scan of u is made after that of t and before the join
abbrev pub its_plan : PlanTree
its_plan =
    plan.node 4 memory_sink (tree
    (plan.node 3 (step.filter (Tree.binary op.Gt (Tree.column (codes "a")) (Tree.literal (literal.Int64 (pos 1))))) (tree
    (plan.node 2 (step.join (record { left_on = Tree.column (codes "a") ∷ []; right_on = Tree.column (codes "a") ∷ []; args = record { how = how.Inner; suffix = None; join_nulls = false; validation = validation.ManyToMany; slice = None } })) (tree
    (plan.node 0 (step.scan left None) no_trees) (tree (plan.node 1 (step.scan right None) no_trees) no_trees))) no_trees)) no_trees)

-- from t | join cross v | join cross w
abbrev pub of_unknown_tables : Query
of_unknown_tables = record { source = codes "t"; stages = Join how.Cross (codes "v") [] ∷ Join how.Cross (codes "w") [] ∷ [] }
