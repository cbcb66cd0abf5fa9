-- The plan of a query: the scan of its table, a node for each stage and a sink, as a tree over numbered nodes.
use Rattle.std.specs.Prelude.{ℕ, ◌+◌, true, false, List, [], ◌∷◌, map, filter_map, find, Option, Some, None, is_none, option_and_then, option_map, position, slice_get}
use Rattle.std.specs.Str.{bytes_eq}
use Rattle.ps_frame.specs.Tables.{Frame}
use Rattle.ps_frame.specs.Trees.{Tree, Aggregation}
use Rattle.ps_frame.specs.declared.expr.FunctionExpr.TheVariants as function
use Rattle.ps_frame.specs.declared.expr.LiteralValue.TheVariants as literal
use Rattle.ps_meaning.specs.PlanTrees.{PlanTree, no_trees, tree}
use Rattle.ps_meaning.specs.PlanTrees as plan
use Rattle.ps_meaning.specs.Steps.{Named, Step, memory_sink}
use Rattle.ps_meaning.specs.Steps as step
use Rattle.ps_meaning.specs.declared.options.JoinValidation.TheVariants as validation
use Rattle.ps_meaning.specs.declared.options.UniqueKeepStrategy.TheVariants as keep
use Rattle.text_queries.specs.Queries.{Expr, Name, Int, Text, Truth, Null, Call, Len, Binary, Item, Key, Stage, Filter, Select, With, Group, Sort, Slice, Distinct, Join, Query}
use Rattle.text_queries.specs.declared.words.TextFn.{TextFn}
use Rattle.text_queries.specs.declared.words.TextFn.TheVariants as fun

-- a function of an expression; a count leaves nulls out
abbrev pub call_tree : TextFn → Tree → Tree
call_tree fun.Min e = Tree.aggregate Aggregation.min e
call_tree fun.Max e = Tree.aggregate Aggregation.max e
call_tree fun.First e = Tree.aggregate Aggregation.first e
call_tree fun.Last e = Tree.aggregate Aggregation.last e
call_tree fun.Sum e = Tree.aggregate Aggregation.sum e
call_tree fun.NUnique e = Tree.aggregate Aggregation.n_unique e
call_tree fun.Count e = Tree.aggregate (Aggregation.count false) e
call_tree fun.Not e = Tree.function function.Not e
call_tree fun.IsNull e = Tree.function function.IsNull e
call_tree fun.IsNotNull e = Tree.function function.IsNotNull e

-- what an expression does over a table
abbrev pub expr_tree : Expr → Tree
expr_tree (Name name) = Tree.column name
expr_tree (Int n) = Tree.literal (literal.Int64 n)
expr_tree (Text text) = Tree.literal (literal.String text)
expr_tree (Truth b) = Tree.literal (literal.Boolean b)
expr_tree (Null k) = Tree.literal (literal.Null k)
expr_tree (Call name operand) = call_tree name (expr_tree operand)
expr_tree Len = Tree.len
expr_tree (Binary operator left right) = Tree.binary operator (expr_tree left) (expr_tree right)

abbrev pub named : Item → Named
named item = (item.name, expr_tree item.expr)

-- the columns of the names
abbrev pub columns : List (List ℕ) → List Tree
columns names = map Tree.column names

-- what a stage does; nulls come first in a sort, a group and a distinct keep the order, and a distinct the first row of all columns
abbrev pub stage_step : Stage → Step
stage_step (Filter predicate) = step.filter (expr_tree predicate)
stage_step (Select items) = step.select (map named items)
stage_step (With items) = step.hstack (map named items)
stage_step (Group keys aggs) = step.group_by (record { keys = map named keys; aggregates = map named aggs; maintain_order = true; cut = None })
stage_step (Sort keys) =
    step.sort (record { keys = map (λ (k : Key). expr_tree k.expr) keys; descending = map (λ (k : Key). k.desc) keys; nulls_last = map (λ (k : Key). false) keys; cut = None })
stage_step (Slice offset length) = step.slice offset length
stage_step Distinct = step.distinct (record { subset = None; maintain_order = true; keep = keep.First; cut = None })
stage_step (Join kept table on) =
    step.join (record { left_on = columns on; right_on = columns on; args = record { how = kept; suffix = None; join_nulls = false; validation = validation.ManyToMany; slice = None } })

-- the table of each name, if it has one
abbrev pub Tables : Type 0
Tables = List ℕ → Option Frame

-- names beside their tables
abbrev pub table_named : List (List ℕ) → List Frame → Tables
table_named names tables name = option_and_then (λ place. slice_get tables place) (position (bytes_eq name) names)

-- the scan of a table, as the node of this number
abbrev pub scan_at : ℕ → Frame → PlanTree
scan_at at frame = plan.node at (step.scan frame None) no_trees

-- how many nodes a stage makes: a join's first one is the scan of its right table
abbrev pub nodes_of : Stage → ℕ
nodes_of (Join kept table on) = 2
nodes_of _ = 1

-- the node of a stage over what comes before it, where so many nodes stand before; none where its right table is unknown
abbrev pub stage_tree : Tables → ℕ → PlanTree → Stage → Option PlanTree
stage_tree tables at before (Join kept table on) =
    option_map (λ frame. plan.node (at + 1) (stage_step (Join kept table on)) (tree before (tree (scan_at at frame) no_trees))) (tables table)
stage_tree tables at before stage = Some (plan.node at (stage_step stage) (tree before no_trees))

-- the stages, one over the other, and the sink over the last
abbrev pub stages_tree : Tables → ℕ → PlanTree → List Stage → Option PlanTree
stages_tree tables at before [] = Some (plan.node at memory_sink (tree before no_trees))
stages_tree tables at before (stage ∷ stages) = option_and_then (λ node. stages_tree tables (at + nodes_of stage) node stages) (stage_tree tables at before stage)

-- the tree of a query; none where a name is no table
abbrev pub query_tree : Tables → Query → Option PlanTree
query_tree tables query = option_and_then (λ frame. stages_tree tables 1 (scan_at 0 frame) query.stages) (tables query.source)

-- the names that stand for tables, in the order of the text
abbrev pub stage_table : Stage → Option (List ℕ)
stage_table (Join kept table on) = Some table
stage_table _ = None

abbrev pub query_tables : Query → List (List ℕ)
query_tables query = query.source ∷ filter_map stage_table query.stages

-- the first of the names that is no table
abbrev pub first_unknown : Tables → List (List ℕ) → Option (List ℕ)
first_unknown tables names = find (λ name. is_none (tables name)) names
