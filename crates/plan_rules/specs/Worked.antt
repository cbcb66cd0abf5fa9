-- Small plans over scans, and the nodes that they are lowered to.
use Rattle.std.specs.Prelude.{ℕ, ◌==◌, false, List, [], ◌∷◌, map, Some, None, codes}
use Rattle.ps_frame.specs.Functions.{Functions}
use Rattle.ps_frame.specs.Tables.{Fields, Frame}
use Rattle.ps_frame.specs.Trees.{Aggregation, Tree}
use Rattle.ps_frame.specs.declared.expr.Operator.TheVariants as op
use Rattle.ps_frame.specs.declared.value.DataType.TheVariants as kind
use Rattle.ps_meaning.specs.PlanTrees.{PlanTree, PlanTrees, no_trees, node, tree}
use Rattle.ps_meaning.specs.Shape.{PhysicalKind, PhysicalNode, Shape}
use Rattle.ps_meaning.specs.Steps.{Cut, JoinStep, Named, Step, cache, distinct, filter, group_by, join, memory_sink, scan, sort}
use Rattle.ps_meaning.specs.declared.options.JoinType.{JoinType}
use Rattle.ps_meaning.specs.declared.options.JoinValidation.TheVariants as validation
use Rattle.ps_meaning.specs.declared.options.UniqueKeepStrategy.{UniqueKeepStrategy}
use Rattle.ps_phys.specs.Printed.{plan_text}
use Rattle.ps_phys.specs.Walks.{shape_from}
use Rattle.ps_rules.specs.Names.{Names}
use Rattle.ps_rules.specs.Worked.{a_above_one, ab_fields, b_name, col_a, col_b, counter, int}
use Rattle.plan_rules.specs.Plans.{lowering_of}

-- a table of the columns a and b, and one of c and d
abbrev pub ab : Frame
ab = record { schema = ab_fields; rows = [] }

abbrev pub cd : Frame
cd = record { schema = (codes "c", kind.Int64) ∷ (codes "d", kind.Int64) ∷ []; rows = [] }

abbrev pub scanned : PlanTree
scanned = node 0 (scan ab None) no_trees

abbrev pub one_input : PlanTree → PlanTrees
one_input t = tree t no_trees

abbrev pub two_inputs : PlanTree → PlanTree → PlanTrees
two_inputs t u = tree t (one_input u)

-- a step over the scan, below a sink
abbrev pub sunk : Step → PlanTree
sunk step = node 2 memory_sink (one_input (node 1 step (one_input scanned)))

-- a step over two scans, below a sink
abbrev pub both_sunk : Step → PlanTree
both_sunk step = node 2 memory_sink (one_input (node 1 step (two_inputs scanned scanned)))

-- the nodes of a plan where these names are in use: those that its root reaches
abbrev pub nodes_with : Names → Functions → PlanTree → Shape
nodes_with names F t = let l = lowering_of F names t in shape_from l.progress.state.nodes l.stream.0

-- the same where no name is one that a counter gives
abbrev pub nodes_of : Functions → PlanTree → Shape
nodes_of F t = nodes_with (counter [] 0) F t

abbrev pub nodes_text : Functions → PlanTree → List ℕ
nodes_text F t = plan_text (nodes_of F t)

abbrev pub kinds_with : Names → Functions → PlanTree → List PhysicalKind
kinds_with names F t = map (λ (p : PhysicalNode). p.kind) (nodes_with names F t)

abbrev pub kinds_of : Functions → PlanTree → List PhysicalKind
kinds_of F t = kinds_with (counter [] 0) F t

abbrev pub schemas_of : Functions → PlanTree → List Fields
schemas_of F t = map (λ (p : PhysicalNode). p.schema) (nodes_of F t)

abbrev pub plus : Tree → Tree → Tree
plus l r = Tree.binary op.Plus l r

-- the values of a that are above one
abbrev pub filtered_a : Tree
filtered_a = Tree.filter col_a a_above_one

abbrev pub a_sum_above_one : Tree
a_sum_above_one = Tree.binary op.Gt (Tree.aggregate Aggregation.sum col_a) (int 1)

abbrev pub distinct_values : Tree → Tree
distinct_values e = Tree.aggregate Aggregation.n_unique e

-- keys and aggregates in whatever order of the groups
abbrev pub groups_of : List Named → List Named → Cut → Step
groups_of keys aggregates cut = group_by (record { keys = keys; aggregates = aggregates; maintain_order = false; cut = cut })

abbrev pub distinct_by_b : UniqueKeepStrategy → Cut → Step
distinct_by_b keep cut = distinct (record { subset = Some (b_name ∷ []); maintain_order = false; keep = keep; cut = cut })

abbrev pub sorted_by_b : Cut → Step
sorted_by_b cut = sort (record { keys = col_b ∷ []; descending = false ∷ []; nulls_last = false ∷ []; cut = cut })

-- a join by these keys, in which right names that stand on the left get a suffix
abbrev pub join_by : JoinType → (left_on right_on : List Tree) → Cut → JoinStep
join_by how left_on right_on cut =
    record {
      left_on = left_on;
      right_on = right_on;
      args = record { how = how; suffix = Some (codes "_r"); join_nulls = false; validation = validation.ManyToMany; slice = cut };
    }

-- a left key is equal to the right column a
abbrev pub joined_to_a : JoinType → Tree → Cut → Step
joined_to_a how key cut = join (join_by how (key ∷ []) (col_a ∷ []) cut)

-- the scan below a cache, and what of it is above one below another cache
abbrev pub cached : PlanTree
cached = node 1 (cache 7) (one_input scanned)

abbrev pub filtered_cache : PlanTree
filtered_cache = node 2 (filter a_above_one) (one_input cached)

abbrev pub cached_again : PlanTree
cached_again = node 3 (cache 8) (one_input filtered_cache)

-- functions of which the first streams, and which answer what they take
abbrev pub two_functions : Functions
two_functions = record { count = 2; streams = λ n. n == 0; answer = λ n f. Some f; declared = λ n s. Some s }
