-- Small plans, and the tables that they mean.
use Rattle.std.specs.Prelude.{ℕ, Bool, true, false, pos, negsuc, List, [], ◌∷◌, Some, None, codes, map}
use Rattle.ps_frame.specs.Tables.{Frame, Table, whole}
use Rattle.ps_frame.specs.Causes.{Cause}
use Rattle.ps_frame.specs.Trees.{Aggregation, Tree}
use Rattle.ps_frame.specs.declared.expr.LiteralValue.TheVariants as lit
use Rattle.ps_frame.specs.declared.expr.Operator.TheVariants as op
use Rattle.ps_frame.specs.declared.value.DataFault.{DataFault}
use Rattle.ps_frame.specs.declared.value.DataType.TheVariants as kind
use Rattle.ps_frame.specs.declared.value.Value.{Value}
use Rattle.ps_frame.specs.declared.value.Value.TheVariants as val
use Rattle.ps_meaning.specs.PlanTrees.{PlanTree, node, PlanTrees, no_trees, tree}
use Rattle.ps_meaning.specs.Steps.{DistinctStep, GroupStep, JoinStep, Name, Named, SortStep, Step, cache, distinct, filter, group_by, hconcat, hstack, join, memory_sink, row_index, scan, select, slice, sort, union}
use Rattle.ps_meaning.specs.declared.options.JoinType.{JoinType}
use Rattle.ps_meaning.specs.declared.options.JoinType.TheVariants as how
use Rattle.ps_meaning.specs.declared.options.JoinValidation.TheVariants as validation
use Rattle.ps_meaning.specs.declared.options.UniqueKeepStrategy.TheVariants as keep

abbrev pub one_input : PlanTree → PlanTrees
one_input t = tree t no_trees

abbrev pub number : ℕ → Value
number n = val.Int64 (pos n)

abbrev pub numbers : List ℕ → List (List Value)
numbers ns = map (λ n. number n ∷ []) ns

-- a frame of one column of numbers
abbrev pub single : Name → List ℕ → Frame
single n ns = record { schema = (n, kind.Int64) ∷ []; rows = numbers ns }

abbrev pub a_frame : List ℕ → Frame
a_frame ns = single (codes "a") ns

abbrev pub a_table : List ℕ → Table
a_table ns = whole (a_frame ns)

abbrev pub one : Tree
one = Tree.literal (lit.Int64 (pos 1))

abbrev pub a_above_one : Tree
a_above_one = Tree.binary op.Gt (Tree.column (codes "a")) one

-- a scan of a frame
abbrev pub scan_of : ℕ → Frame → PlanTree
scan_of at f = node at (scan f None) no_trees

-- a filter on a > 1
abbrev pub filter_plan : PlanTree
filter_plan = node 2 memory_sink (one_input (node 1 (filter a_above_one) (one_input (scan_of 0 (a_frame (1 ∷ 2 ∷ 3 ∷ []))))))

-- two tables side by side: the shorter one is filled with null
abbrev pub hconcat_plan : PlanTree
hconcat_plan = node 3 memory_sink (one_input (node 2 hconcat (tree (scan_of 0 (a_frame (1 ∷ 2 ∷ []))) (one_input (scan_of 1 (single (codes "b") (7 ∷ 8 ∷ 9 ∷ [])))))))

abbrev pub hconcat_table : Table
hconcat_table =
    record {
      schema = (codes "a", kind.Int64) ∷ (codes "b", kind.Int64) ∷ [];
      rows = (number 1 ∷ number 7 ∷ []) ∷ (number 2 ∷ number 8 ∷ []) ∷ (val.Null ∷ number 9 ∷ []) ∷ [];
      broken = [];
    }

-- A literal key: the group has all rows of the input, and not the key's one row.
abbrev pub literal_key : GroupStep
literal_key = record { keys = (codes "k", one) ∷ []; aggregates = (codes "n", Tree.len) ∷ []; maintain_order = false; cut = None }

abbrev pub group_plan : PlanTree
group_plan = node 2 memory_sink (one_input (node 1 (group_by literal_key) (one_input (scan_of 0 (a_frame (1 ∷ 2 ∷ 3 ∷ []))))))

abbrev pub key_count : ℕ → Table
key_count n = record { schema = (codes "k", kind.Int64) ∷ (codes "n", kind.IdxSize) ∷ []; rows = (number 1 ∷ val.IdxSize n ∷ []) ∷ []; broken = [] }

-- rows 2 to 5 of six
abbrev pub slice_plan : PlanTree
slice_plan = node 2 memory_sink (one_input (node 1 (slice (pos 2) 3) (one_input (scan_of 0 (a_frame (0 ∷ 1 ∷ 2 ∷ 3 ∷ 4 ∷ 5 ∷ []))))))

abbrev pub k_column : Tree
k_column = Tree.column (codes "k")

abbrev pub by_k : GroupStep
by_k = record { keys = (codes "k", k_column) ∷ []; aggregates = []; maintain_order = false; cut = None }

abbrev pub k_frame : List ℕ → Frame
k_frame ns = single (codes "k") ns

abbrev pub given : Frame
given = k_frame (1 ∷ 2 ∷ 1 ∷ [])

-- the distinct values of k, kept under a cache
abbrev pub cached : PlanTree
cached = node 2 (cache 0) (one_input (node 1 (group_by by_k) (one_input (scan_of 0 given))))

abbrev pub k_as : ℕ → Name → PlanTree
k_as at name = node at (select ((name, k_column) ∷ [])) (one_input cached)

abbrev pub twice_plan : PlanTree
twice_plan = node 6 memory_sink (one_input (node 5 hconcat (tree (k_as 3 (codes "k1")) (one_input (k_as 4 (codes "k2"))))))

abbrev pub two_columns : ℕ → ℕ → ℕ → ℕ → Table
two_columns a b c d =
    record { schema = (codes "k1", kind.Int64) ∷ (codes "k2", kind.Int64) ∷ []; rows = (number a ∷ number b ∷ []) ∷ (number c ∷ number d ∷ []) ∷ []; broken = [] }

-- a select of two expressions of one name, of which the first names a column that isn't there
abbrev pub twice_x : Step
twice_x = select ((codes "x", Tree.column (codes "z")) ∷ (codes "x", one) ∷ [])

-- One step over a scan, and the same under a sink.
abbrev pub over_scan : Frame → Step → PlanTree
over_scan f step = node 1 step (one_input (scan_of 0 f))

abbrev pub under_sink : PlanTree → PlanTree
under_sink t = node 2 memory_sink (one_input t)

abbrev pub a_column : Tree
a_column = Tree.column (codes "a")

abbrev pub b_column : Tree
b_column = Tree.column (codes "b")

abbrev pub int : ℕ → Tree
int n = Tree.literal (lit.Int64 (pos n))

-- a = 1, 2, 3 beside b = 4, 5, 6
abbrev pub ab : Frame
ab =
    record {
      schema = (codes "a", kind.Int64) ∷ (codes "b", kind.Int64) ∷ [];
      rows = (number 1 ∷ number 4 ∷ []) ∷ (number 2 ∷ number 5 ∷ []) ∷ (number 3 ∷ number 6 ∷ []) ∷ [];
    }

-- a sum beside a column
abbrev pub sum_plan : PlanTree
sum_plan = under_sink (over_scan ab (select ((codes "s", Tree.aggregate Aggregation.sum a_column) ∷ (codes "b", b_column) ∷ [])))

abbrev pub sum_table : Table
sum_table = whole (record { schema = (codes "s", kind.Int64) ∷ (codes "b", kind.Int64) ∷ []; rows = (number 6 ∷ number 4 ∷ []) ∷ (number 6 ∷ number 5 ∷ []) ∷ (number 6 ∷ number 6 ∷ []) ∷ [] })

-- a literal over an empty table, alone and beside a column
abbrev pub literal_plan : PlanTree
literal_plan = under_sink (over_scan (a_frame []) (select ((codes "x", one) ∷ [])))

abbrev pub beside_empty_plan : PlanTree
beside_empty_plan = under_sink (over_scan (a_frame []) (select ((codes "x", one) ∷ (codes "a", a_column) ∷ [])))

abbrev pub no_row_table : Table
no_row_table = whole (record { schema = (codes "x", kind.Int64) ∷ (codes "a", kind.Int64) ∷ []; rows = [] })

-- a column of two rows beside one of three
abbrev pub misfit_plan : PlanTree
misfit_plan = over_scan ab (select ((codes "x", Tree.filter a_column a_above_one) ∷ (codes "b", b_column) ∷ []))

-- a column of one row beside one of none
abbrev pub one_and_none_plan : PlanTree
one_and_none_plan = under_sink (over_scan (a_frame (1 ∷ [])) (hstack ((codes "b", Tree.filter a_column (Tree.binary op.Gt a_column (int 5))) ∷ [])))

abbrev pub ab_without_rows : Table
ab_without_rows = whole (record { schema = (codes "a", kind.Int64) ∷ (codes "b", kind.Int64) ∷ []; rows = [] })

-- a column that is replaced in its place
abbrev pub replaced_plan : PlanTree
replaced_plan = under_sink (over_scan (a_frame (1 ∷ 2 ∷ 3 ∷ [])) (hstack ((codes "a", Tree.aggregate Aggregation.sum a_column) ∷ [])))

-- row numbers from an offset on
abbrev pub index_plan : ℕ → PlanTree
index_plan offset = over_scan (a_frame (5 ∷ [])) (row_index (codes "i") (Some offset))

abbrev pub indexed : Table
indexed = whole (record { schema = (codes "i", kind.IdxSize) ∷ (codes "a", kind.Int64) ∷ []; rows = (val.IdxSize 4294967294 ∷ number 5 ∷ []) ∷ [] })

-- a strict cast of a text that is no number, and a slice of no rows above it
abbrev pub texts : Frame
texts = record { schema = (codes "t", kind.String) ∷ []; rows = (val.String (codes "x") ∷ []) ∷ [] }

abbrev pub cast_plan : PlanTree
cast_plan = over_scan texts (select ((codes "n", Tree.cast kind.Int64 true (Tree.column (codes "t"))) ∷ []))

abbrev pub forgotten_plan : PlanTree
forgotten_plan = node 3 memory_sink (one_input (node 2 (slice (pos 0) 0) (one_input cast_plan)))

-- a column under a name that the engine might make up, beside a sum
abbrev pub odd_name : Name
odd_name = codes "__POLARS_STMP_0"

abbrev pub odd_name_plan : PlanTree
odd_name_plan =
    under_sink (over_scan (record { schema = (odd_name, kind.Int64) ∷ (codes "a", kind.Int64) ∷ []; rows = (number 7 ∷ number 1 ∷ []) ∷ (number 8 ∷ number 2 ∷ []) ∷ [] })
    (select ((odd_name, Tree.column odd_name) ∷ (codes "s", Tree.aggregate Aggregation.sum a_column) ∷ [])))

abbrev pub odd_name_table : Table
odd_name_table = whole (record { schema = (odd_name, kind.Int64) ∷ (codes "s", kind.Int64) ∷ []; rows = (number 7 ∷ number 3 ∷ []) ∷ (number 8 ∷ number 3 ∷ []) ∷ [] })

-- the greatest number and one, and quotients of -7 and by 0
abbrev pub arithmetic : List Named
arithmetic =
    (codes "x", Tree.binary op.Plus (Tree.literal (lit.Int64 (pos 9223372036854775807))) (int 1))
    ∷ (codes "y", Tree.binary op.FloorDivide (Tree.literal (lit.Int64 (negsuc 6))) (int 2))
    ∷ (codes "z", Tree.binary op.FloorDivide (int 7) (int 0)) ∷ []

abbrev pub arithmetic_plan : PlanTree
arithmetic_plan = under_sink (over_scan (a_frame []) (select arithmetic))

abbrev pub arithmetic_table : Table
arithmetic_table =
    whole (record {
      schema = (codes "x", kind.Int64) ∷ (codes "y", kind.Int64) ∷ (codes "z", kind.Int64) ∷ [];
      rows = (val.Int64 (negsuc 9223372036854775807) ∷ val.Int64 (negsuc 3) ∷ val.Null ∷ []) ∷ [];
    })

-- the values from the last but one on, as many as a length says
abbrev pub cut_plan : Tree → PlanTree
cut_plan count = over_scan (a_frame (1 ∷ 2 ∷ 3 ∷ [])) (select ((codes "x", Tree.slice a_column (Tree.literal (lit.Int64 (negsuc 1))) count) ∷ []))

abbrev pub minus_one : Tree
minus_one = Tree.literal (lit.Int64 (negsuc 0))

-- the value at place 3 of three
abbrev pub gather_plan : PlanTree
gather_plan = over_scan (a_frame (1 ∷ 2 ∷ 3 ∷ [])) (select ((codes "x", Tree.gather true a_column (int 3)) ∷ []))

-- a fault that the step of node 1 makes
abbrev pub at_one : DataFault → Cause
at_one f = record { fault = f; node = 1 }

-- a union with a slice of its own
abbrev pub union_plan : PlanTree
union_plan = node 3 memory_sink (one_input (node 2 (union (Some (pos 1, 1))) (tree (scan_of 0 (a_frame (1 ∷ []))) (one_input (scan_of 1 (a_frame (2 ∷ [])))))))

-- the rows whose key comes once, in the input's order or in any
abbrev pub once : Bool → DistinctStep
once maintained = record { subset = None; maintain_order = maintained; keep = keep.None; cut = None }

abbrev pub distinct_plan : Bool → PlanTree
distinct_plan maintained = node 2 memory_sink (one_input (node 1 (distinct (once maintained)) (one_input (scan_of 0 (a_frame (1 ∷ 2 ∷ 2 ∷ 3 ∷ []))))))

-- a join without a suffix and a slice of its own
abbrev pub plain_join : JoinType → Bool → Tree → Tree → JoinStep
plain_join type nulls l r =
    record {
      left_on = l ∷ [];
      right_on = r ∷ [];
      args = record { how = type; suffix = None; join_nulls = nulls; validation = validation.ManyToMany; slice = None };
    }

abbrev pub orders : Frame
orders =
    record {
      schema = (codes "cust", kind.Int64) ∷ (codes "amount", kind.Int64) ∷ [];
      rows = (number 1 ∷ number 30 ∷ []) ∷ (number 2 ∷ number 20 ∷ []) ∷ (number 1 ∷ number 50 ∷ []) ∷ (number 3 ∷ number 10 ∷ []) ∷ [];
    }

abbrev pub ann : Value
ann = val.String (codes "Ann")

abbrev pub bo : Value
bo = val.String (codes "Bo")

abbrev pub customers : Frame
customers = record { schema = (codes "id", kind.Int64) ∷ (codes "name", kind.String) ∷ []; rows = (number 1 ∷ ann ∷ []) ∷ (number 2 ∷ bo ∷ []) ∷ [] }

abbrev pub on_customer : JoinStep
on_customer = plain_join how.Inner false (Tree.column (codes "cust")) (Tree.column (codes "id"))

abbrev pub by_name : GroupStep
by_name =
    record {
      keys = (codes "name", Tree.column (codes "name")) ∷ [];
      aggregates = (codes "total", Tree.aggregate Aggregation.sum (Tree.column (codes "amount"))) ∷ [];
      maintain_order = false;
      cut = None;
    }

abbrev pub by_total : SortStep
by_total = record { keys = Tree.column (codes "total") ∷ []; descending = true ∷ []; nulls_last = false ∷ []; cut = None }

abbrev pub totals_plan : PlanTree
totals_plan =
    node 5 memory_sink (one_input (node 4 (sort by_total) (one_input (node 3 (group_by by_name) (one_input (node 2 (join on_customer) (tree (scan_of 0 orders) (one_input (scan_of 1 customers)))))))))

abbrev pub joined : Table
joined =
    record {
      schema = (codes "cust", kind.Int64) ∷ (codes "amount", kind.Int64) ∷ (codes "name", kind.String) ∷ [];
      rows = (number 1 ∷ number 30 ∷ ann ∷ []) ∷ (number 2 ∷ number 20 ∷ bo ∷ []) ∷ (number 1 ∷ number 50 ∷ ann ∷ []) ∷ [];
      broken = [];
    }

abbrev pub totals : Table
totals = record { schema = (codes "name", kind.String) ∷ (codes "total", kind.Int64) ∷ []; rows = (ann ∷ number 80 ∷ []) ∷ (bo ∷ number 20 ∷ []) ∷ []; broken = [] }

-- keys with a null on each side
abbrev pub left_keys : Frame
left_keys = record { schema = (codes "k", kind.Int64) ∷ []; rows = (number 1 ∷ []) ∷ (val.Null ∷ []) ∷ [] }

abbrev pub right_keys : Frame
right_keys =
    record {
      schema = (codes "k", kind.Int64) ∷ (codes "v", kind.String) ∷ [];
      rows = (number 1 ∷ val.String (codes "x") ∷ []) ∷ (val.Null ∷ val.String (codes "y") ∷ []) ∷ [];
    }

abbrev pub on_k : Bool → JoinStep
on_k nulls = plain_join how.Left nulls (Tree.column (codes "k")) (Tree.column (codes "k"))

abbrev pub by_k_last : SortStep
by_k_last = record { keys = Tree.column (codes "k") ∷ []; descending = false ∷ []; nulls_last = true ∷ []; cut = None }

abbrev pub left_plan : Bool → PlanTree
left_plan nulls = node 4 memory_sink (one_input (node 3 (sort by_k_last) (one_input (node 2 (join (on_k nulls)) (tree (scan_of 0 left_keys) (one_input (scan_of 1 right_keys)))))))

-- what stands beside the null key
abbrev pub left_table : Value → Table
left_table v = record { schema = (codes "k", kind.Int64) ∷ (codes "v", kind.String) ∷ []; rows = (number 1 ∷ val.String (codes "x") ∷ []) ∷ (val.Null ∷ v ∷ []) ∷ []; broken = [] }
