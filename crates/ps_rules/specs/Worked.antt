-- Worked calls over a source of two columns.
use Rattle.std.specs.Prelude.{ℕ, true, false, List, [], ◌∷◌, ◌++◌, None, codes, pos}
use Rattle.ps_frame.specs.Tables.{Fields}
use Rattle.ps_frame.specs.Trees.{Aggregation, Tree, Trees}
use Rattle.ps_frame.specs.declared.expr.FunctionExpr.TheVariants as fun
use Rattle.ps_frame.specs.declared.expr.LiteralValue.TheVariants as lit
use Rattle.ps_frame.specs.declared.expr.Operator.TheVariants as op
use Rattle.ps_frame.specs.declared.value.DataType.{DataType}
use Rattle.ps_frame.specs.declared.value.DataType.TheVariants as kind
use Rattle.ps_meaning.specs.Shape.{PhysicalKind, PhysicalNode, filter_node, in_memory_map, in_memory_source, independent_select, reduce, select_node, simple_projection, zip_node}
use Rattle.ps_meaning.specs.Steps.{Name, Named, select, sort}
use Rattle.ps_rules.specs.Calls.{Answer}
use Rattle.ps_rules.specs.Lowered.{lower_exprs, select_stream}
use Rattle.ps_rules.specs.Names.{Names, temporary}
use Rattle.ps_rules.specs.Slots.{Made, State}

abbrev pub a_name : Name
a_name = codes "a"

abbrev pub b_name : Name
b_name = codes "b"

abbrev pub col_a : Tree
col_a = Tree.column a_name

abbrev pub col_b : Tree
col_b = Tree.column b_name

-- the fresh name of a number, and the column of that name
abbrev pub column_of : ℕ → Tree
column_of k = Tree.column (temporary k)

abbrev pub int : ℕ → Tree
int n = Tree.literal (lit.Int64 (pos n))

abbrev pub a_above_one : Tree
a_above_one = Tree.binary op.Gt col_a (int 1)

abbrev pub sum_of : Tree → Tree
sum_of e = Tree.aggregate Aggregation.sum e

abbrev pub ab_fields : Fields
ab_fields = (a_name, kind.Int64) ∷ (b_name, kind.Int64) ∷ []

-- the source, of the logical node 0
abbrev pub source : PhysicalNode
source = record { kind = in_memory_source (record { schema = ab_fields; rows = [] }); schema = ab_fields; origin = 0; inputs = [] }

-- names where those of these numbers are in use, and the counter is at a number
abbrev pub counter : List ℕ → ℕ → Names
counter taken next = record { taken = taken; next = next }

-- the source alone, where the names of these numbers are in use
abbrev pub before : List ℕ → State
before taken = record { nodes = source ∷ []; names = counter taken 0 }

-- calls for node 1, where no name of the source's columns is one that a counter gives
abbrev pub start : State
start = before []

abbrev pub answer : List Tree → Answer
answer es = lower_exprs 1 (0, 0) es start

abbrev pub stream_of_select : List Named → Made
stream_of_select es = select_stream 1 (0, 0) es start

-- a node of these calls that reads one node, all, or none
abbrev pub over_node : PhysicalKind → Fields → ℕ → PhysicalNode
over_node kind schema from = record { kind = kind; schema = schema; origin = 1; inputs = (from, 0) ∷ [] }

abbrev pub over_none : PhysicalKind → Fields → PhysicalNode
over_none kind schema = record { kind = kind; schema = schema; origin = 1; inputs = [] }

abbrev pub over_two : PhysicalKind → Fields → ℕ → ℕ → PhysicalNode
over_two kind schema left right = record { kind = kind; schema = schema; origin = 1; inputs = (left, 0) ∷ (right, 0) ∷ [] }

-- what stands after a call: the source, the nodes that it made, and how many fresh names it took
abbrev pub after : List PhysicalNode → ℕ → State
after nodes fresh = record { nodes = source ∷ nodes; names = counter [] fresh }

-- a fresh name with the kind of its column
abbrev pub field : ℕ → DataType → Name × DataType
field k kind = (temporary k, kind)

-- a sum beside a column: one reduce, zipped with the source
abbrev pub sum_node : PhysicalNode
sum_node = over_node (reduce ((temporary 0, sum_of col_a) ∷ [])) (field 0 kind.Int64 ∷ []) 0

abbrev pub sum_beside_b : Answer
sum_beside_b =
    record {
      state = after (sum_node ∷ over_two (zip_node false) (ab_fields ++ field 0 kind.Int64 ∷ []) 0 1 ∷ []) 1;
      stream = (2, 0);
      exprs = column_of 0 ∷ col_b ∷ [];
    }

-- two reductions of the input are one reduce
abbrev pub two_sums : Answer
two_sums =
    record {
      state = after (over_node (reduce ((temporary 0, sum_of col_a) ∷ (temporary 1, Tree.len) ∷ [])) (field 0 kind.Int64 ∷ field 1 kind.IdxSize ∷ []) 0 ∷ []) 2;
      stream = (1, 0);
      exprs = column_of 0 ∷ column_of 1 ∷ [];
    }

-- two literals are computed without the source
abbrev pub two_literals : Answer
two_literals =
    record {
      state = after (over_none (independent_select ((temporary 0, int 1) ∷ (temporary 1, int 2) ∷ [])) (field 0 kind.Int64 ∷ field 1 kind.Int64 ∷ []) ∷ []) 2;
      stream = (1, 0);
      exprs = column_of 0 ∷ column_of 1 ∷ [];
    }

-- an operator stays over operands that are lowered together: the source and the one reduce
abbrev pub b_and_sum : Tree
b_and_sum = Tree.binary op.Plus col_b (sum_of col_a)

abbrev pub operands_together : Answer
operands_together =
    record {
      state = after (sum_node ∷ over_two (zip_node false) (ab_fields ++ field 0 kind.Int64 ∷ []) 0 1 ∷ []) 1;
      stream = (2, 0);
      exprs = Tree.binary op.Plus col_b (column_of 0) ∷ [];
    }

-- a function of a whole column is left to a map over that column alone
abbrev pub reversed_b : Tree
reversed_b = Tree.function fun.Reverse col_b

abbrev pub mapped_alone : Answer
mapped_alone =
    record {
      state = after (over_node (simple_projection (b_name ∷ [])) ((b_name, kind.Int64) ∷ []) 0 ∷ over_node (in_memory_map (select ((temporary 0, reversed_b) ∷ []))) (field 0 kind.Int64 ∷ []) 1 ∷ []) 1;
      stream = (2, 0);
      exprs = column_of 0 ∷ [];
    }

-- a filter selects the values and the predicate, both under fresh names
abbrev pub filtered_b : Answer
filtered_b =
    record {
      state = after (
          over_node (select_node ((temporary 0, col_b) ∷ (temporary 1, a_above_one) ∷ []) false) (field 0 kind.Int64 ∷ field 1 kind.Boolean ∷ []) 0
          ∷ over_node (filter_node (column_of 1)) (field 0 kind.Int64 ∷ field 1 kind.Boolean ∷ []) 1 ∷ []
          ) 2;
      stream = (2, 0);
      exprs = column_of 0 ∷ [];
    }

-- a sort by a key sorts the values with the key, and keeps the values alone
abbrev pub by_a : Tree
by_a = Tree.sort_by (true ∷ []) (false ∷ []) col_b (Trees.tree col_a Trees.no_trees)

abbrev pub sorted_by_a : Answer
sorted_by_a =
    record {
      state = after (
          over_node (select_node ((temporary 0, col_b) ∷ (temporary 1, col_a) ∷ []) false) (field 0 kind.Int64 ∷ field 1 kind.Int64 ∷ []) 0
          ∷ over_node (in_memory_map (sort (record { keys = column_of 1 ∷ []; descending = true ∷ []; nulls_last = false ∷ []; cut = None }))) (field 0 kind.Int64 ∷ field 1 kind.Int64 ∷ []) 1
          ∷ over_node (simple_projection (temporary 0 ∷ [])) (field 0 kind.Int64 ∷ []) 2 ∷ []
          ) 2;
      stream = (3, 0);
      exprs = column_of 0 ∷ [];
    }

-- a sum of a sum: a reduce over a reduce
abbrev pub sum_of_sum : Answer
sum_of_sum =
    record {
      state = after (sum_node ∷ over_node (reduce ((temporary 1, sum_of (column_of 0)) ∷ [])) (field 1 kind.Int64 ∷ []) 1 ∷ []) 2;
      stream = (2, 0);
      exprs = column_of 1 ∷ [];
    }

-- the select of a literal under a name
abbrev pub literal_selected : Made
literal_selected = record { state = after (over_none (independent_select ((codes "x", int 1) ∷ [])) ((codes "x", kind.Int64) ∷ []) ∷ []) 0; stream = (1, 0) }

-- the select of columns under their own names
abbrev pub b_selected : Made
b_selected = record { state = after (over_node (simple_projection (b_name ∷ [])) ((b_name, kind.Int64) ∷ []) 0 ∷ []) 0; stream = (1, 0) }

-- the select of a column under another name
abbrev pub b_renamed : Made
b_renamed = record { state = after (over_node (select_node ((codes "x", col_b) ∷ []) false) ((codes "x", kind.Int64) ∷ []) 0 ∷ []) 0; stream = (1, 0) }
