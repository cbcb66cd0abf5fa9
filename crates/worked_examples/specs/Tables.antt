-- What the definitions of expressions and columns give on small tables.
use Rattle.std.specs.Prelude.{◌≡◌, refl, ℕ, ℤ, pos, negsuc, ◌-◌, ◌^◌, List, [], ◌∷◌, codes, true, false, Some, None}
use Rattle.std.specs.Int.{int_wrap}
use Rattle.std.specs.Fmt.{digits}
use Rattle.csv.specs.Writing.{escaped, fields_text, is_blank}
use Rattle.ps_frame.specs.Causes.{Cause, value, faulty, whole_column}
use Rattle.ps_frame.specs.Csv.{csv_text_of}
use Rattle.ps_frame.specs.Eval.{eval, eval_all}
use Rattle.ps_frame.specs.Examples.{a, a123, b, bad_text, col_a, earlier, int, lit_int, table_a}
use Rattle.ps_frame.specs.Tables.{Table}
use Rattle.ps_frame.specs.Trees.{Aggregation, IsExpression, Tree, Trees, tree_at, tree_within}
use Rattle.pu_base.specs.declared.arena.Node.{Node}
use Rattle.ps_frame.specs.declared.expr.AExpr.{AExpr}
use Rattle.ps_frame.specs.declared.expr.AExpr.TheVariants as entry
use Rattle.ps_frame.specs.Typing.{kind_over}
use Rattle.ps_frame.specs.Zip.{Zipped, zipped}
use Rattle.ps_frame.specs.declared.expr.FunctionExpr.TheVariants as fun
use Rattle.ps_frame.specs.declared.expr.LiteralValue.TheVariants as lit
use Rattle.ps_frame.specs.declared.expr.Operator.TheVariants as op
use Rattle.ps_frame.specs.declared.value.DataFault.TheVariants as fault
use Rattle.ps_frame.specs.declared.value.DataType.TheVariants as kind
use Rattle.ps_frame.specs.declared.value.Value.{Value}
use Rattle.ps_frame.specs.declared.value.Value.TheVariants as val

-- a table with the columns a and b
abbrev pub table_ab : List (List Value) → Table
table_ab rows = record { schema = (a, kind.Int64) ∷ (b, kind.Int64) ∷ []; rows = rows; broken = [] }

abbrev pub ab123456 : Table
ab123456 = table_ab ((int 1 ∷ int 4 ∷ []) ∷ (int 2 ∷ int 5 ∷ []) ∷ (int 3 ∷ int 6 ∷ []) ∷ [])

-- the columns of these expressions side by side, as node 1 selects them
abbrev pub selected : Table → Trees → Zipped
selected t es = zipped false 1 (eval_all 1 t es)

abbrev pub two : Tree → Tree → Trees
two x y = Trees.tree x (Trees.tree y Trees.no_trees)

-- a selection of these rows, which nothing broke
abbrev pub whole_rows : List (List Value) → Zipped
whole_rows rows = record { rows = rows; broken = []; lost = [] }

abbrev pub col_b : Tree
col_b = Tree.column b

-- sum(a) and b: the sum is broadcast
pub sum_beside_column : selected ab123456 (two (Tree.aggregate Aggregation.sum col_a) col_b) ≡ whole_rows ((int 6 ∷ int 4 ∷ []) ∷ (int 6 ∷ int 5 ∷ []) ∷ (int 6 ∷ int 6 ∷ []) ∷ [])
unfolding int_wrap
sum_beside_column = refl

-- a literal over an empty table gives one row
pub literal_over_nothing : selected (table_a []) (Trees.tree (lit_int (pos 1)) Trees.no_trees) ≡ whole_rows ((int 1 ∷ []) ∷ [])
literal_over_nothing = refl

-- a literal beside an empty column gives no rows
pub literal_beside_nothing : selected (table_a []) (two (lit_int (pos 1)) col_a) ≡ whole_rows []
literal_beside_nothing = refl

-- lengths 2 and 3 don't agree
pub lengths_differ : (selected ab123456 (two (Tree.filter col_a (Tree.binary op.Gt col_a (lit_int (pos 1)))) col_b)).broken ≡ record { fault = fault.Shape; node = 1 } ∷ []
lengths_differ = refl

-- lengths 1 and 0 give no rows
pub one_beside_none : selected (table_a ((int 1 ∷ []) ∷ [])) (two col_a (Tree.filter col_a (Tree.binary op.Gt col_a (lit_int (pos 5))))) ≡ whole_rows []
one_beside_none = refl

-- columns of 2 and 3 rows, filled
pub filled : zipped true 1 (whole_column (int 1 ∷ int 2 ∷ []) ∷ whole_column (int 7 ∷ int 8 ∷ int 9 ∷ []) ∷ []) ≡ whole_rows ((int 1 ∷ int 7 ∷ []) ∷ (int 2 ∷ int 8 ∷ []) ∷ (val.Null ∷ int 9 ∷ []) ∷ [])
filled = refl

-- a sum beside all input columns
pub sum_beside_itself : selected a123 (two col_a (Tree.aggregate Aggregation.sum col_a)) ≡ whole_rows ((int 1 ∷ int 6 ∷ []) ∷ (int 2 ∷ int 6 ∷ []) ∷ (int 3 ∷ int 6 ∷ []) ∷ [])
unfolding int_wrap
sum_beside_itself = refl

-- arithmetic wraps and floors, and division by 0 is null
pub wraps_and_floors : selected (table_a []) (Trees.tree (Tree.binary op.Plus (lit_int (pos (2 ^ 63 - 1))) (lit_int (pos 1)))
    (two (Tree.binary op.FloorDivide (lit_int (negsuc 6)) (lit_int (pos 2))) (Tree.binary op.FloorDivide (lit_int (pos 7)) (lit_int (pos 0)))))
    ≡ whole_rows ((val.Int64 (negsuc (2 ^ 63 - 1)) ∷ val.Int64 (negsuc 3) ∷ val.Null ∷ []) ∷ [])
unfolding int_wrap
wraps_and_floors = refl

-- a slice from -2 on, with room for 5
pub slice_from_end : selected a123 (Trees.tree (Tree.slice col_a (lit_int (negsuc 1)) (lit_int (pos 5))) Trees.no_trees) ≡ whole_rows ((int 2 ∷ []) ∷ (int 3 ∷ []) ∷ [])
slice_from_end = refl

-- a negative length
pub slice_bound : selected a123 (Trees.tree (Tree.slice col_a (lit_int (negsuc 1)) (lit_int (negsuc 0))) Trees.no_trees) ≡ record { rows = []; broken = record { fault = fault.SliceBound; node = 1 } ∷ []; lost = [] }
slice_bound = refl

-- an index past the end
pub gather_past_end : selected a123 (Trees.tree (Tree.gather true col_a (lit_int (pos 3))) Trees.no_trees) ≡ record { rows = []; broken = record { fault = fault.Gather; node = 1 } ∷ []; lost = [] }
gather_past_end = refl

-- over 1, null, 3
abbrev pub a1n3 : Table
a1n3 = table_a ((int 1 ∷ []) ∷ (val.Null ∷ []) ∷ (int 3 ∷ []) ∷ [])

pub sum_skips_null : eval 1 a1n3 (Tree.aggregate Aggregation.sum col_a) ≡ whole_column (int 4 ∷ [])
unfolding int_wrap
sum_skips_null = refl

pub n_unique_counts_null : eval 1 a1n3 (Tree.aggregate Aggregation.n_unique col_a) ≡ whole_column (val.IdxSize 3 ∷ [])
n_unique_counts_null = refl

pub count_skips_null : eval 1 a1n3 (Tree.aggregate (Aggregation.count false) col_a) ≡ whole_column (val.IdxSize 2 ∷ [])
count_skips_null = refl

pub count_all : eval 1 a1n3 (Tree.aggregate (Aggregation.count true) col_a) ≡ whole_column (val.IdxSize 3 ∷ [])
count_all = refl

pub by_zero : eval 1 a1n3 (Tree.binary op.FloorDivide col_a (lit_int (pos 0))) ≡ whole_column (val.Null ∷ val.Null ∷ val.Null ∷ [])
by_zero = refl

pub least_of_nothing : eval 1 (table_a []) (Tree.aggregate Aggregation.min col_a) ≡ whole_column (val.Null ∷ [])
least_of_nothing = refl

pub strict_cast : eval 1 (record { schema = (codes "t", kind.String) ∷ []; rows = (val.String (codes "x") ∷ []) ∷ []; broken = [] }) (Tree.cast kind.Int64 true (Tree.column (codes "t")))
    ≡ record { cells = faulty (record { fault = fault.StrictCast; node = 1 }) [] ∷ []; broken = []; lost = [] }
strict_cast = refl

pub reversed : eval 1 a1n3 (Tree.function fun.Reverse col_a) ≡ whole_column (int 3 ∷ val.Null ∷ int 1 ∷ [])
reversed = refl

-- casts of texts
pub cast_of_text : eval 1 (table_a []) (Tree.cast kind.Int64 true (Tree.literal (lit.String (codes "-42")))) ≡ whole_column (val.Int64 (negsuc 41) ∷ [])
cast_of_text = refl

pub cast_to_text : eval 1 (table_a []) (Tree.cast kind.String true (lit_int (negsuc 41))) ≡ whole_column (val.String (codes "-42") ∷ [])
unfolding digits
cast_to_text = refl

-- sorting down with nulls last
pub sorted_down : eval 1 a1n3 (Tree.sort true true col_a) ≡ whole_column (int 3 ∷ int 1 ∷ val.Null ∷ [])
sorted_down = refl

-- a by b, going down
pub sorted_by_b : eval 1 ab123456 (Tree.sort_by (true ∷ []) (false ∷ []) col_a (Trees.tree col_b Trees.no_trees)) ≡ whole_column (int 3 ∷ int 2 ∷ int 1 ∷ [])
sorted_by_b = refl

-- the text of a table with a null
pub text_with_null : csv_text_of (record { schema = (b, kind.Boolean) ∷ (codes "c", kind.Int64) ∷ []; rows = (val.Boolean true ∷ int 1 ∷ []) ∷ (val.Null ∷ int 2 ∷ []) ∷ [] }) ≡ codes "b,c\ntrue,1\n,2\n"
unfolding digits escaped fields_text is_blank
text_with_null = refl

-- a faulty cell that is broadcast over no rows breaks nothing, and isn't forgotten
pub lost_cell : selected (table_a []) (two bad_text col_a) ≡ record { rows = []; broken = []; lost = record { fault = fault.StrictCast; node = 1 } ∷ [] }
lost_cell = refl

-- a faulty cell that is broadcast over rows breaks the first
pub broadcast_fault : selected a123 (two bad_text col_a) ≡ record { rows = []; broken = record { fault = fault.StrictCast; node = 1 } ∷ []; lost = [] }
broadcast_fault = refl

-- a part of one row that a fault ended doesn't broadcast; a literal does
pub ended_beside_literal : selected (record { schema = (a, kind.Int64) ∷ []; rows = (int 7 ∷ []) ∷ []; broken = earlier ∷ [] }) (two (lit_int (pos 1)) col_a)
    ≡ record { rows = (int 1 ∷ int 7 ∷ []) ∷ []; broken = earlier ∷ []; lost = [] }
ended_beside_literal = refl

-- an ended part of two rows beside a whole column of none: Shape too, and all causes
pub ended_outgrows : (zipped false 1 (record { cells = value (int 1) ∷ value (int 2) ∷ []; broken = earlier ∷ []; lost = [] } ∷ whole_column [] ∷ [])).broken
    ≡ earlier ∷ record { fault = fault.Shape; node = 1 } ∷ []
ended_outgrows = refl

-- an ended part of one row beside it: no Shape
pub ended_of_one : (zipped false 1 (record { cells = value (int 1) ∷ []; broken = earlier ∷ []; lost = [] } ∷ whole_column [] ∷ [])).broken ≡ earlier ∷ []
ended_of_one = refl

-- filling stops at the least ended part
pub filled_to_ended : zipped true 1 (record { cells = value (int 1) ∷ value (int 2) ∷ []; broken = earlier ∷ []; lost = [] } ∷ whole_column (int 7 ∷ []) ∷ whole_column (int 7 ∷ int 8 ∷ int 9 ∷ []) ∷ [])
    ≡ record { rows = (int 1 ∷ int 7 ∷ int 7 ∷ []) ∷ (int 2 ∷ val.Null ∷ int 8 ∷ []) ∷ []; broken = earlier ∷ []; lost = [] }
filled_to_ended = refl

-- kinds over a schema
pub kind_of_test : kind_over a123.schema (Tree.binary op.Gt col_a (lit_int (pos 1))) ≡ Some kind.Boolean
kind_of_test = refl

pub no_kind_of_mixed : kind_over a123.schema (Tree.binary op.Plus col_a (Tree.literal (lit.Boolean true))) ≡ None
no_kind_of_mixed = refl

pub no_kind_of_unknown : kind_over a123.schema (Tree.column b) ≡ None
no_kind_of_unknown = refl

-- the tree of an arena's entry
abbrev pub node_of : ℕ → Node
node_of n = record { 0 = n }

abbrev pub test_arena : List AExpr
test_arena = entry.Column a ∷ entry.Literal (lit.Int64 (pos 1)) ∷ entry.BinaryExpr (node_of 0) op.Gt (node_of 1) ∷ []

pub tree_of_test : tree_at test_arena (node_of 2) ≡ Tree.binary op.Gt col_a (lit_int (pos 1))
unfolding tree_within
tree_of_test = refl

-- an entry that names itself, and one that names nothing, are no expressions
pub no_expression_of_itself : IsExpression (entry.Cast (node_of 0) kind.Int64 true ∷ []) (node_of 0) → ⊥
unfolding tree_within
no_expression_of_itself h = h

pub no_expression_out_of_range : IsExpression test_arena (node_of 3) → ⊥
unfolding tree_within
no_expression_out_of_range h = h
