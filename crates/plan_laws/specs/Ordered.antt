-- Slices from the end, and joins in the order of their left rows.
use Rattle.std.specs.Prelude.{ℕ, ℤ, true, false, pos, negsuc, List, [], ◌∷◌, Some, codes}
use Rattle.ps_frame.specs.Causes.{Cause}
use Rattle.ps_frame.specs.Tables.{Frame}
use Rattle.ps_frame.specs.Trees.{Tree}
use Rattle.ps_frame.specs.declared.value.DataFault.{DataFault}
use Rattle.ps_frame.specs.declared.value.DataType.TheVariants as kind
use Rattle.ps_frame.specs.declared.value.Value.{Value}
use Rattle.ps_frame.specs.declared.value.Value.TheVariants as val
use Rattle.ps_meaning.specs.PlanTrees.{PlanTree, node, tree}
use Rattle.ps_meaning.specs.Steps.{SortStep, join, memory_sink, select, slice, sort}
use Rattle.ps_meaning.specs.declared.options.JoinType.{JoinType}
use Rattle.ps_meaning.specs.declared.options.JoinType.TheVariants as how
use Rattle.plan_laws.specs.Examples.{a_column, a_frame, k_column, k_frame, number, one_input, over_scan, plain_join, scan_of, under_sink}

-- a = 1, 2, 3, cut from an offset on
abbrev pub cut_three : ℤ → ℕ → PlanTree
cut_three offset n = under_sink (over_scan (a_frame (1 ∷ 2 ∷ 3 ∷ [])) (slice offset n))

-- the last of the rows from the greatest down
abbrev pub greatest_first : SortStep
greatest_first = record { keys = a_column ∷ []; descending = true ∷ []; nulls_last = false ∷ []; cut = Some (negsuc 0, 1) }

abbrev pub least_plan : PlanTree
least_plan = under_sink (over_scan (a_frame (1 ∷ 2 ∷ 3 ∷ [])) (sort greatest_first))

-- texts of which the second is no number
abbrev pub numerals : Frame
numerals = record { schema = (codes "t", kind.String) ∷ []; rows = (val.String (codes "1") ∷ []) ∷ (val.String (codes "x") ∷ []) ∷ [] }

abbrev pub as_number : Tree
as_number = Tree.cast kind.Int64 true (Tree.column (codes "t"))

-- the last row of their strict cast
abbrev pub last_cast : PlanTree
last_cast = node 2 (slice (negsuc 0) 1) (one_input (over_scan numerals (select ((codes "n", as_number) ∷ []))))

-- keys 3 and 1 on the left, and 4, 1 and 1 on the right beside a text
abbrev pub keys_and_texts : Frame
keys_and_texts =
    record {
      schema = (codes "k", kind.Int64) ∷ (codes "v", kind.String) ∷ [];
      rows = (number 4 ∷ val.String (codes "x") ∷ []) ∷ (number 1 ∷ val.String (codes "y") ∷ []) ∷ (number 1 ∷ val.String (codes "z") ∷ []) ∷ [];
    }

abbrev pub ordered_plan : JoinType → PlanTree
ordered_plan type = node 3 memory_sink (one_input (node 2 (join (plain_join type false k_column k_column)) (tree (scan_of 0 (k_frame (3 ∷ 1 ∷ []))) (one_input (scan_of 1 keys_and_texts)))))

abbrev pub text : List ℕ → Value
text name = val.String name

-- the unmatched left row stands in its place
abbrev pub left_ordered : Frame
left_ordered =
    record {
      schema = (codes "k", kind.Int64) ∷ (codes "v", kind.String) ∷ [];
      rows = (number 3 ∷ val.Null ∷ []) ∷ (number 1 ∷ text (codes "y") ∷ []) ∷ (number 1 ∷ text (codes "z") ∷ []) ∷ [];
    }

-- and the unmatched right row comes last
abbrev pub full_ordered : Frame
full_ordered =
    record {
      schema = (codes "k", kind.Int64) ∷ (codes "k_right", kind.Int64) ∷ (codes "v", kind.String) ∷ [];
      rows =
          (number 3 ∷ val.Null ∷ val.Null ∷ []) ∷ (number 1 ∷ number 1 ∷ text (codes "y") ∷ []) ∷ (number 1 ∷ number 1 ∷ text (codes "z") ∷ [])
          ∷ (val.Null ∷ number 4 ∷ text (codes "x") ∷ []) ∷ [];
    }

-- The left key is a strict cast that faults in the second row: the first row is there, and the fault behind it.
abbrev pub faulty_left : JoinType → PlanTree
faulty_left type = node 2 (join (plain_join type false as_number k_column)) (tree (scan_of 0 numerals) (one_input (scan_of 1 (k_frame (1 ∷ [])))))

abbrev pub first_of_faulty : PlanTree
first_of_faulty = node 3 (slice (pos 0) 1) (one_input (faulty_left how.Inner))

abbrev pub first_pair : Frame
first_pair = record { schema = (codes "t", kind.String) ∷ []; rows = (text (codes "1") ∷ []) ∷ [] }

-- a fault that the step of node 2 makes
abbrev pub at_two : DataFault → Cause
at_two f = record { fault = f; node = 2 }
