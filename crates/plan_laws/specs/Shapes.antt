-- Small shapes, sound ones and others.
use Rattle.std.specs.Prelude.{ℕ, false, List, [], ◌∷◌, ◌++◌, None, codes}
use Rattle.ps_frame.specs.Tables.{Fields, Frame, Table}
use Rattle.ps_frame.specs.Trees.{Aggregation, Tree}
use Rattle.ps_frame.specs.declared.value.DataFault.TheVariants as fault
use Rattle.ps_frame.specs.declared.value.DataType.TheVariants as kind
use Rattle.ps_meaning.specs.Shape.{PhysicalKind, PhysicalNode, Shape, equi_join, in_memory_sink, in_memory_source, multiplexer, ordered_union, reduce, select_node, zip_node}
use Rattle.ps_meaning.specs.Steps.{Cut, JoinStep, Named}
use Rattle.ps_meaning.specs.declared.options.JoinType.TheVariants as how
use Rattle.ps_meaning.specs.declared.options.JoinValidation.TheVariants as validation
use Rattle.plan_laws.specs.Examples.{a_column, a_frame, ab, b_column, one, single, sum_table}

abbrev pub physical : PhysicalKind → Fields → (origin : ℕ) → List (ℕ × ℕ) → PhysicalNode
physical kind s at inputs = record { kind = kind; schema = s; origin = at; inputs = inputs }

abbrev pub t_schema : Fields
t_schema = (codes "t", kind.Int64) ∷ []

abbrev pub sum_of_a : List Named
sum_of_a = (codes "t", Tree.aggregate Aggregation.sum a_column) ∷ []

-- the sum under its name, and the column beside it
abbrev pub sum_and_b : List Named
sum_and_b = (codes "s", Tree.column (codes "t")) ∷ (codes "b", b_column) ∷ []

-- A sum beside a column: the table goes through a multiplexer to a reduce and, beside the reduce's row, to a zip.
abbrev pub sum_shape : Shape
sum_shape =
    physical (in_memory_source ab) ab.schema 0 []
    ∷ physical multiplexer ab.schema 0 ((0, 0) ∷ [])
    ∷ physical (reduce sum_of_a) t_schema 1 ((1, 1) ∷ [])
    ∷ physical (zip_node false) (ab.schema ++ t_schema) 1 ((1, 0) ∷ (2, 0) ∷ [])
    ∷ physical (select_node sum_and_b false) sum_table.schema 1 ((3, 0) ∷ [])
    ∷ physical in_memory_sink sum_table.schema 2 ((4, 0) ∷ []) ∷ []

abbrev pub one_two : Frame
one_two = a_frame (1 ∷ 2 ∷ [])

-- the rows of a multiplexer's port 0, and behind them those of this port
abbrev pub twice_shape : (port : ℕ) → Shape
twice_shape port =
    physical (in_memory_source one_two) one_two.schema 0 []
    ∷ physical multiplexer one_two.schema 0 ((0, 0) ∷ [])
    ∷ physical ordered_union one_two.schema 1 ((1, 0) ∷ (1, port) ∷ [])
    ∷ physical in_memory_sink one_two.schema 2 ((2, 0) ∷ []) ∷ []

-- a select of the number 1 and these expressions over a table
abbrev pub select_shape : List Named → Fields → Shape
select_shape es s =
    physical (in_memory_source one_two) one_two.schema 0 []
    ∷ physical (select_node ((codes "x", one) ∷ es) false) ((codes "x", kind.Int64) ∷ s) 1 ((0, 0) ∷ [])
    ∷ physical in_memory_sink ((codes "x", kind.Int64) ∷ s) 2 ((1, 0) ∷ []) ∷ []

abbrev pub l_frame : Frame
l_frame = single (codes "l") (1 ∷ 2 ∷ [])

-- an inner join of l with a, and a slice that is applied last
abbrev pub l_with_a : Cut → JoinStep
l_with_a cut =
    record {
      left_on = Tree.column (codes "l") ∷ [];
      right_on = a_column ∷ [];
      args = record { how = how.Inner; suffix = None; join_nulls = false; validation = validation.ManyToMany; slice = cut };
    }

abbrev pub join_shape : Cut → Shape
join_shape cut =
    physical (in_memory_source l_frame) l_frame.schema 0 []
    ∷ physical (in_memory_source one_two) one_two.schema 1 []
    ∷ physical (equi_join (l_with_a cut)) l_frame.schema 2 ((0, 0) ∷ (1, 0) ∷ [])
    ∷ physical in_memory_sink l_frame.schema 3 ((2, 0) ∷ []) ∷ []

-- a table and a sink, which comes behind it or before it
abbrev pub backward_shape : Shape
backward_shape = physical (in_memory_source one_two) one_two.schema 0 [] ∷ physical in_memory_sink one_two.schema 1 ((0, 0) ∷ []) ∷ []

abbrev pub forward_shape : Shape
forward_shape = physical in_memory_sink one_two.schema 1 ((1, 0) ∷ []) ∷ physical (in_memory_source one_two) one_two.schema 0 [] ∷ []

-- the first row of the two, and a cause behind it
abbrev pub first_of_two : Table
first_of_two = record { schema = one_two.schema; rows = (a_frame (1 ∷ [])).rows; broken = record { fault = fault.Function; node = 0 } ∷ [] }
