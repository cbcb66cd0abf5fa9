-- Two small shapes, the journal of a run over the first, and what a run leaves.
use Rattle.std.specs.Prelude.{◌≡◌, ℕ, Bool, None, ◌^◌, T, leb, pos, List, [], ◌∷◌, ◌++◌, codes, map, false}
use Rattle.std.proofs.Math.Facts.{leb_yes}
use Rattle.ps_frame.specs.Causes.{Cause}
use Rattle.ps_frame.specs.Functions.{Functions}
use Rattle.ps_frame.specs.Tables.{Fields, Frame, Row}
use Rattle.ps_frame.specs.Trees.{Aggregation, Tree}
use Rattle.ps_frame.specs.declared.expr.LiteralValue.TheVariants as lit
use Rattle.ps_frame.specs.declared.expr.Operator.TheVariants as op
use Rattle.ps_frame.specs.declared.value.DataType.TheVariants as kind
use Rattle.ps_frame.specs.declared.value.Value.{Value}
use Rattle.ps_frame.specs.declared.value.Value.TheVariants as val
use Rattle.ps_meaning.specs.Steps.{JoinStep}
use Rattle.ps_meaning.specs.declared.options.JoinType.{JoinType}
use Rattle.ps_meaning.specs.declared.options.JoinValidation.TheVariants as validation
use Rattle.ps_meaning.specs.Shape.{filter_node, in_memory_sink, in_memory_source, multiplexer, reduce, select_node, Shape, zip_node}
use Rattle.ps_world.specs.Opening.{opening}
use Rattle.ps_world.specs.Step.{Replays}
use Rattle.ps_turns.specs.Tasks.{rows}
use Rattle.ps_options.specs.declared.options.Options.{Options}
use Rattle.ps_world.specs.World.{Node, Record, World, claimed, closed, ended, faulty, handed_in, opened, pulled}

abbrev pub number : ℕ → Value
number n = val.Int64 (pos n)

-- a join without a suffix and a slice of its own
abbrev pub plain_join : JoinType → Bool → Tree → Tree → JoinStep
plain_join type nulls l r =
    record {
      left_on = l ∷ [];
      right_on = r ∷ [];
      args = record { how = type; suffix = None; join_nulls = nulls; validation = validation.ManyToMany; slice = None };
    }

abbrev pub a_schema : Fields
a_schema = (codes "a", kind.Int64) ∷ []

abbrev pub row : ℕ → Row
row n = val.Int64 (pos n) ∷ []

abbrev pub given : Frame
given = record { schema = a_schema; rows = row 1 ∷ row 2 ∷ row 3 ∷ [] }

abbrev pub filter_shape : Shape
filter_shape =
    record { kind = in_memory_source given; schema = a_schema; origin = 0; inputs = [] }
    ∷ record { kind = filter_node (Tree.binary op.Gt (Tree.column (codes "a")) (Tree.literal (lit.Int64 (pos 1)))); schema = a_schema; origin = 1; inputs = (0, 0) ∷ [] }
    ∷ record { kind = in_memory_sink; schema = a_schema; origin = 2; inputs = (1, 0) ∷ [] } ∷ []

-- options with these numbers, which are in range
abbrev pub options : (workers morsel_rows partitions : ℕ) → T (leb 1 workers) → T (leb workers 256) → T (leb 1 morsel_rows) → T (leb morsel_rows (2 ^ 20)) → T (leb 1 partitions) → T (leb partitions 1024) → Options
options w m p a b c d e f =
    record {
      workers = w;
      morsel_rows = m;
      partitions = p;
      seed = 0;
      some_workers = leb_yes a;
      few_workers = leb_yes b;
      some_rows = leb_yes c;
      few_rows = leb_yes d;
      some_partitions = leb_yes e;
      few_partitions = leb_yes f;
    }

abbrev pub one_worker : Options
one_worker = options 1 100000 16 tt tt tt tt tt tt

-- the rows that a filter on a > 1 keeps
abbrev pub filtered : List Row
filtered = row 2 ∷ row 3 ∷ []

-- the source and the filter each claim and hand in one morsel, the sink pulls it, and the second Open finds nothing to do
abbrev pub filter_journal : List Record
filter_journal =
    opened 1 ∷ claimed 0 0 0 0 ∷ handed_in 0 0 0 0 (rows 3) ∷ closed 0 ∷ claimed 1 0 0 0 ∷ handed_in 1 0 0 0 (rows 2) ∷ closed 1
    ∷ pulled 2 0 0 ∷ closed 2 ∷ ended 1 ∷ opened 2 ∷ []

-- A select of sum(a) and b: the table goes through a multiplexer to a reduce and, beside its row, to a zip.
abbrev pub ab_schema : Fields
ab_schema = (codes "a", kind.Int64) ∷ (codes "b", kind.Int64) ∷ []

abbrev pub pair : ℕ → ℕ → Row
pair n m = val.Int64 (pos n) ∷ val.Int64 (pos m) ∷ []

abbrev pub two_columns : Frame
two_columns = record { schema = ab_schema; rows = pair 1 4 ∷ pair 2 5 ∷ pair 3 6 ∷ [] }

abbrev pub sum_schema : Fields
sum_schema = (codes "t", kind.Int64) ∷ []

abbrev pub s_schema : Fields
s_schema = (codes "s", kind.Int64) ∷ (codes "b", kind.Int64) ∷ []

abbrev pub sum_shape : Shape
sum_shape =
    record { kind = in_memory_source two_columns; schema = ab_schema; origin = 0; inputs = [] }
    ∷ record { kind = multiplexer; schema = ab_schema; origin = 0; inputs = (0, 0) ∷ [] }
    ∷ record { kind = reduce ((codes "t", Tree.aggregate Aggregation.sum (Tree.column (codes "a"))) ∷ []); schema = sum_schema; origin = 1; inputs = (1, 1) ∷ [] }
    ∷ record { kind = zip_node false; schema = ab_schema ++ sum_schema; origin = 1; inputs = (1, 0) ∷ (2, 0) ∷ [] }
    ∷ record { kind = select_node ((codes "s", Tree.column (codes "t")) ∷ (codes "b", Tree.column (codes "b")) ∷ []) false; schema = s_schema; origin = 1; inputs = (3, 0) ∷ [] }
    ∷ record { kind = in_memory_sink; schema = s_schema; origin = 2; inputs = (4, 0) ∷ [] } ∷ []

-- the journal leads from the opening to a world whose nodes keep these morsels of their inputs
abbrev pub Leaves : Functions → Shape → Options → List Record → List (List (List (List Row))) → Type 0
Leaves F shape o journal stores = (w : World) × Replays F (opening shape o) journal w × (map (λ (n : Node). n.progress.stores) w.nodes ≡ stores)

-- the journal leads to a world that this cause ended
abbrev pub Breaks : Functions → Shape → Options → List Record → Cause → Type 0
Breaks F shape o journal c = (w : World) × Replays F (opening shape o) journal w × (w.ending ≡ faulty c)
