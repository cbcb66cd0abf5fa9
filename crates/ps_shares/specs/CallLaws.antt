-- What holds of a call on expressions, part by part: the columns that its tables show, by their names, with their causes.
use Rattle.std.specs.Prelude.{◌≡◌, ◌≢◌, ◌↔◌, ◌≤◌, ◌^◌, ◌||◌, ℕ, false, true, not, Bool, List, [], ◌∷◌, map, length, filter as those, get_or, slice_get, Contains, IsTrue, Some, None}
use Rattle.std.specs.List.{AllByRecursion, list_any}
use Rattle.ps_frame.specs.Causes.{Column, value, is_ended}
use Rattle.ps_frame.specs.Eval.{eval}
use Rattle.ps_frame.specs.Frames.{has_distinct_names}
use Rattle.ps_frame.specs.Functions.{Functions}
use Rattle.ps_frame.specs.Parts.{reads_column}
use Rattle.ps_frame.specs.Tables.{Fields, Table, field_index, field_kind, table_column}
use Rattle.ps_frame.specs.Trees.{Aggregation, Tree, Trees}
use Rattle.ps_frame.specs.Typing.{is_elementwise, is_independent, kind_over, tree_count}
use Rattle.ps_frame.specs.Values.{is_true}
use Rattle.ps_frame.specs.Zip.{Extent, Zipped, breaks_shape, broadcasts, extent_of, extents, zip_length, zipped}
use Rattle.ps_frame.specs.declared.value.DataFault.TheVariants as data_fault
use Rattle.ps_frame.specs.declared.value.DataType.{DataType}
use Rattle.ps_frame.specs.declared.value.Value.TheVariants as val
use Rattle.ps_meaning.specs.Cases.{Case, all_columns, columns_at, projected, table_of}
use Rattle.ps_meaning.specs.Shape.{mild_zip}
use Rattle.ps_meaning.specs.Schemas.{fields_of, is_among, names_of}
use Rattle.ps_meaning.specs.Steps.{Name, Named, exprs_of, project, select, filter, sort}
use Rattle.ps_shares.specs.Kept.{HasNoOther, IsGrown, IsPartOf, IsReady, IsZipWithin, all_causes}
use Rattle.ps_shares.specs.Leaves.{AreLeavesWithin, AtLeaves, Naming, all_leaves, eval_with, put_back, stands_for}
use Rattle.ps_rules.specs.Lowered.{lower_exprs, select_stream}
use Rattle.ps_rules.specs.Names.{IsKnown}
use Rattle.ps_shares.specs.Shares.{IsShare, Share, Shows, columns_shown, tables_of}
use Rattle.ps_rules.specs.Slots.{State, Stream, columns_named, under}

-- whether a fault or the lengths end a zip
abbrev pub is_end : List Extent → Bool
is_end es = list_any (λ (e : Extent). e.ended) es || breaks_shape false es

-- Only which extents occur counts, and of those that broadcast not even that.
abbrev pub MembersDecide : Type 0
MembersDecide =
    (xs ys : List Extent) → ((e : Extent) → broadcasts false e ≡ false → Contains xs e ↔ Contains ys e)
    → (zip_length false xs ≡ zip_length false ys) × (is_end xs ≡ is_end ys)

-- a name stands in a table where the column that it is known by stands among those that the table shows
abbrev pub IsShownAs : Table → List Column → Naming → Name → Type 0
IsShownAs t cs known n = (j : ℕ) × (field_index n t.schema ≡ Some j) × (slice_get cs j ≡ Some (known n))

-- Some expression reads a name, each name read is shown, and what is shown and doesn't broadcast is as long as something that is read.
pub record AreRead (t : Table) (cs : List Column) (known : Naming) (es : List Tree) : Type 0 where
  pub some : IsTrue (list_any (λ e. not (is_independent e)) es)
  pub shown : AllByRecursion (AtLeaves (IsShownAs t cs known)) es
  pub all : (c : Column) → Contains cs c → broadcasts false (extent_of c) ≡ false → Contains (extents (all_leaves known es)) (extent_of c)

-- The columns of a table that shows columns are within these, name by name.
abbrev pub NamesShow : Type 0
NamesShow =
    (t : Table) (cs : List Column) (known : Naming) (es : List Tree) → AllByRecursion (λ e. IsTrue (is_elementwise e)) es → Shows t cs → AreRead t cs known es
    → AreLeavesWithin (λ n. table_column n t) known es

-- Over the zip of tables that show columns, expressions are within what they are with their fresh names put back over the input: whichever zips were flattened, and whichever reduces were merged.
abbrev pub CallsKeepRows : Type 0
CallsKeepRows =
    (at : ℕ) (s : Fields) (hs : List Share) (input : Table) (ms : List Named) (es : List Tree) → AllByRecursion (λ e. IsTrue (is_elementwise e)) es → AllByRecursion IsShare hs
    → let z = table_of s (λ rows. rows) (mild_zip at (all_columns (tables_of hs))) in
    AreRead z (columns_shown hs) (λ n. eval at input (stands_for ms n)) es → IsPartOf (zipped false at (columns_at at es z)) (zipped false at (columns_at at (map (put_back ms) es) input))

-- Where no leaf is ended and their lengths can't agree, Shape is among the causes, whichever operator meets them.
abbrev pub ShapeShows : Type 0
ShapeShows =
    (at : ℕ) (known : Naming) (es : List Tree) → AllByRecursion (λ e. IsTrue (is_elementwise e)) es → list_any is_ended (all_leaves known es) ≡ false
    → breaks_shape false (extents (all_leaves known es)) ≡ true → Contains (all_causes (zipped false at (map (eval_with at known) es))) (record { fault = data_fault.Shape; node = at })

-- the name stands in the table
abbrev pub IsIn : Table → Name → Type 0
IsIn t n = (j : ℕ) × (field_index n t.schema ≡ Some j)

-- Over the columns of a table that are within others, an expression has no cause but what breaks the table and what the others show. Each name that it reads stands in the table: the column of another one has no cell, and so lengths that can't agree.
abbrev pub CausesByLeaves : Type 0
CausesByLeaves =
    (at : ℕ) (t : Table) (known : Naming) (es : List Tree) → AllByRecursion (λ e. IsTrue (is_elementwise e)) es → AllByRecursion (AtLeaves (IsIn t)) es → AreLeavesWithin (λ n. table_column n t) known es
    → HasNoOther t.broken (all_causes (zipped false at (map (eval_with at known) es)))
    → HasNoOther (all_causes (zipped false at (map (eval_with at (λ n. table_column n t)) es))) (all_causes (zipped false at (map (eval_with at known) es)))

-- Where the zip of tables shows no others, the expressions over it are within what they are with their fresh names put back over the input: rows and causes.
abbrev pub CallsKeepCauses : Type 0
CallsKeepCauses =
    (at : ℕ) (s : Fields) (hs : List Share) (input : Table) (ms : List Named) (es : List Tree) → AllByRecursion (λ e. IsTrue (is_elementwise e)) es → AllByRecursion IsShare hs
    → let z = table_of s (λ rows. rows) (mild_zip at (all_columns (tables_of hs))) in
    AreRead z (columns_shown hs) (λ n. eval at input (stands_for ms n)) es → HasNoOther z.broken (all_causes (zipped false at (columns_at at (map (put_back ms) es) input)))
    → IsZipWithin (zipped false at (columns_at at es z)) (zipped false at (columns_at at (map (put_back ms) es) input))

-- What a call answers is elementwise, and with what its fresh names stand for put back it is what was asked. Those names weren't known, and are then. The counter stays in 64 bits: past that two numbers may have one name.
abbrev pub StandForAsked : Type 0
StandForAsked =
    (at : ℕ) (input : Stream) (s : State) (es : List Tree) → IsReady s input es
    → let a = lower_exprs at input es s in
    a.state.names.next ≤ 2 ^ 64 → AllByRecursion (λ e. IsTrue (is_elementwise e)) a.exprs
    × ((ms : List Named) × (map (put_back ms) a.exprs ≡ es) × AllByRecursion (λ (m : Named). (¬ IsKnown s.names m.0) × IsKnown a.state.names m.0) ms)

-- Expressions that read the columns that are kept have the same columns.
abbrev pub ReadsProjected : Type 0
ReadsProjected =
    (at : ℕ) (ns : List Name) (s : Fields) (t : Table) (e : Tree) → names_of s ≡ ns
    → ((name : Name) → IsTrue (reads_column name e) → IsTrue (is_among name ns))
    → ((name : Name) → IsTrue (is_among name ns) → field_kind name s ≡ field_kind name t.schema)
    → eval at (projected ns s t) e ≡ eval at t e

-- Sorts of a select of one expression show the sort of it. It has a kind: else the select's table has no field, and the sort reads nothing.
abbrev pub SortsShow : Type 0
SortsShow =
    (F : Functions) (at : ℕ) (name : Name) (d n : Bool) (e : Tree) (k : DataType) (t P S : Table) → kind_over t.schema e ≡ Some k → Case F at (select ((name, e) ∷ [])) (t ∷ []) P
    → Case F at (sort (record { keys = Tree.column name ∷ []; descending = d ∷ []; nulls_last = n ∷ []; cut = None })) (P ∷ []) S
    → Shows S (eval at t (Tree.sort d n e) ∷ [])

abbrev pub listed : Trees → List Tree
listed Trees.no_trees = []
listed (Trees.tree e es) = e ∷ listed es

-- Sorts by keys: of a select of values and keys, of which the values alone are kept then.
abbrev pub SortBysShow : Type 0
SortBysShow =
    (F : Functions) (at : ℕ) (m : Name) (ns : List Name) (d n : List Bool) (e : Tree) (by : Trees) (k : DataType) (fs : Fields) (t P S R : Table) → names_of fs ≡ ns → length ns ≡ tree_count by
    → fields_of (under (m ∷ ns) (e ∷ listed by)) t.schema ≡ Some ((m, k) ∷ fs) → IsTrue (has_distinct_names ((m, k) ∷ fs)) → Case F at (select (under (m ∷ ns) (e ∷ listed by))) (t ∷ []) P
    → Case F at (sort (record { keys = columns_named ns; descending = d; nulls_last = n; cut = None })) (P ∷ []) S → Case F at (project (m ∷ [])) (S ∷ []) R
    → Shows R (eval at t (Tree.sort_by d n e by) ∷ [])

-- the second values of the rows that a filter keeps
abbrev pub kept_second : Zipped → Column
kept_second z = record { cells = map (λ row. value (get_or row 1 val.Null)) (those (λ row. is_true (get_or row 1 val.Null)) z.rows); broken = z.broken; lost = z.lost }

-- Filters of a select of values and predicate show the filter of these, and the predicate beside it.
abbrev pub FiltersShow : Type 0
FiltersShow =
    (F : Functions) (at : ℕ) (m n : Name) (e by : Tree) (k l : DataType) (t P S : Table) → m ≢ n → kind_over t.schema e ≡ Some k → kind_over t.schema by ≡ Some l → Case F at (select ((m, e) ∷ (n, by) ∷ [])) (t ∷ []) P → Case F at (filter (Tree.column n)) (P ∷ []) S
    → Shows S (eval at t (Tree.filter e by) ∷ kept_second (zipped false at (eval at t e ∷ eval at t by ∷ [])) ∷ [])

-- Aggregates over what is within show the aggregate of that. Where the values are broken over the table there is no row, and else they are the same values.
abbrev pub AggregatesShow : Type 0
AggregatesShow =
    (F : Functions) (at : ℕ) (name : Name) (a : Aggregation) (given known : Tree) (z t R : Table) → kind_over z.schema given ≡ kind_over t.schema known
    → IsPartOf (zipped false at (eval at z given ∷ [])) (zipped false at (eval at t known ∷ [])) → Case F at (select ((name, Tree.aggregate a given) ∷ [])) (z ∷ []) R
    → Shows R (eval at t (Tree.aggregate a known) ∷ [])

-- Calls only add: nodes that read earlier ones, and names.
pub record CallsAdd : Type 0 where
  pub exprs : (at : ℕ) (input : Stream) (s : State) (es : List Tree) → IsReady s input es → IsGrown s (lower_exprs at input es s).state
  pub selects : (at : ℕ) (input : Stream) (s : State) (es : List Named) → IsReady s input (exprs_of es) → IsGrown s (select_stream at input es s).state
