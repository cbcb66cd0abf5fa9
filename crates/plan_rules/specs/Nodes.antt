-- The stream of each kind of node, over the streams of its inputs.
use Rattle.std.specs.Prelude.{ℕ, true, false, List, [], ◌∷◌, ◌++◌, map, length, drop, if◌then◌else◌}
use Rattle.std.specs.List.{list_all}
use Rattle.std.specs.Str.{bytes_eq}
use Rattle.ps_frame.specs.Functions.{Functions}
use Rattle.ps_frame.specs.Tables.{Fields, Frame}
use Rattle.ps_frame.specs.Trees.{Tree}
use Rattle.ps_frame.specs.Typing.{is_elementwise}
use Rattle.ps_meaning.specs.Schemas.{expr_names, names_of}
use Rattle.ps_meaning.specs.Shape.{PhysicalKind, filter_node, in_memory_map, in_memory_sink, in_memory_source, ordered_union, select_node, stream_map, with_row_index, zip_node}
use Rattle.ps_meaning.specs.Steps.{Cut, Name, Named, Step, cache, distinct, exprs_of, filter, group_by, hconcat, hstack, join, left_out, project, row_index, scan, select, sink, slice, sort, union, user}
use Rattle.ps_rules.specs.Lowered.{lower_exprs, select_stream}
use Rattle.ps_rules.specs.Rules.{first_tree}
use Rattle.ps_rules.specs.Slots.{Made, State, Stream, insert_node, over, over_same, projection, schema_at, under, with_columns, without_input}
use Rattle.plan_rules.specs.Distinct.{distinct_stream}
use Rattle.plan_rules.specs.Groups.{columns_over, group_stream}
use Rattle.plan_rules.specs.Joins.{join_stream}
use Rattle.plan_rules.specs.Slices.{cut_stream, slice_stream}

abbrev pub first_stream : List Stream → Stream
first_stream [] = (0, 0)
first_stream (s ∷ ss) = s

abbrev pub second_stream : List Stream → Stream
second_stream [] = (0, 0)
second_stream (s ∷ ss) = first_stream ss

-- the expression of this name, else the column of this name
abbrev pub expr_or_column : List Named → Name → Tree
expr_or_column [] name = Tree.column name
expr_or_column (e ∷ es) name = if bytes_eq e.0 name then e.1 else expr_or_column es name

module _ (at : ℕ) where
  -- a node over any number of streams
  abbrev pub over_all : PhysicalKind → Fields → List Stream → State → Made
  over_all kind schema inputs s = insert_node s (record { kind = kind; schema = schema; origin = at; inputs = inputs })

  -- the whole table, and the columns that are asked for
  abbrev pub scan_stream : Frame → Fields → State → Made
  scan_stream table schema s = let m = over_all (in_memory_source table) table.schema [] s in with_columns at (names_of schema) m.stream m.state

  -- all columns and the expressions are lowered together; a select gives the output columns
  abbrev pub extended_apart : List Named → Fields → Stream → State → Made
  extended_apart es schema input s =
      let columns = columns_over input s in
      let a = lower_exprs at input (columns ++ exprs_of es) s in
      let answers = under (expr_names es) (drop (length columns) a.exprs) in
      over at (select_node (under (names_of schema) (map (expr_or_column answers) (names_of schema))) false) schema a.stream a.state

  abbrev pub hstack_stream : List Named → Fields → Stream → State → Made
  hstack_stream es schema = if list_all is_elementwise (exprs_of es) then over at (select_node es true) schema else extended_apart es schema

  -- all columns and the predicate are lowered together and filtered; the columns alone are kept
  abbrev pub filter_stream : Tree → Stream → State → Made
  filter_stream predicate input s =
      let columns = columns_over input s in
      let a = lower_exprs at input (columns ++ predicate ∷ []) s in
      let m = over_same at (filter_node (first_tree (drop (length columns) a.exprs))) a.stream a.state in
      with_columns at (names_of (schema_at s.nodes input)) m.stream m.state

  -- the slice of a union is above it
  abbrev pub union_stream : Cut → Fields → List Stream → State → Made
  union_stream cut schema inputs s = let m = over_all ordered_union schema inputs s in cut_stream at cut m.stream m.state

  -- The stream of a step with this schema. A cache is the stream of its input. Of a step that the engine leaves out nothing is promised: no valid plan has one.
  abbrev pub step_stream : Functions → Step → Fields → List Stream → State → Made
  step_stream F (scan table columns) schema inputs s = scan_stream table schema s
  step_stream F (project names) schema inputs s = projection at names (first_stream inputs) s
  step_stream F (select es) schema inputs s = select_stream at (first_stream inputs) es s
  step_stream F (hstack es) schema inputs s = hstack_stream es schema (first_stream inputs) s
  step_stream F (filter predicate) schema inputs s = filter_stream predicate (first_stream inputs) s
  step_stream F (slice offset n) schema inputs s = slice_stream at offset n (first_stream inputs) s
  step_stream F (sink target) schema inputs s = over_same at in_memory_sink (first_stream inputs) s
  step_stream F (row_index name offset) schema inputs s = over at (with_row_index name offset) schema (first_stream inputs) s
  step_stream F (user n) schema inputs s = over at (if F.streams n then stream_map (user n) else in_memory_map (user n)) schema (first_stream inputs) s
  step_stream F (sort o) schema inputs s = over_same at (in_memory_map (sort o)) (first_stream inputs) s
  step_stream F (union cut) schema inputs s = union_stream cut schema inputs s
  step_stream F hconcat schema inputs s = over_all (zip_node true) schema inputs s
  step_stream F (cache id) schema inputs s = record { state = s; stream = first_stream inputs }
  step_stream F (group_by o) schema inputs s = group_stream at o (first_stream inputs) s
  step_stream F (join o) schema inputs s = join_stream at o schema (first_stream inputs) (second_stream inputs) s
  step_stream F (distinct o) schema inputs s = distinct_stream at o (first_stream inputs) s
  step_stream F (left_out what) schema inputs s = without_input at [] s
