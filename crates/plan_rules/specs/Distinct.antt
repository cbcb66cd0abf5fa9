-- A distinct: a group-by of its key columns, or a map over the whole input.
use Rattle.std.specs.Prelude.{ℕ, ◌&&◌, Bool, true, false, not, List, [], ◌∷◌, ◌++◌, map, filter, None, unwrap_or, if◌then◌else◌}
use Rattle.ps_frame.specs.Trees.{Aggregation, Tree}
use Rattle.ps_frame.specs.declared.expr.LiteralValue.TheVariants as lit
use Rattle.ps_frame.specs.declared.expr.Operator.TheVariants as op
use Rattle.ps_meaning.specs.Schemas.{is_among, names_of}
use Rattle.ps_meaning.specs.Shape.{filter_node, in_memory_map}
use Rattle.ps_meaning.specs.Steps.{DistinctStep, Name, Named, distinct}
use Rattle.ps_meaning.specs.declared.options.UniqueKeepStrategy.{UniqueKeepStrategy}
use Rattle.ps_meaning.specs.declared.options.UniqueKeepStrategy.TheVariants as keep
use Rattle.ps_rules.specs.Slots.{Made, State, Stream, after_name, new_name, over_same, schema_at, with_columns}
use Rattle.plan_rules.specs.Groups.{group_stream, own_columns}
use Rattle.plan_rules.specs.Slices.{cut_stream}

abbrev pub keeps_last : UniqueKeepStrategy → Bool
keeps_last keep.Last = true
keeps_last _ = false

-- only rows that no other row is equal to
abbrev pub keeps_none : UniqueKeepStrategy → Bool
keeps_none keep.None = true
keeps_none _ = false

-- any row may be kept where that is asked for, and of rows that come once the first is the only one
abbrev pub kept_value : UniqueKeepStrategy → Aggregation
kept_value k = if keeps_last k then Aggregation.last else Aggregation.first

abbrev pub kept_values : UniqueKeepStrategy → List Name → List Named
kept_values k names = map (λ name. (name, Tree.aggregate (kept_value k) (Tree.column name))) names

abbrev pub other_than : List Name → List Name → List Name
other_than keys all = filter (λ name. not (is_among name keys)) all

-- the count of this name is 1
abbrev pub is_one : Name → Tree
is_one name = Tree.binary op.Eq (Tree.column name) (Tree.literal (lit.IdxSize 1))

module _ (at : ℕ) where
  -- groups by the key columns, in the order of the subset, with the kept value of each other column, and more beside these
  abbrev pub groups_with : List Named → DistinctStep → Stream → State → Made
  groups_with more o input s =
      let all = names_of (schema_at s.nodes input) in
      let keys = unwrap_or o.subset all in
      group_stream at (record { keys = own_columns keys; aggregates = kept_values o.keep (other_than keys all) ++ more; maintain_order = o.maintain_order; cut = None }) input s

  -- groups with their heights under a fresh name, of which those of one row are kept
  abbrev pub single_rows : DistinctStep → Stream → State → Made
  single_rows o input s =
      let height = new_name s in
      let g = groups_with ((height, Tree.len) ∷ []) o input (after_name s) in
      over_same at (filter_node (is_one height)) g.stream g.state

  abbrev pub kept_groups : DistinctStep → Stream → State → Made
  kept_groups o = if keeps_none o.keep then single_rows o else groups_with [] o

  -- the columns in the order of the input, and the slice above
  abbrev pub grouped_distinct : DistinctStep → Stream → State → Made
  grouped_distinct o input s =
      let g = kept_groups o input s in
      let ordered = with_columns at (names_of (schema_at s.nodes input)) g.stream g.state in
      cut_stream at o.cut ordered.stream ordered.state

  -- the map applies the slice itself
  abbrev pub mapped_distinct : DistinctStep → Stream → State → Made
  mapped_distinct o = over_same at (in_memory_map (distinct o))

  -- no group-by tells where the last row of a group stood
  abbrev pub distinct_stream : DistinctStep → Stream → State → Made
  distinct_stream o = if o.maintain_order && keeps_last o.keep then mapped_distinct o else grouped_distinct o
