-- A group-by: streamed, or left to a map over the whole input.
use Rattle.std.specs.Prelude.{ℕ, ◌&&◌, Bool, not, List, ◌++◌, if◌then◌else◌}
use Rattle.std.specs.List.{list_all}
use Rattle.ps_frame.specs.Trees.{Tree}
use Rattle.ps_meaning.specs.Schemas.{expr_names, names_of}
use Rattle.ps_meaning.specs.Shape.{group_by_node, in_memory_map}
use Rattle.ps_meaning.specs.Steps.{GroupStep, Name, Named, exprs_of, group_by}
use Rattle.ps_rules.specs.Calls.{all_independent}
use Rattle.ps_rules.specs.Lowered.{lower_exprs, select_stream}
use Rattle.ps_rules.specs.Slots.{Made, State, Stream, columns_named, over_selected, schema_at, under}
use Rattle.plan_rules.specs.Reductions.{is_made_of_reductions, split_aggregates}
use Rattle.plan_rules.specs.Slices.{cut_stream}

-- A group-by streams where the order of its groups is free, some key or aggregate reads the input, and each aggregate is made of reductions.
abbrev pub can_stream : GroupStep → Bool
can_stream o = not o.maintain_order && not (all_independent (exprs_of o.keys ++ exprs_of o.aggregates)) && list_all is_made_of_reductions (exprs_of o.aggregates)

-- columns under their own names
abbrev pub own_columns : List Name → List Named
own_columns names = under names (columns_named names)

-- the columns of a stream
abbrev pub columns_over : Stream → State → List Tree
columns_over input s = columns_named (names_of (schema_at s.nodes input))

module _ (at : ℕ) where
  -- keys and all columns are lowered together, grouped and reduced; a select above gives keys and aggregates
  abbrev pub streamed_groups : GroupStep → Stream → State → Made
  streamed_groups o input s =
      let a = lower_exprs at input (exprs_of o.keys ++ columns_over input s) s in
      let keys = under (expr_names o.keys) a.exprs in
      let split = split_aggregates o.aggregates a.state.names in
      let g = over_selected at (group_by_node keys split.reductions) (keys ++ split.reductions) a.stream (record a.state { names = split.names }) in
      let above = select_stream at g.stream (own_columns (expr_names o.keys) ++ split.above) g.state in
      cut_stream at o.cut above.stream above.state

  -- the map applies the slice itself
  abbrev pub mapped_groups : GroupStep → Stream → State → Made
  mapped_groups o = over_selected at (in_memory_map (group_by o)) (o.keys ++ o.aggregates)

  abbrev pub group_stream : GroupStep → Stream → State → Made
  group_stream o = if can_stream o then streamed_groups o else mapped_groups o
