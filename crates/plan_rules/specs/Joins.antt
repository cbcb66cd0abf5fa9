-- A join: by keys, or over its whole inputs.
use Rattle.std.specs.Prelude.{ℕ, List, [], ◌∷◌, ◌++◌, length, take, None, if◌then◌else◌}
use Rattle.ps_frame.specs.Tables.{Fields}
use Rattle.ps_frame.specs.Trees.{Tree}
use Rattle.ps_meaning.specs.Joins.{goes_by_left}
use Rattle.ps_meaning.specs.Shape.{PhysicalKind, equi_join, in_memory_join}
use Rattle.ps_meaning.specs.Steps.{JoinStep}
use Rattle.ps_rules.specs.Lowered.{lower_exprs}
use Rattle.ps_rules.specs.Slots.{Made, State, Stream, insert_node}
use Rattle.plan_rules.specs.Groups.{columns_over}
use Rattle.plan_rules.specs.Slices.{cut_stream}

-- the same join by other keys, without its slice
abbrev pub keyed_join : JoinStep → (left_on right_on : List Tree) → JoinStep
keyed_join o left_on right_on = record { left_on = left_on; right_on = right_on; args = record o.args { slice = None } }

module _ (at : ℕ) where
  abbrev pub over_both : PhysicalKind → Fields → Stream → Stream → State → Made
  over_both kind schema left right s = insert_node s (record { kind = kind; schema = schema; origin = at; inputs = left ∷ right ∷ [] })

  -- the keys of each side and all its columns are lowered together, the left side first; the slice is above the join
  abbrev pub equi_join_stream : JoinStep → Fields → Stream → Stream → State → Made
  equi_join_stream o schema left right s =
      let l = lower_exprs at left (o.left_on ++ columns_over left s) s in
      let r = lower_exprs at right (o.right_on ++ columns_over right l.state) l.state in
      let m = over_both (equi_join (keyed_join o (take (length o.left_on) l.exprs) (take (length o.right_on) r.exprs))) schema l.stream r.stream r.state in
      cut_stream at o.args.slice m.stream m.state

  -- The stream of a join with this schema. A semi, an anti and a cross join take their whole inputs, and apply the slice themselves.
  abbrev pub join_stream : JoinStep → Fields → Stream → Stream → State → Made
  join_stream o schema = if goes_by_left o.args.how then equi_join_stream o schema else over_both (in_memory_join o) schema
