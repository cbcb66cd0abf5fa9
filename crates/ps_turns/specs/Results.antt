-- The results of a piece: what may be handed in for it.
use Rattle.std.specs.Prelude.{◌≡◌, ℕ, ◌<◌, ◌≤◌, ◌⊎◌, List, [], ◌∷◌, ◌++◌, length, Contains}
use Rattle.ps_frame.specs.Aggregates.{max_rows}
use Rattle.ps_frame.specs.Causes.{Cause}
use Rattle.ps_frame.specs.Functions.{Functions}
use Rattle.ps_frame.specs.Tables.{IsWhole, Row, Table}
use Rattle.ps_frame.specs.Zip.{Zipped}
use Rattle.ps_frame.specs.declared.value.DataFault.TheVariants as data_fault
use Rattle.ps_meaning.specs.Cases.{first_table, keyed, out_schema, rows_table, second_table}
use Rattle.ps_meaning.specs.Shape.{IsLargeByStep, PhysicalBefore, PhysicalCase, PhysicalKind, PhysicalNode, as_step, equi_join, narrowed, tables_for}
use Rattle.ps_meaning.specs.Joins.{front_rows, last_rows}
use Rattle.ps_meaning.specs.Steps.{JoinStep, join}
use Rattle.ps_turns.specs.Keys.{key_trees, keys_among, part_of}
use Rattle.ps_turns.specs.Tables.{whole_tables}
use Rattle.ps_turns.specs.Tasks.{Answer, Piece, Task, bad, computes, gives_last, gives_part, good, hands_on, keeps, partial, probes}

abbrev pub rows_fault : PhysicalNode → Cause
rows_fault p = record { fault = data_fault.Rows; node = p.origin }

module _ (F : Functions) where
  -- a whole table that the node may give over these, of at most the greatest number of rows
  abbrev pub IsMade : PhysicalNode → List Table → List Row → Type 0
  IsMade p ts rs = (T : Table) × PhysicalCase F p ts T × IsWhole T × (T.rows ≡ rs) × (length rs ≤ max_rows)

  -- a cause by which a table that it may give is broken, or too many rows
  abbrev pub IsBrokenOver : PhysicalNode → List Table → Cause → Type 0
  IsBrokenOver p ts c =
      (U : Table) × PhysicalBefore F p (as_step p.kind) (tables_for F p.kind ts) U × (Contains U.broken c ⊎ (max_rows < length U.rows) × (c ≡ rows_fault p))

  -- a cause by which it makes no table of whole inputs: it breaks what the node may give; or a column of its step, or what it gives, has too many rows
  abbrev pub BreaksRows : PhysicalNode → List Table → Cause → Type 0
  BreaksRows p ts c = IsBrokenOver p ts c ⊎ IsLargeByStep F p.origin (as_step p.kind) (tables_for F p.kind ts) × (c ≡ rows_fault p)

  -- A partial of a reduce or a group-by has the rows that the node itself gives over the morsel: one, or one for each key. That of an equi join has the rows of a right morsel with their keys.
  abbrev pub side_of : PhysicalNode → (input : ℕ) → List Table → Zipped
  side_of p i ts = keyed p.origin (key_trees p.kind i) (first_table ts)

  abbrev pub IsPartial : PhysicalNode → PhysicalKind → (input : ℕ) → List Table → ℕ → Type 0
  IsPartial p (equi_join o) i ts n = ((side_of p i ts).broken ≡ []) × (n ≡ length (side_of p i ts).rows)
  IsPartial p _ i ts n = (rs : List Row) × IsMade p ts rs × (n ≡ length rs)

  abbrev pub BreaksPartial : PhysicalNode → PhysicalKind → (input : ℕ) → List Table → Cause → Type 0
  BreaksPartial p (equi_join o) i ts c = Contains ((side_of p i ts).broken ++ (side_of p i ts).lost) c
  BreaksPartial p _ i ts c = IsBrokenOver p ts c

  -- a list has more keys of the input than the greatest number of rows
  abbrev pub HasTooManyKeys : PhysicalNode → (keys : List Row) → List Table → Type 0
  HasTooManyKeys p keys ts = max_rows < keys_among p keys ts

  -- The sides of a join, zipped with their keys; what the left rows give over the right ones, and the right rows that come last.
  abbrev pub left_side : PhysicalNode → JoinStep → List Table → Zipped
  left_side p j ts = keyed p.origin j.left_on (first_table ts)

  abbrev pub right_side : PhysicalNode → JoinStep → List Table → Zipped
  right_side p j ts = keyed p.origin j.right_on (second_table ts)

  abbrev pub probed_rows : PhysicalNode → JoinStep → List Table → List Row
  probed_rows p j ts = front_rows j (first_table ts).schema (second_table ts).schema (left_side p j ts).rows (right_side p j ts).rows

  abbrev pub unmatched_rows : PhysicalNode → JoinStep → List Table → List Row
  unmatched_rows p j ts = last_rows j (first_table ts).schema (second_table ts).schema (left_side p j ts).rows (right_side p j ts).rows

  -- rows of a join over whole sides, as the node gives them
  abbrev pub IsJoined : PhysicalNode → JoinStep → List Table → (joined given : List Row) → Type 0
  IsJoined p j ts joined rs =
      ((left_side p j ts).broken ≡ []) × ((right_side p j ts).broken ≡ []) × (rs ≡ (narrowed F p (rows_table (out_schema F p.origin (join j) ts) joined)).rows) × (length rs ≤ max_rows)

  abbrev pub BreaksJoined : PhysicalNode → JoinStep → List Table → (joined : List Row) → Cause → Type 0
  BreaksJoined p j ts joined c =
      Contains ((left_side p j ts).broken ++ (left_side p j ts).lost) c ⊎ Contains ((right_side p j ts).broken ++ (right_side p j ts).lost) c ⊎ (max_rows < length joined) × (c ≡ rows_fault p)

  abbrev pub IsResultOf : Task → (input : ℕ) → List Table → (tables : List (List Row)) → Answer → Type 0
  IsResultOf hands_on i ts tables (good rs) = tables ≡ rs ∷ []
  IsResultOf (computes p) i ts tables (good rs) = IsMade p ts rs
  IsResultOf (computes p) i ts tables (bad c) = IsBrokenOver p ts c
  IsResultOf (keeps p) i ts tables (partial n) = IsPartial p p.kind i ts n
  IsResultOf (keeps p) i ts tables (bad c) = BreaksPartial p p.kind i ts c
  IsResultOf (gives_part p keys) i ts tables (good rs) = IsMade p (part_of p keys ts) rs
  IsResultOf (gives_part p keys) i ts tables (bad c) = IsBrokenOver p (part_of p keys ts) c ⊎ HasTooManyKeys p keys ts × (c ≡ rows_fault p)
  IsResultOf (probes p j) i ts tables (good rs) = IsJoined p j ts (probed_rows p j ts) rs
  IsResultOf (probes p j) i ts tables (bad c) = BreaksJoined p j ts (probed_rows p j ts) c
  IsResultOf (gives_last p j) i ts tables (good rs) = IsJoined p j ts (unmatched_rows p j ts) rs
  IsResultOf (gives_last p j) i ts tables (bad c) = BreaksJoined p j ts (unmatched_rows p j ts) c
  IsResultOf _ i ts tables _ = ⊥

  abbrev pub IsResult : Piece → Answer → Type 0
  IsResult q a = IsResultOf q.task q.input (whole_tables q.schemas q.tables) q.tables a
