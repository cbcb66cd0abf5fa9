-- The tables of groups.
use Rattle.std.specs.Prelude.{◌≡◌, ℕ, List, [], length, map, take, drop, get_or}
use Rattle.std.specs.List.{concat}
use Rattle.ps_frame.specs.Gathered.{rows_at}
use Rattle.ps_frame.specs.Tables.{Frame}
use Rattle.ps_frame.specs.Zip.{below}
use Rattle.ps_keys.specs.KeyRows.{AreBelow, places_of_each}
use Rattle.ps_keys.specs.declared.numbering.Numbering.{Numbering}

-- the part of a table that has the rows of group k, where the groups lie one after another
abbrev pub part_in : Frame → List (List ℕ) → ℕ → Frame
part_in f groups k = record { schema = f.schema; rows = take (length (get_or groups k [])) (drop (length (concat (take k groups))) f.rows) }

abbrev pub parts_in : Frame → List (List ℕ) → List Frame
parts_in f groups = map (part_in f groups) (below (length groups))

-- the table of these rows of a table
abbrev pub table_at : Frame → List ℕ → Frame
table_at f rows = record { schema = f.schema; rows = rows_at rows f.rows }

-- the tables of the rows of each key, where the keys are numbered
abbrev pub group_tables : Frame → Numbering → List Frame
group_tables f n = map (table_at f) (places_of_each (length n.firsts.items) n.keys.items)

-- each row of a table has the number of a key
pub record IsNumberingOf (f : Frame) (n : Numbering) : Type 0 where
  pub below : AreBelow (length n.firsts.items) n.keys.items
  pub long : length n.keys.items ≡ length f.rows

-- a table with the rows of each group one after another
pub record IsByGroup (f : Frame) (groups : List (List ℕ)) (g : Frame) : Type 0 where
  pub schema : g.schema ≡ f.schema
  pub rows : g.rows ≡ rows_at (concat groups) f.rows
