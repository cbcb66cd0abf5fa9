-- The keys of the rows that a group-by or an equi join takes, and the lists into which a group-by splits its own.
use Rattle.std.specs.Prelude.{◌≡◌, ℕ, zero, suc, false, List, [], ◌∷◌, map, flat_map, length, take, drop, filter as kept}
use Rattle.std.specs.List.{count_by, list_any}
use Rattle.ps_frame.specs.Tables.{Row, Table}
use Rattle.ps_frame.specs.Trees.{Tree}
use Rattle.ps_frame.specs.Values.{same_row}
use Rattle.ps_meaning.specs.Cases.{first_table, keyed, width}
use Rattle.ps_meaning.specs.Distinct.{distinct_rows}
use Rattle.ps_meaning.specs.Orders.{IsOrder}
use Rattle.ps_meaning.specs.Shape.{PhysicalKind, PhysicalNode, equi_join, group_by_node}
use Rattle.ps_meaning.specs.Steps.{exprs_of}

-- the key expressions of an input
abbrev pub key_trees : PhysicalKind → (input : ℕ) → List Tree
key_trees (group_by_node keys aggregates) i = exprs_of keys
key_trees (equi_join o) zero = o.left_on
key_trees (equi_join o) (suc i) = o.right_on
key_trees _ i = []

-- the keys of a table's rows
abbrev pub keys_over : ℕ → List Tree → Table → List Row
keys_over at keys t = map (drop (width t)) (keyed at keys t).rows

-- each distinct key of a group-by's input once
abbrev pub distinct_keys : PhysicalNode → List Table → List Row
distinct_keys p ts = distinct_rows (keys_over p.origin (key_trees p.kind 0) (first_table ts))

-- so many lists hold each distinct key once
pub record IsSplit (p : PhysicalNode) (ts : List Table) (partitions : ℕ) (lists : List (List Row)) : Type 0 where
  pub number : length lists ≡ partitions
  pub each_once : IsOrder false (distinct_keys p ts) (flat_map (λ (l : List Row). l) lists)

-- the rows of a table whose keys are in a list
abbrev pub rows_with_keys : ℕ → List Tree → (list : List Row) → Table → Table
rows_with_keys at keys list t =
    record t { rows = map (take (width t)) (kept (λ r. list_any (same_row (drop (width t) r)) list) (keyed at keys t).rows) }

-- how many keys of a list a group-by's input has, and its rows with these
abbrev pub keys_among : PhysicalNode → (list : List Row) → List Table → ℕ
keys_among p list ts = count_by (λ k. list_any (same_row k) (keys_over p.origin (key_trees p.kind 0) (first_table ts))) list

abbrev pub part_of : PhysicalNode → (list : List Row) → List Table → List Table
part_of p list ts = rows_with_keys p.origin (key_trees p.kind 0) list (first_table ts) ∷ []
