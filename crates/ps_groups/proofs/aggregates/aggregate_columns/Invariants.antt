use Rattle.std.proofs.Common.{◌≡◌, length, take}
use Rattle.std.specs.Prelude.{IfSome}
use Rattle.std.specs.List.{AllZip}
use Rattle.ps_frame.specs.Frames.{HasKinds}
use Rattle.ps_frame.specs.Trees.{tree_at}
use Rattle.ps_keys.specs.KeyRows.{places_of_each}
use Rattle.ps_meaning.specs.Steps.{key_trees}
use Rattle.ps_groups.specs.Grouped.{IsAggregate, last_fields}
use Rattle.ps_groups.specs.GroupTables.{IsByGroup, group_tables}
use Rattle.ps_groups.proofs.aggregates.aggregate_columns.Given as goal

abbrev pub invariant-loop-i : goal.invariant-loop-i
invariant-loop-i l = record {
  kinds : HasKinds (take l.i (last_fields (length l.aggs) l.schema)) l.columns.items;
  columns : AllZip (IsAggregate l.at.0 (group_tables l.df l.numbering)) (key_trees (tree_at l.arena.items) (take l.i l.aggs)) l.columns.items;
  apart : IfSome l.by_group (IsByGroup l.df (places_of_each (length l.numbering.firsts.items) l.numbering.keys.items));
  together : IfSome l.rows_of_keys (λ rows. rows ≡ places_of_each (length l.numbering.firsts.items) l.numbering.keys.items);
}
