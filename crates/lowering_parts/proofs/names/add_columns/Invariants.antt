use Rattle.std.proofs.Common.{◌≡◌, take}
use Rattle.ps_copies.specs.Copies.{KeepsTrees}
use Rattle.ps_frame.specs.Trees.{tree_at}
use Rattle.ps_rules.specs.Slots.{columns_named}
use Rattle.lowering_parts.specs.Gathered.{Begins, trees_at}
use Rattle.lowering_parts.proofs.names.add_columns.Given as goal

abbrev pub invariant-loop-name : goal.invariant-loop-name
invariant-loop-name l =
    record {
      entries : Begins l.initial.arena.items l.arena.items;
      kept : KeepsTrees l.initial.arena.items l.arena.items;
      trees : trees_at (tree_at l.arena.items) l.columns.items ≡ columns_named (take l.name-index l.names);
    }
