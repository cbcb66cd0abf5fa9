use Rattle.std.proofs.Common.{◌≡◌, map, take}
use Rattle.ps_frame.specs.Trees.{Tree, tree_at}
use Rattle.ps_meaning.specs.Steps.{key_trees}
use Rattle.text_plans.specs.Arenas.{KeepsTrees}
use Rattle.text_plans.proofs.entering.add_columns.Given as goal

abbrev pub invariant-loop-name : goal.invariant-loop-name
invariant-loop-name l =
    record {
      trees : key_trees (tree_at l.into.items) l.added.items ≡ map Tree.column (take l.name-index l.names);
      kept : KeepsTrees l.initial.into.items l.into.items;
    }
