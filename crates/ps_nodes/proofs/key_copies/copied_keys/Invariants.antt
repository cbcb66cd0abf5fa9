use Rattle.std.proofs.Common.{◌≡◌, take}
use Rattle.ps_copies.specs.Copies.{KeepsTrees}
use Rattle.ps_frame.specs.Trees.{tree_at}
use Rattle.ps_meaning.specs.Steps.{key_trees}
use Rattle.ps_nodes.proofs.KeyCopies.{trees_shown}
use Rattle.ps_nodes.proofs.key_copies.copied_keys.Given as goal

abbrev pub invariant-loop-key : goal.invariant-loop-key
invariant-loop-key l =
    record {
      trees : key_trees (tree_at l.into.items) l.copies.items ≡ trees_shown (take l.key-index l.keys);
      kept : KeepsTrees l.initial.into.items l.into.items;
    }
