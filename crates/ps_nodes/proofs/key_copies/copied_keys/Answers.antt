-- One key more is copied.
use Rattle.std.proofs.Common.{◌∙◌, ap}
use Rattle.ps_frame.specs.Trees.{tree_at}
use Rattle.ps_meaning.specs.Steps.{key_trees}
use Rattle.ps_nodes.proofs.KeyCopies.{kept_then, more_keys}
use Rattle.ps_nodes.proofs.key_copies.copied_keys.Goals as goal

pub loop-key-preserved : goal.loop-key-preserved
loop-key-preserved c =
    record {
      trees =
          ap (key_trees (tree_at c.copy_into.new.into.items)) c.in_ok-push.ensures.items
          ∙ more_keys (tree_at c.copy_into.new.into.items) (tree_at c.loop-key.into.items) c.in-Ok.ensures.kept c.loop-key.copies.items c.in-Ok.copy c.args.keys.now c.loop-key.key-index c.key-item.result c.loop-key-test.true c.key-item.is c.requires c.loop-key.invariant.trees c.in-Ok.ensures.tree;
      kept = kept_then c.args.into.now.items c.loop-key.into.items c.copy_into.new.into.items c.loop-key.invariant.kept c.in-Ok.ensures.kept;
    }
