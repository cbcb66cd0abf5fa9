-- The left keys stand in the arena with the right ones too.
use Rattle.ps_frame.specs.Trees.{tree_at}
use Rattle.ps_nodes.proofs.KeyCopies.{join_copied, keys_carried, trees_shown}
use Rattle.ps_nodes.proofs.key_copies.copied_sides.Goals as goal

pub returns-in-Ok-copied_keys-clause-same : goal.returns-in-Ok-copied_keys-clause-same
returns-in-Ok-copied_keys-clause-same c args =
    let f = tree_at c.copied_keys-2.new.into.items in
    let g = tree_at c.copied_keys.new.into.items in
    let left = keys_carried f g c.in-Ok-copied_keys.ensures.kept c.in-Ok.left.items (trees_shown c.args.left_on.now) c.requires.left c.in-Ok.ensures.trees in
    join_copied f c.in-Ok.left.items c.in-Ok-copied_keys.right.items c.args.left_on.now c.args.right_on.now args left c.in-Ok-copied_keys.ensures.trees
