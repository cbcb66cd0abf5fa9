use Rattle.std.proofs.Common.{◌≡◌, ◌+◌, ◌*◌, ◌≤◌, drop}
use Rattle.std.specs.Prelude.{◌&&◌}
use Rattle.ps_frame.specs.Trees.{AreComplete, tree_at, tree_size, trees_of, trees_size}
use Rattle.ps_frame.specs.Typing.{are_scalar, have_kinds}
use Rattle.ps_typing.proofs.Parts.{AreAmong}
use Rattle.ps_frame.specs.Parts.{trees_parts}
use Rattle.ps_typing.proofs.kinds.+typing.Given as goal

abbrev pub decreases-type_expr : goal.decreases-type_expr
decreases-type_expr g l = 2 * tree_size (tree_at l.arena.now.items l.expr)

abbrev pub decreases-type_two : goal.decreases-type_two
decreases-type_two g l = 2 * (tree_size (tree_at l.arena.now.items l.first) + tree_size (tree_at l.arena.now.items l.second)) + 1

abbrev pub decreases-type_three : goal.decreases-type_three
decreases-type_three g l = 2 * (tree_size (tree_at l.arena.now.items l.first) + (tree_size (tree_at l.arena.now.items l.second) + tree_size (tree_at l.arena.now.items l.third))) + 1

abbrev pub decreases-type_keys : goal.decreases-type_keys
decreases-type_keys g l = 2 * trees_size (trees_of (tree_at l.arena.now.items) l.keys.now) + 1

abbrev pub invariant-type_keys-loop-key : goal.invariant-type_keys-loop-key
invariant-type_keys-loop-key g l =
    record {
      complete : AreComplete (trees_of (tree_at l.arena.items) (drop l.key-index l.keys));
      kinds : have_kinds l.schema (trees_of (tree_at l.arena.items) l.keys) ≡ have_kinds l.schema (trees_of (tree_at l.arena.items) (drop l.key-index l.keys));
      scalar : are_scalar (trees_of (tree_at l.arena.items) l.keys) ≡ (l.all_scalar && are_scalar (trees_of (tree_at l.arena.items) (drop l.key-index l.keys)));
      among : AreAmong (trees_parts (trees_of (tree_at l.arena.items) (drop l.key-index l.keys))) (trees_parts (trees_of (tree_at l.arena.items) l.keys));
      small : trees_size (trees_of (tree_at l.arena.items) (drop l.key-index l.keys)) ≤ trees_size (trees_of (tree_at l.arena.items) l.keys);
      steps : l.steps + trees_size (trees_of (tree_at l.arena.items) (drop l.key-index l.keys)) ≤ l.initial.steps + trees_size (trees_of (tree_at l.arena.items) l.keys);
    }
