use Rattle.std.proofs.Common.{◌≡◌, drop}
use Rattle.std.specs.BTreeSet.{contains_text}
use Rattle.std.specs.List.{AllByRecursion}
use Rattle.std.specs.Prelude.{◌||◌}
use Rattle.ps_frame.specs.Trees.{IsComplete, tree_at}
use Rattle.ps_meaning.specs.Schemas.{bare_names, is_among}
use Rattle.ps_meaning.specs.Steps.{Name, key_trees}
use Rattle.ps_validate.proofs.keys.column_names.Given as goal

abbrev pub invariant-loop-key : goal.invariant-loop-key
invariant-loop-key l =
    record {
      complete : AllByRecursion IsComplete (key_trees (tree_at l.arena.items) (drop l.key-index l.keys));
      names : (n : Name) → (contains_text l.names n || is_among n (bare_names (key_trees (tree_at l.arena.items) (drop l.key-index l.keys)))) ≡ is_among n (bare_names (key_trees (tree_at l.arena.items) l.keys));
    }
