use Rattle.std.proofs.Common.{◌≡◌, map, take}
use Rattle.ps_frame.specs.Trees.{tree_at}
use Rattle.ps_meaning.specs.Steps.{key_trees}
use Rattle.text_plans.specs.Arenas.{KeepsTrees}
use Rattle.text_plans.specs.QueryPlans.{expr_tree}
use Rattle.text_queries.specs.Views.{key_of}
use Rattle.text_queries.specs.Queries.{Key}
use Rattle.text_plans.proofs.entering.add_keys.Given as goal

abbrev pub invariant-loop-key : goal.invariant-loop-key
invariant-loop-key l =
    record {
      trees : key_trees (tree_at l.into.items) l.added.items ≡ map (λ (key : Key). expr_tree key.expr) (map key_of (take l.key-index l.keys));
      kept : KeepsTrees l.initial.into.items l.into.items;
    }
