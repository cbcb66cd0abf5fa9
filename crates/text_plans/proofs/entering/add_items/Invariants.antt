use Rattle.std.proofs.Common.{◌≡◌, map, take}
use Rattle.ps_frame.specs.Trees.{tree_at}
use Rattle.ps_meaning.specs.Steps.{named_trees}
use Rattle.text_plans.specs.Arenas.{KeepsTrees}
use Rattle.text_plans.specs.QueryPlans.{named}
use Rattle.text_queries.specs.Views.{item_of}
use Rattle.text_plans.proofs.entering.add_items.Given as goal

abbrev pub invariant-loop-item : goal.invariant-loop-item
invariant-loop-item l =
    record {
      trees : named_trees (tree_at l.into.items) l.added.items ≡ map named (map item_of (take l.item-index l.items));
      kept : KeepsTrees l.initial.into.items l.into.items;
    }
