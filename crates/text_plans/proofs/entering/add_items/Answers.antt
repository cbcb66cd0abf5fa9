use Rattle.std.proofs.Common.{◌∙◌, ap, map, take}
use Rattle.ps_frame.specs.Trees.{tree_at}
use Rattle.ps_meaning.specs.Steps.{name_in, named_trees}
use Rattle.ps_meaning.specs.declared.options.ExprIR.{ExprIR}
use Rattle.text_plans.proofs.Entered.{kept-then}
use Rattle.text_plans.proofs.Lists.{map-more-twice}
use Rattle.text_plans.proofs.Wholes.{items-stay}
use Rattle.text_plans.specs.QueryPlans.{named}
use Rattle.text_queries.specs.Views.{item_of}
use Rattle.text_plans.proofs.entering.add_items.Goals as goal

pub loop-item-preserved : goal.loop-item-preserved
loop-item-preserved c =
    record {
      trees =
          ap (named_trees (tree_at c.add_expr.new.into.items)) c.in_ok-push.ensures.items
          ∙ map-more-twice (λ (e : ExprIR). (name_in e.output_name, tree_at c.add_expr.new.into.items e.node)) named item_of c.loop-item.added.items _ c.args.items.now c.loop-item.item-index c.item-item.result c.loop-item-test.true c.item-item.is
          (items-stay c.loop-item.into.items c.add_expr.new.into.items c.in_ok-node.ensures.kept c.loop-item.added.items (map item_of (take c.loop-item.item-index c.args.items.now)) c.loop-item.invariant.trees)
          (λ i. (c.in_ok-try_clone.ensures.same i, c.in_ok-node.ensures.tree i));
      kept = kept-then c.args.into.now.items c.loop-item.into.items c.add_expr.new.into.items c.loop-item.invariant.kept c.in_ok-node.ensures.kept;
    }
