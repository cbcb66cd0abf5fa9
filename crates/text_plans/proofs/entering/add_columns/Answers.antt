use Rattle.std.proofs.Common.{◌∙◌, ap, take}
use Rattle.ps_frame.specs.Trees.{Tree, tree_at}
use Rattle.ps_meaning.specs.Steps.{key_trees}
use Rattle.ps_meaning.specs.declared.options.ExprIR.{ExprIR}
use Rattle.text_plans.proofs.Entered.{kept-then}
use Rattle.text_plans.proofs.Lists.{map-more}
use Rattle.text_plans.proofs.Wholes.{columns-whole, keys-stay}
use Rattle.text_plans.specs.QueryPlans.{columns}
use Rattle.text_plans.proofs.entering.add_columns.Goals as goal

pub loop-name-preserved : goal.loop-name-preserved
loop-name-preserved c =
    record {
      trees =
          ap (key_trees (tree_at c.add.new.into.items)) c.in_ok-push.ensures.items
          ∙ map-more (λ (e : ExprIR). tree_at c.add.new.into.items e.node) Tree.column c.loop-name.added.items _ c.args.names.now c.loop-name.name-index c.name-item.result c.loop-name-test.true c.name-item.is
          (keys-stay c.loop-name.into.items c.add.new.into.items c.in_ok-node.ensures.kept c.loop-name.added.items (columns (take c.loop-name.name-index c.args.names.now)) (columns-whole (take c.loop-name.name-index c.args.names.now)) c.loop-name.invariant.trees)
          (c.in_ok-node.ensures.tree ∙ ap Tree.column c.in_ok-try_clone.ensures.same);
      kept = kept-then c.args.into.now.items c.loop-name.into.items c.add.new.into.items c.loop-name.invariant.kept c.in_ok-node.ensures.kept;
    }
