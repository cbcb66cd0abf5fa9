use Rattle.std.proofs.Common.{◌∙◌, ap, map, take}
use Rattle.ps_frame.specs.Trees.{tree_at}
use Rattle.ps_meaning.specs.Steps.{key_trees}
use Rattle.ps_meaning.specs.declared.options.ExprIR.{ExprIR}
use Rattle.text_plans.proofs.Entered.{kept-then}
use Rattle.text_plans.proofs.Lists.{map-more-twice}
use Rattle.text_plans.proofs.Wholes.{keys-stay, keys-whole}
use Rattle.text_plans.specs.QueryPlans.{expr_tree}
use Rattle.text_queries.specs.Queries.{Key}
use Rattle.text_queries.specs.Views.{key_of}
use Rattle.text_plans.proofs.entering.add_keys.Goals as goal

pub loop-key-preserved : goal.loop-key-preserved
loop-key-preserved c =
    record {
      trees =
          ap (key_trees (tree_at c.add_expr.new.into.items)) c.in_ok-push.ensures.items
          ∙ map-more-twice (λ (e : ExprIR). tree_at c.add_expr.new.into.items e.node) (λ (key : Key). expr_tree key.expr) key_of c.loop-key.added.items _ c.args.keys.now c.loop-key.key-index c.key-item.result c.loop-key-test.true c.key-item.is
          (keys-stay c.loop-key.into.items c.add_expr.new.into.items c.in_ok-node.ensures.kept c.loop-key.added.items (map (λ (key : Key). expr_tree key.expr) (map key_of (take c.loop-key.key-index c.args.keys.now))) (keys-whole (map key_of (take c.loop-key.key-index c.args.keys.now))) c.loop-key.invariant.trees)
          c.in_ok-node.ensures.tree;
      kept = kept-then c.args.into.now.items c.loop-key.into.items c.add_expr.new.into.items c.loop-key.invariant.kept c.in_ok-node.ensures.kept;
    }
