use Rattle.std.proofs.Common.{◌∙◌, ap}
use Rattle.ps_frame.proofs.Unfolding.{IsExpression-in_range, complete-is, tree_at-is}
use Rattle.ps_frame.specs.Trees.{tree_at, tree_size}
use Rattle.ps_expr_eval.proofs.Taking.{operands-complete, operands-size}
use Rattle.expression_reads.proofs.read_columns.entry_of.Goals as goal

pub get-requires : goal.get-requires
get-requires c = IsExpression-in_range c.args.arena.now.items c.args.expr c.requires

pub returns-clause-tree : goal.returns-clause-tree
returns-clause-tree c = tree_at-is c.args.arena.now.items c.args.expr c.get.result.now c.requires c.get.ensures

pub returns-clause-complete : goal.returns-clause-complete
returns-clause-complete c = operands-complete (tree_at c.args.arena.now.items) c.get.result.now (complete-is c.args.arena.now.items c.args.expr c.get.result.now c.requires c.get.ensures)

pub returns-clause-size : goal.returns-clause-size
returns-clause-size c =
    ap tree_size (tree_at-is c.args.arena.now.items c.args.expr c.get.result.now c.requires c.get.ensures) ∙ operands-size (tree_at c.args.arena.now.items) c.get.result.now
