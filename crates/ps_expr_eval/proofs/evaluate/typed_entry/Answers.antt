use Rattle.std.proofs.Common.{◌∙◌, ap, subst}
use Rattle.std.specs.Prelude.{IsSome}
use Rattle.ps_frame.proofs.Unfolding.{IsExpression-in_range, complete-is, tree_at-is}
use Rattle.ps_frame.specs.Trees.{Tree, tree_at, tree_size}
use Rattle.ps_frame.specs.Typing.{kind_over}
use Rattle.ps_expr_eval.proofs.Taking.{operands-size, operands-typed}
use Rattle.ps_expr_eval.proofs.evaluate.typed_entry.Goals as goal

pub get-requires : goal.get-requires
get-requires c = IsExpression-in_range c.args.arena.now.items c.args.expr c.requires.complete

pub returns-clause-tree : goal.returns-clause-tree
returns-clause-tree c = tree_at-is c.args.arena.now.items c.args.expr c.get.result.now c.requires.complete c.get.ensures

pub returns-clause-size : goal.returns-clause-size
returns-clause-size c =
    let tree = tree_at c.args.arena.now.items in
    ap tree_size (tree_at-is c.args.arena.now.items c.args.expr c.get.result.now c.requires.complete c.get.ensures) ∙ operands-size tree c.get.result.now

pub returns-clause-typed : goal.returns-clause-typed
returns-clause-typed c =
    let a = c.args.arena.now.items in
    let e = c.get.result.now in
    operands-typed c.args.df.now.schema (tree_at a) e (complete-is a c.args.expr e c.requires.complete c.get.ensures)
    (subst (λ (t : Tree). IsSome (kind_over c.args.df.now.schema t)) (tree_at-is a c.args.expr e c.requires.complete c.get.ensures) c.requires.kind)
