use Rattle.std.proofs.Common.{List, ◌∙◌, subst, sym}
use Rattle.std.proofs.lemmas.Result.{on_ok_weaker}
use Rattle.pu_base.specs.declared.arena.Node.{Node}
use Rattle.ps_expr_eval.proofs.Taking.{operands-complete, operands-fewer}
use Rattle.ps_frame.specs.Trees.{AreComplete, tree_at, tree_size, trees_of, trees_size}
use Rattle.ps_expr_eval.proofs.shared.note_operands.Goals as goal

pub note_all-requires-clause-nodes : goal.note_all-requires-clause-nodes
note_all-requires-clause-nodes c =
    let tree = tree_at c.args.arena.now.items in
    subst (λ (xs : List Node). AreComplete (trees_of tree xs)) (sym (c.as_slice.ensures.value ∙ c.in_ok-nodes.ensures)) (operands-complete tree c.entry.result.now c.entry.ensures.complete)

pub returns-clause-smaller : goal.returns-clause-smaller
returns-clause-smaller c =
    let tree = tree_at c.args.arena.now.items in
    on_ok_weaker c.note_all.result
    (operands-fewer tree c.as_slice.result.now (trees_size (trees_of tree c.note_all.new.left.items)) (trees_size (trees_of tree c.args.left.now.items)) c.entry.result.now (tree_size (tree c.args.expr)) (c.as_slice.ensures.value ∙ c.in_ok-nodes.ensures) c.entry.ensures.size)
    c.note_all.ensures.more
