use Rattle.ps_expr_eval.proofs.Taking.{last-complete, last-size, shrinks}
use Rattle.ps_frame.specs.Trees.{tree_at, tree_size, trees_of, trees_size}
use Rattle.ps_expr_eval.proofs.shared.count_readers.Goals as goal

pub note_operands-requires-clause-expression : goal.note_operands-requires-clause-expression
note_operands-requires-clause-expression c = (last-complete (tree_at c.args.arena.now.items) c.loop-next.left.items c.pop.new.self.items c.in-Some.next c.in-Some.ensures.items c.loop-next.invariant).1

pub note_operands-requires-clause-complete : goal.note_operands-requires-clause-complete
note_operands-requires-clause-complete c = (last-complete (tree_at c.args.arena.now.items) c.loop-next.left.items c.pop.new.self.items c.in-Some.next c.in-Some.ensures.items c.loop-next.invariant).0

pub loop-next-smaller : goal.loop-next-smaller
loop-next-smaller c =
    let tree = tree_at c.args.arena.now.items in
    shrinks (trees_size (trees_of tree c.note_operands.new.left.items)) (trees_size (trees_of tree c.pop.new.self.items)) (trees_size (trees_of tree c.loop-next.left.items)) (tree_size (tree c.in-Some.next)) c.in_ok-note_operands.ensures.smaller (last-size tree c.loop-next.left.items c.pop.new.self.items c.in-Some.next c.in-Some.ensures.items)
