use Rattle.std.proofs.Common.{arith, sym, ◌∙◌}
use Rattle.ps_frame.specs.Trees.{tree_at}
use Rattle.expr_lowering.proofs.Ruled.{own_end}
use Rattle.expr_lowering.proofs.lower.are_own_columns.Goals as goal

pub returns : goal.returns
returns c =
    let m = c.min-count.ensures in
    let done = c.loop-i-test.false in
    own_end (tree_at c.args.arena.now.items) c.args.names.now c.args.exprs.now c.loop-i.i (omega arith) ∙ sym c.loop-i.invariant.left
