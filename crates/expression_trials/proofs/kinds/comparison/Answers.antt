use Rattle.ps_frame.specs.declared.expr.Operator.TheVariants as op
use Rattle.expression_trials.proofs.Arenas.{comparison-is}
use Rattle.expression_trials.proofs.kinds.comparison.Goals as goal

pub returns : goal.returns
returns c =
    comparison-is c.new-arena.result.items c.add.new.self.items c.add-2.new.self.items c.add-3.new.self.items c.in_ok-left.left c.in_ok-right.right c.in_ok-whole.whole c.in_ok-name.name c.args.bound op.Gt
    c.new-arena.ensures.empty c.in_ok-left.ensures.number c.in_ok-left.ensures.added c.in_ok-right.ensures.number c.in_ok-right.ensures.added c.in_ok-whole.ensures.number c.in_ok-whole.ensures.added
