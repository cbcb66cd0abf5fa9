use Rattle.ps_frame.specs.Trees.{tree_at}
use Rattle.group_lowering.proofs.ConditionLemmas.{apart_from, made_of, ordered}
use Rattle.group_lowering.proofs.conditions.can_stream.Goals as goal

pub returns-then-maintain_order-clause-can : goal.returns-then-maintain_order-clause-can
returns-then-maintain_order-clause-can c = ordered (tree_at c.args.arena.now.items) c.args.keys.now c.args.aggs.now c.args.maintain_order c.if-maintain_order.true

pub returns-then-apart-clause-can : goal.returns-then-apart-clause-can
returns-then-apart-clause-can c = apart_from (tree_at c.args.arena.now.items) c.args.keys.now c.args.aggs.now c.args.maintain_order c.in_ok-apart.apart c.if-maintain_order.false c.in_ok-apart.ensures.are c.if-apart.true

pub returns-clause-can : goal.returns-clause-can
returns-clause-can c = made_of (tree_at c.args.arena.now.items) c.args.keys.now c.args.aggs.now c.args.maintain_order c.in_ok-apart.apart c.in_ok-made.made c.if-maintain_order.false c.in_ok-apart.ensures.are c.if-apart.false c.in_ok-made.ensures.are
