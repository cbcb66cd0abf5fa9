use Rattle.std.proofs.Common.{refl}
use Rattle.lowering_parts.proofs.Going.{goes_added, goes_nowhere, goes_then}
use Rattle.expr_lowering.proofs.Following.{goes_fresh}
use Rattle.expr_lowering.proofs.lower.reduction_of.Goals as goal

pub returns-in_err-entry-clause-goes_on : goal.returns-in_err-entry-clause-goes_on
returns-in_err-entry-clause-goes_on c = goes_nowhere c.args.arena.now.items c.args.low.now c.args.low.now c.requires.cache refl

pub returns-in_err-reduction-clause-goes_on : goal.returns-in_err-reduction-clause-goes_on
returns-in_err-reduction-clause-goes_on c = goes_added c.args.arena.now.items c.args.arena.now.items c.add_expr.new.arena.items c.args.low.now c.args.low.now (goes_nowhere c.args.arena.now.items c.args.low.now c.args.low.now c.requires.cache refl) c.add_expr.ensures.entries c.add_expr.ensures.kept

pub returns-in_err-name-clause-goes_on : goal.returns-in_err-name-clause-goes_on
returns-in_err-name-clause-goes_on c = goes_then c.args.arena.now.items c.add_expr.new.arena.items c.add_expr.new.arena.items c.args.low.now c.args.low.now c.fresh.new.low (goes_added c.args.arena.now.items c.args.arena.now.items c.add_expr.new.arena.items c.args.low.now c.args.low.now (goes_nowhere c.args.arena.now.items c.args.low.now c.args.low.now c.requires.cache refl) c.add_expr.ensures.entries c.add_expr.ensures.kept) (goes_fresh c.fresh.result c.add_expr.new.arena.items c.args.low.now c.fresh.new.low (goes_added c.args.arena.now.items c.args.arena.now.items c.add_expr.new.arena.items c.args.low.now c.args.low.now (goes_nowhere c.args.arena.now.items c.args.low.now c.args.low.now c.requires.cache refl) c.add_expr.ensures.entries c.add_expr.ensures.kept).cache c.fresh.ensures.next c.fresh.ensures.same)

pub returns-in_err-column-clause-goes_on : goal.returns-in_err-column-clause-goes_on
returns-in_err-column-clause-goes_on c = goes_added c.args.arena.now.items c.add_expr.new.arena.items c.add_column.new.arena.items c.args.low.now c.fresh.new.low (goes_then c.args.arena.now.items c.add_expr.new.arena.items c.add_expr.new.arena.items c.args.low.now c.args.low.now c.fresh.new.low (goes_added c.args.arena.now.items c.args.arena.now.items c.add_expr.new.arena.items c.args.low.now c.args.low.now (goes_nowhere c.args.arena.now.items c.args.low.now c.args.low.now c.requires.cache refl) c.add_expr.ensures.entries c.add_expr.ensures.kept) (goes_fresh c.fresh.result c.add_expr.new.arena.items c.args.low.now c.fresh.new.low (goes_added c.args.arena.now.items c.args.arena.now.items c.add_expr.new.arena.items c.args.low.now c.args.low.now (goes_nowhere c.args.arena.now.items c.args.low.now c.args.low.now c.requires.cache refl) c.add_expr.ensures.entries c.add_expr.ensures.kept).cache c.fresh.ensures.next c.fresh.ensures.same)) c.add_column.ensures.entries c.add_column.ensures.kept

pub returns-clause-goes_on : goal.returns-clause-goes_on
returns-clause-goes_on c = goes_added c.args.arena.now.items c.add_expr.new.arena.items c.add_column.new.arena.items c.args.low.now c.fresh.new.low (goes_then c.args.arena.now.items c.add_expr.new.arena.items c.add_expr.new.arena.items c.args.low.now c.args.low.now c.fresh.new.low (goes_added c.args.arena.now.items c.args.arena.now.items c.add_expr.new.arena.items c.args.low.now c.args.low.now (goes_nowhere c.args.arena.now.items c.args.low.now c.args.low.now c.requires.cache refl) c.add_expr.ensures.entries c.add_expr.ensures.kept) (goes_fresh c.fresh.result c.add_expr.new.arena.items c.args.low.now c.fresh.new.low (goes_added c.args.arena.now.items c.args.arena.now.items c.add_expr.new.arena.items c.args.low.now c.args.low.now (goes_nowhere c.args.arena.now.items c.args.low.now c.args.low.now c.requires.cache refl) c.add_expr.ensures.entries c.add_expr.ensures.kept).cache c.fresh.ensures.next c.fresh.ensures.same)) c.add_column.ensures.entries c.add_column.ensures.kept
