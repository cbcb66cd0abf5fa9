use Rattle.lowering_parts.proofs.Going.{goes_added}
use Rattle.expr_lowering.proofs.Following.{goes_fresh}
use Rattle.group_lowering.proofs.ApartLemmas.{fresh_comes}
use Rattle.group_lowering.proofs.apart.under_fresh_name.Goals as goal

pub returns-clause-apart : goal.returns-clause-apart
returns-clause-apart c =
    fresh_comes c.args.arena.now.items c.add_column.new.arena.items c.args.low.now c.args.found.now.items c.push.new.self.items c.args.expr c.in_ok-column.column c.in_ok-name.name c.under_name.result c.requires.expr c.requires.cache c.requires.found c.add_column.ensures.entries c.add_column.ensures.kept c.in_ok-column.ensures.tree
    c.in_ok-push.ensures.items c.under_name.ensures.name c.under_name.ensures.node c.fresh.new.low c.requires.reduction c.in_ok-name.ensures.name c.in_ok-name.ensures.next

pub returns-in_err-name-clause-goes_on : goal.returns-in_err-name-clause-goes_on
returns-in_err-name-clause-goes_on c = goes_fresh c.fresh.result c.args.arena.now.items c.args.low.now c.fresh.new.low c.requires.cache c.fresh.ensures.next c.fresh.ensures.same

pub returns-in_err-column-clause-goes_on : goal.returns-in_err-column-clause-goes_on
returns-in_err-column-clause-goes_on c = goes_added c.args.arena.now.items c.args.arena.now.items c.add_column.new.arena.items c.args.low.now c.fresh.new.low (goes_fresh c.fresh.result c.args.arena.now.items c.args.low.now c.fresh.new.low c.requires.cache c.fresh.ensures.next c.fresh.ensures.same) c.add_column.ensures.entries c.add_column.ensures.kept

pub returns-in_err-push-clause-goes_on : goal.returns-in_err-push-clause-goes_on
returns-in_err-push-clause-goes_on c = goes_added c.args.arena.now.items c.args.arena.now.items c.add_column.new.arena.items c.args.low.now c.fresh.new.low (goes_fresh c.fresh.result c.args.arena.now.items c.args.low.now c.fresh.new.low c.requires.cache c.fresh.ensures.next c.fresh.ensures.same) c.add_column.ensures.entries c.add_column.ensures.kept

pub returns-clause-goes_on : goal.returns-clause-goes_on
returns-clause-goes_on c = goes_added c.args.arena.now.items c.args.arena.now.items c.add_column.new.arena.items c.args.low.now c.fresh.new.low (goes_fresh c.fresh.result c.args.arena.now.items c.args.low.now c.fresh.new.low c.requires.cache c.fresh.ensures.next c.fresh.ensures.same) c.add_column.ensures.entries c.add_column.ensures.kept
