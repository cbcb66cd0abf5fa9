use Rattle.lowering_parts.proofs.Going.{goes_added, goes_named, goes_nowhere}
use Rattle.lowering_parts.proofs.LeafLemmas.{left_follows}
use Rattle.lowering_parts.proofs.leaves.leave_to_map.Goals as goal

pub returns-clause-follows : goal.returns-clause-follows
returns-clause-follows c =
    left_follows c.args.arena.now.items c.add_column.new.arena.items c.args.low.now c.fresh.new.low c.args.call.now c.give_mapped.new.self c.in_ok-column.column c.in_ok-name.name c.under_name.result c.requires.cache c.requires.whole
    c.add_column.ensures.entries c.add_column.ensures.kept c.in_ok-name.ensures.next c.in_ok-name.ensures.name c.in_ok-column.ensures.tree c.under_name.ensures.name c.in_ok-give_mapped.ensures.streams c.in_ok-give_mapped.ensures.exprs c.args.expr c.requires.expr
    c.under_name.ensures.node c.in_ok-give_mapped.ensures.reduced c.in_ok-give_mapped.ensures.mapped

pub returns-clause-goes_on : goal.returns-clause-goes_on
returns-clause-goes_on c =
    goes_added c.args.arena.now.items c.args.arena.now.items c.add_column.new.arena.items c.args.low.now c.fresh.new.low (goes_named c.args.arena.now.items c.args.low.now c.fresh.new.low c.requires.cache c.in_ok-name.ensures.next)
    c.add_column.ensures.entries c.add_column.ensures.kept

pub returns-in_err-name-clause-goes_on : goal.returns-in_err-name-clause-goes_on
returns-in_err-name-clause-goes_on c = goes_nowhere c.args.arena.now.items c.args.low.now c.fresh.new.low c.requires.cache c.in_err-name.ensures.same

pub returns-in_err-column-clause-goes_on : goal.returns-in_err-column-clause-goes_on
returns-in_err-column-clause-goes_on c =
    goes_added c.args.arena.now.items c.args.arena.now.items c.add_column.new.arena.items c.args.low.now c.fresh.new.low (goes_named c.args.arena.now.items c.args.low.now c.fresh.new.low c.requires.cache c.in_ok-name.ensures.next)
    c.add_column.ensures.entries c.add_column.ensures.kept

pub returns-in_err-give_mapped-clause-goes_on : goal.returns-in_err-give_mapped-clause-goes_on
returns-in_err-give_mapped-clause-goes_on c =
    goes_added c.args.arena.now.items c.args.arena.now.items c.add_column.new.arena.items c.args.low.now c.fresh.new.low (goes_named c.args.arena.now.items c.args.low.now c.fresh.new.low c.requires.cache c.in_ok-name.ensures.next)
    c.add_column.ensures.entries c.add_column.ensures.kept
