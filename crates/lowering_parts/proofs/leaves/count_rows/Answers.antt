use Rattle.lowering_parts.proofs.Going.{begins_then, goes_added, goes_named, goes_nowhere}
use Rattle.std.proofs.Common.{ap, ◌∙◌}
use Rattle.ps_frame.specs.Trees.{tree_at}
use Rattle.lowering_parts.proofs.Grown.{kept-then}
use Rattle.lowering_parts.proofs.LaterLemmas.{column_later}
use Rattle.lowering_parts.proofs.LeafLemmas.{count_follows}
use Rattle.lowering_parts.proofs.leaves.count_rows.Goals as goal

pub returns-clause-follows : goal.returns-clause-follows
returns-clause-follows c =
    let before = c.args.arena.now.items in
    let between = c.add_column.new.arena.items in
    let after = c.add_expr.new.arena.items in
    count_follows before after c.args.low.now c.fresh.new.low c.args.call.now c.give_reduction.new.self c.in_ok-column.column c.in_ok-name.name c.under_name.result c.requires.cache c.requires.whole
    (begins_then before between after c.add_column.ensures.entries c.add_expr.ensures.entries) (kept-then before between after c.add_column.ensures.kept c.add_expr.ensures.kept) c.in_ok-name.ensures.next c.in_ok-name.ensures.name (column_later between after c.add_expr.ensures.kept c.in_ok-column.column c.in_ok-name.name c.in_ok-column.ensures.tree)
    c.under_name.ensures.name c.in_ok-give_reduction.ensures.streams c.in_ok-give_reduction.ensures.exprs (ap (tree_at after) c.under_name.ensures.node ∙ c.in_ok-count.ensures.tree) c.in_ok-give_reduction.ensures.reduced
    c.in_ok-give_reduction.ensures.mapped

pub returns-clause-goes_on : goal.returns-clause-goes_on
returns-clause-goes_on c =
    goes_added c.args.arena.now.items c.add_column.new.arena.items c.add_expr.new.arena.items c.args.low.now c.fresh.new.low
    (goes_added c.args.arena.now.items c.args.arena.now.items c.add_column.new.arena.items c.args.low.now c.fresh.new.low (goes_named c.args.arena.now.items c.args.low.now c.fresh.new.low c.requires.cache c.in_ok-name.ensures.next) c.add_column.ensures.entries c.add_column.ensures.kept)
    c.add_expr.ensures.entries c.add_expr.ensures.kept

pub returns-in_err-name-clause-goes_on : goal.returns-in_err-name-clause-goes_on
returns-in_err-name-clause-goes_on c = goes_nowhere c.args.arena.now.items c.args.low.now c.fresh.new.low c.requires.cache c.in_err-name.ensures.same

pub returns-in_err-column-clause-goes_on : goal.returns-in_err-column-clause-goes_on
returns-in_err-column-clause-goes_on c =
    goes_added c.args.arena.now.items c.args.arena.now.items c.add_column.new.arena.items c.args.low.now c.fresh.new.low (goes_named c.args.arena.now.items c.args.low.now c.fresh.new.low c.requires.cache c.in_ok-name.ensures.next)
    c.add_column.ensures.entries c.add_column.ensures.kept

pub returns-in_err-count-clause-goes_on : goal.returns-in_err-count-clause-goes_on
returns-in_err-count-clause-goes_on c =
    goes_added c.args.arena.now.items c.add_column.new.arena.items c.add_expr.new.arena.items c.args.low.now c.fresh.new.low
    (goes_added c.args.arena.now.items c.args.arena.now.items c.add_column.new.arena.items c.args.low.now c.fresh.new.low (goes_named c.args.arena.now.items c.args.low.now c.fresh.new.low c.requires.cache c.in_ok-name.ensures.next) c.add_column.ensures.entries c.add_column.ensures.kept)
    c.add_expr.ensures.entries c.add_expr.ensures.kept

pub returns-in_err-give_reduction-clause-goes_on : goal.returns-in_err-give_reduction-clause-goes_on
returns-in_err-give_reduction-clause-goes_on c =
    goes_added c.args.arena.now.items c.add_column.new.arena.items c.add_expr.new.arena.items c.args.low.now c.fresh.new.low
    (goes_added c.args.arena.now.items c.args.arena.now.items c.add_column.new.arena.items c.args.low.now c.fresh.new.low (goes_named c.args.arena.now.items c.args.low.now c.fresh.new.low c.requires.cache c.in_ok-name.ensures.next) c.add_column.ensures.entries c.add_column.ensures.kept)
    c.add_expr.ensures.entries c.add_expr.ensures.kept
