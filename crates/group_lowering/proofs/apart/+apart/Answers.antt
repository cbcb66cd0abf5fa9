use Rattle.std.proofs.Common.{List, ◌+◌, ◌*◌, ◌<◌, ap, arith, get_or, refl, subst, sym}
use Rattle.std.specs.List.{AllByRecursion}
use Rattle.ps_frame.specs.Trees.{IsComplete, tree_at, tree_size, trees_of, trees_size}
use Rattle.pu_base.specs.declared.arena.Node.{Node}
use Rattle.lowering_parts.specs.Gathered.{trees_at}
use Rattle.lowering_parts.proofs.Going.{goes_added, goes_nowhere, goes_then}
use Rattle.expr_lowering.proofs.Following.{expr_later}
use Rattle.group_lowering.specs.Groups.{by_cell_tree}
use Rattle.group_lowering.proofs.ApartLemmas.{item_smaller, item_whole, next_apart, none_apart, operator_comes, operator_later}
use Rattle.group_lowering.proofs.apart.+apart.Goals as goal

pub all_apart-taken_apart-requires : goal.all_apart-taken_apart-requires
all_apart-taken_apart-requires t c =
    let less : 4 * tree_size (tree_at c.loop-expr.arena.items (get_or c.args.exprs.now c.loop-expr.expr-index (record { 0 = 0 }))) < 4 * trees_size (trees_of (tree_at c.args.arena.now.items) c.args.exprs.now) + 2 =
    (let le = item_smaller (tree_at c.args.arena.now.items) c.args.exprs.now c.loop-expr.expr-index (record { 0 = 0 }) c.loop-expr-test.true in
    let same = ap tree_size (c.loop-expr.invariant.goes_on.trees (get_or c.args.exprs.now c.loop-expr.expr-index (record { 0 = 0 })) (item_whole (tree_at c.args.arena.now.items) c.args.exprs.now c.loop-expr.expr-index (record { 0 = 0 }) c.loop-expr-test.true c.requires.exprs)) in
    omega arith) in
    let falls : 4 * tree_size (tree_at c.loop-expr.arena.items (get_or c.args.exprs.now c.loop-expr.expr-index (record { 0 = 0 }))) < t = omega arith in
    (falls, (expr_later c.args.arena.now.items c.loop-expr.arena.items c.loop-expr.invariant.goes_on.trees _ (item_whole (tree_at c.args.arena.now.items) c.args.exprs.now c.loop-expr.expr-index (record { 0 = 0 }) c.loop-expr-test.true c.requires.exprs), (c.loop-expr.invariant.goes_on.cache, c.loop-expr.invariant.reductions)))

pub all_apart-loop-expr-init : goal.all_apart-loop-expr-init
all_apart-loop-expr-init t c = none_apart c.args.arena.now.items c.args.low.now c.args.found.now.items c.in_ok-taken.taken.items c.in_ok-taken.ensures.items c.requires.cache c.requires.found

pub all_apart-loop-expr-preserved : goal.all_apart-loop-expr-preserved
all_apart-loop-expr-preserved t c =
    next_apart c.args.exprs.now c.loop-expr.expr-index (record { 0 = 0 }) c.args.arena.now.items c.loop-expr.arena.items c.taken_apart.new.arena.items c.args.low.now c.loop-expr.low c.taken_apart.new.low c.args.found.now.items c.loop-expr.found.items c.taken_apart.new.found.items c.loop-expr.taken.items c.push.new.self.items
    _ c.in_ok-one.one c.loop-expr-test.true refl c.requires.exprs c.loop-expr.invariant c.in_ok-one.ensures.apart c.in_ok-push.ensures.items

pub all_apart-returns-in_err-taken-clause-goes_on : goal.all_apart-returns-in_err-taken-clause-goes_on
all_apart-returns-in_err-taken-clause-goes_on t c = goes_nowhere c.args.arena.now.items c.args.low.now c.args.low.now c.requires.cache refl

pub all_apart-returns-in_err-one-clause-goes_on : goal.all_apart-returns-in_err-one-clause-goes_on
all_apart-returns-in_err-one-clause-goes_on t c = goes_then c.args.arena.now.items c.loop-expr.arena.items c.taken_apart.new.arena.items c.args.low.now c.loop-expr.low c.taken_apart.new.low c.loop-expr.invariant.goes_on c.taken_apart.ensures.goes_on

pub all_apart-returns-in_err-push-clause-goes_on : goal.all_apart-returns-in_err-push-clause-goes_on
all_apart-returns-in_err-push-clause-goes_on t c = goes_then c.args.arena.now.items c.loop-expr.arena.items c.taken_apart.new.arena.items c.args.low.now c.loop-expr.low c.taken_apart.new.low c.loop-expr.invariant.goes_on c.taken_apart.ensures.goes_on

pub all_apart-returns-clause-goes_on : goal.all_apart-returns-clause-goes_on
all_apart-returns-clause-goes_on t c = c.loop-expr.invariant.goes_on

pub operands_apart-returns-clause-apart : goal.operands_apart-returns-clause-apart
operands_apart-returns-clause-apart t c =
    let b = c.all_apart.new.arena.items in
    let whole = c.in_ok-taken.ensures.apart.whole in
    let complete = c.in-Some.ensures.complete (tree_at b) (subst (λ (ns : List Node). AllByRecursion IsComplete (trees_at (tree_at b) ns)) (sym c.as_slice.ensures.value) whole) in
    operator_comes (by_cell_tree c.args.by_cell) (trees_at (tree_at c.args.arena.now.items) c.args.operands.now) c.args.arena.now.items b c.add_expr.new.arena.items c.args.low.now c.all_apart.new.low c.args.found.now.items c.all_apart.new.found.items c.in_ok-taken.taken.items c.in_ok-expr.expr
    c.in_ok-taken.ensures.apart c.add_expr.ensures.entries c.add_expr.ensures.kept
    (operator_later (by_cell_tree c.args.by_cell) b c.add_expr.new.arena.items c.add_expr.ensures.kept c.in_ok-taken.taken.items c.as_slice.result.now c.in_ok-expr.expr _ c.as_slice.ensures.value whole c.in_ok-expr.ensures.tree complete (c.in-Some.ensures.tree (tree_at b)))
    (subst IsComplete (sym c.in_ok-expr.ensures.tree) complete)

pub operands_apart-returns-in_err-taken-clause-goes_on : goal.operands_apart-returns-in_err-taken-clause-goes_on
operands_apart-returns-in_err-taken-clause-goes_on t c = c.all_apart.ensures.goes_on

pub operands_apart-returns-in_err-expr-clause-goes_on : goal.operands_apart-returns-in_err-expr-clause-goes_on
operands_apart-returns-in_err-expr-clause-goes_on t c = goes_added c.args.arena.now.items c.all_apart.new.arena.items c.add_expr.new.arena.items c.args.low.now c.all_apart.new.low c.all_apart.ensures.goes_on c.add_expr.ensures.entries c.add_expr.ensures.kept

pub operands_apart-returns-clause-goes_on : goal.operands_apart-returns-clause-goes_on
operands_apart-returns-clause-goes_on t c = goes_added c.args.arena.now.items c.all_apart.new.arena.items c.add_expr.new.arena.items c.args.low.now c.all_apart.new.low c.all_apart.ensures.goes_on c.add_expr.ensures.entries c.add_expr.ensures.kept
