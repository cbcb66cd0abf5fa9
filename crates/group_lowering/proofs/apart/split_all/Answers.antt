use Rattle.std.proofs.Common.{refl}
use Rattle.ps_frame.specs.Trees.{tree_at}
use Rattle.lowering_parts.proofs.Going.{goes_nowhere, goes_then}
use Rattle.lowering_parts.proofs.LaterLemmas.{still_whole}
use Rattle.group_lowering.proofs.ApartLemmas.{asked_whole, next_split, none_split}
use Rattle.group_lowering.proofs.apart.split_all.Goals as goal

pub itself_or_apart-requires-clause-aggregate : goal.itself_or_apart-requires-clause-aggregate
itself_or_apart-requires-clause-aggregate c =
    still_whole c.args.arena.now.items c.loop-aggregate.arena.items c.loop-aggregate.invariant.goes_on.trees c.aggregate-item.result.node (asked_whole (tree_at c.args.arena.now.items) c.args.aggs.now c.loop-aggregate.aggregate-index c.aggregate-item.result c.loop-aggregate-test.true c.aggregate-item.is c.requires.aggs)

pub itself_or_apart-requires-clause-cache : goal.itself_or_apart-requires-clause-cache
itself_or_apart-requires-clause-cache c = c.loop-aggregate.invariant.goes_on.cache

pub itself_or_apart-requires-clause-found : goal.itself_or_apart-requires-clause-found
itself_or_apart-requires-clause-found c = c.loop-aggregate.invariant.whole

pub loop-aggregate-init : goal.loop-aggregate-init
loop-aggregate-init c = none_split c.args.arena.now.items c.args.low.now c.new-reductions.result.items c.in_ok-above.above.items c.new-reductions.ensures.items c.in_ok-above.ensures.items c.requires.cache

pub loop-aggregate-preserved : goal.loop-aggregate-preserved
loop-aggregate-preserved c =
    next_split c.args.aggs.now c.loop-aggregate.aggregate-index c.args.arena.now.items c.loop-aggregate.arena.items c.itself_or_apart.new.arena.items c.args.low.now c.loop-aggregate.low c.itself_or_apart.new.low c.loop-aggregate.reductions.items c.itself_or_apart.new.found.items c.loop-aggregate.above.items c.push.new.self.items
    c.aggregate-item.result c.in_ok-named.named c.in_ok-expr.expr c.loop-aggregate-test.true c.aggregate-item.is c.requires.aggs c.loop-aggregate.invariant c.in_ok-expr.ensures.apart c.in_ok-named.ensures.name c.in_ok-named.ensures.node c.in_ok-push.ensures.items

pub returns-in_err-above-clause-goes_on : goal.returns-in_err-above-clause-goes_on
returns-in_err-above-clause-goes_on c = goes_nowhere c.args.arena.now.items c.args.low.now c.args.low.now c.requires.cache refl

pub returns-in_err-expr-clause-goes_on : goal.returns-in_err-expr-clause-goes_on
returns-in_err-expr-clause-goes_on c = goes_then c.args.arena.now.items c.loop-aggregate.arena.items c.itself_or_apart.new.arena.items c.args.low.now c.loop-aggregate.low c.itself_or_apart.new.low c.loop-aggregate.invariant.goes_on c.itself_or_apart.ensures.goes_on

pub returns-in_err-named-clause-goes_on : goal.returns-in_err-named-clause-goes_on
returns-in_err-named-clause-goes_on c = goes_then c.args.arena.now.items c.loop-aggregate.arena.items c.itself_or_apart.new.arena.items c.args.low.now c.loop-aggregate.low c.itself_or_apart.new.low c.loop-aggregate.invariant.goes_on c.itself_or_apart.ensures.goes_on

pub returns-in_err-push-clause-goes_on : goal.returns-in_err-push-clause-goes_on
returns-in_err-push-clause-goes_on c = goes_then c.args.arena.now.items c.loop-aggregate.arena.items c.itself_or_apart.new.arena.items c.args.low.now c.loop-aggregate.low c.itself_or_apart.new.low c.loop-aggregate.invariant.goes_on c.itself_or_apart.ensures.goes_on

pub returns-clause-goes_on : goal.returns-clause-goes_on
returns-clause-goes_on c = c.loop-aggregate.invariant.goes_on
