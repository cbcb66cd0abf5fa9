use Rattle.std.proofs.Common.{refl}
use Rattle.lowering_parts.proofs.Going.{goes_knowing}
use Rattle.lowering_parts.proofs.LeafLemmas.{on_ok, stay_given, stay_kept}
use Rattle.lowering_parts.proofs.leaves.stay.Goals as goal

pub returns-in_err-independent-clause-goes_on : goal.returns-in_err-independent-clause-goes_on
returns-in_err-independent-clause-goes_on c = goes_knowing c.args.arena.now.items c.args.low.now c.is_input_independent.new.cache c.is_input_independent.ensures.cache

pub returns-then-independent-clause-goes_on : goal.returns-then-independent-clause-goes_on
returns-then-independent-clause-goes_on c = goes_knowing c.args.arena.now.items c.args.low.now c.is_input_independent.new.cache c.is_input_independent.ensures.cache

pub returns-clause-goes_on : goal.returns-clause-goes_on
returns-clause-goes_on c = goes_knowing c.args.arena.now.items c.args.low.now c.is_input_independent.new.cache c.is_input_independent.ensures.cache

pub returns-then-independent-clause-follows : goal.returns-then-independent-clause-follows
returns-then-independent-clause-follows c =
    let arena = c.args.arena.now.items in
    let cache = c.is_input_independent.new.cache in
    on_ok c.keep.result
    (stay_kept arena c.args.low.now (record c.args.low.now { cache = cache }) c.args.call.now c.keep.new.self c.args.low.now.origin.0 c.args.input c.args.expr c.requires.expr c.requires.whole
    (goes_knowing arena c.args.low.now cache c.is_input_independent.ensures.cache) (λ f. refl) c.in_ok-independent.independent c.in_ok-independent.ensures.is c.if-independent.true)
    c.keep.ensures.streams c.keep.ensures.reduced c.keep.ensures.exprs c.keep.ensures.mapped

pub returns-clause-follows : goal.returns-clause-follows
returns-clause-follows c =
    let arena = c.args.arena.now.items in
    let cache = c.is_input_independent.new.cache in
    on_ok c.give.result
    (stay_given arena c.args.low.now (record c.args.low.now { cache = cache }) c.args.call.now c.give.new.self c.args.low.now.origin.0 c.args.input c.args.expr c.requires.expr c.requires.whole
    (goes_knowing arena c.args.low.now cache c.is_input_independent.ensures.cache) (λ f. refl) c.in_ok-independent.independent c.in_ok-independent.ensures.is c.if-independent.false)
    c.give.ensures.streams c.give.ensures.reduced c.give.ensures.exprs c.give.ensures.mapped
