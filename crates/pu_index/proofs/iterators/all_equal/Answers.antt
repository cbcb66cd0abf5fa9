-- The first item, and then those that are equal to it.
use Rattle.std.proofs.Common.{◌∷◌, Some, sym, subst}
use Rattle.pu_index.proofs.iterators.all_equal.Goals as goal

pub returns-clause-all : goal.returns-clause-all
returns-clause-all g c =
    let begins = subst (λ i. g.I.Iterator.next_gives c.args.iter (Some c.in-Some.first) i) (sym c.into_iter-item-iterator.ensures.into_iter_gives) c.in-Some.ensures.steps in
    (c.in-Some.first ∷ c.loop-item.yielded, (c.next-in-loop-item.new.self, (c.loop-item.item-iterator, (c.into_iter-item-iterator.result, begins, c.loop-item.yielded_by), c.in-None.ensures.steps)), c.loop-item.invariant.2)
