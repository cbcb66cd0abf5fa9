-- One more pair, at which the call answered that they are equal.
use Rattle.std.proofs.Common.{Some, Equal, rules, of_calls}
use Rattle.pu_index.proofs.Pairings.{Paired-none, Paired-push}
use Rattle.pu_index.proofs.iterators.partial_cmp_by_.Goals as goal

pub loop-item-init : goal.loop-item-init
loop-item-init g c =
    let o = c.requires.other c.into_iter-others.result c.into_iter-others.ensures.into_iter_gives in
    record {
      callable = (search rules, search rules, o.0, o.1, search of_calls);
      pairs = Paired-none g.J.IntoIter.Iterator.next_gives (goal.F-step g) (Some Equal) _ _;
    }

pub loop-item-preserved : goal.loop-item-preserved
loop-item-preserved g c =
    let i = c.loop-item.invariant in
    record {
      callable = (search rules, search rules, search rules, search rules, search of_calls);
      pairs = Paired-push g.J.IntoIter.Iterator.next_gives (goal.F-step g) (Some Equal) _ _ _ _ _ _ _ _ _ i.pairs c.in-Some-next.ensures.steps (search rules);
    }
