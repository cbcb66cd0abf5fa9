-- The call at one more item.
use Rattle.std.proofs.Common.{◌++◌, sym, ap, ◌∙◌, append_assoc, of_calls, rules}
use Rattle.pu_index.proofs.CallsPush.{Calls-push}
use Rattle.pu_index.proofs.vecs.convert_owned.Goals as goal

pub loop-item-preserved : goal.loop-item-preserved
loop-item-preserved g c =
    let i = c.loop-item.invariant in (
      search of_calls,
      rw append_assoc (ap (λ r. c.loop-item.yielded ++ r) (sym c.in-Some.ensures.steps.0) ∙ i.1),
      rw c.in_ok-push.ensures.items (Calls-push (goal.F-step g) _ _ _ _ _ _ _ i.2 (search rules)),
    )
