-- The call at one more item.
use Rattle.std.proofs.Common.{◌∷◌, [], ◌++◌, take, refl, sym, ap, subst, ◌∙◌, arith, of_calls}
use Rattle.std.specs.Fn.{CalledAt}
use Rattle.std.proofs.lemmas.Fn.{called_at}
use Rattle.std.proofs.lemmas.List.{take_more}
use Rattle.pu_index.specs.Calls.{Calls}
use Rattle.pu_index.proofs.CallsPush.{Calls-push}
use Rattle.pu_index.proofs.vecs.convert.Goals as goal

pub loop-item-preserved : goal.loop-item-preserved
loop-item-preserved g c =
    let xs = c.args.v.now in
    let i = c.loop-item.item-index in
    let item = c.item-item.result in
    let call = called_at g.F.FnMut c.f-answer.ensures refl in
    let pushed = Calls-push (CalledAt g.F.FnMut) _ _ _ _ _ _ _ c.loop-item.invariant.1 call in
    let more = take_more xs i item (omega arith) ∙ ap (λ x. take i xs ++ x ∷ []) (sym c.item-item.is) in
    (search of_calls, subst (λ args. Calls (CalledAt g.F.FnMut) c.args.f args c.push.new.self.items c.f-answer.new.self) (sym more) (subst (λ out. Calls (CalledAt g.F.FnMut) c.args.f (take i xs ++ item ∷ []) out c.f-answer.new.self) (sym c.in_ok-push.ensures.items) pushed))
