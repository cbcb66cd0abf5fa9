use Rattle.std.proofs.Common.{◌++◌, ◌∷◌, [], ◌∙◌, ap, sym, append_assoc}
use Rattle.ps_document.proofs.Lists.{all_of}
use Rattle.ps_document.proofs.document.arena_of.Goals as goal

pub loop-item-preserved : goal.loop-item-preserved
loop-item-preserved g c =
    let i = c.loop-item.invariant in
    record {
      added = c.in-Ok-add.ensures.added ∙ ap (λ xs. xs ++ c.in-Some.item ∷ []) i.added;
      all = rw append_assoc (ap (λ r. c.loop-item.yielded ++ r) (sym c.in-Some.ensures.steps.0) ∙ i.all);
    }

pub returns : goal.returns
returns g c =
    let i = c.loop-item.invariant in
    let left = c.loop-item.item-iterator.rest in
    i.added ∙ all_of c.loop-item.yielded left.items c.args.items.items i.all (sym left.ok.0 ∙ c.in-None.ensures.steps.0)
