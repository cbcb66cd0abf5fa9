use Rattle.std.proofs.Common.{ap, ◌∙◌, refl}
use Rattle.ps_frame.proofs.Lists.{window-grown}
use Rattle.ps_frame.proofs.run.Run+Value.grown_over.Goals as goal

pub returns : goal.returns
returns c =
    let a = c.self.inside in
    rw (← c.self.view_is, c.in_ok-shared.ensures.cases)
    (record {
      joined = window-grown a.start a.len c.len.result a.shared.value.items c.deref-2.result.now c.args.next.now c.as_slice.result.now (c.deref-2.ensures.value ∙ ap (λ v. v.items) c.deref.ensures) c.as_slice.ensures c.len.ensures
          (c.if-not-begin_with.ensures.same refl);
    })
