use Rattle.std.proofs.Common.{[], ◌∷◌, ◌++◌, ap, sym, ◌∙◌, append_assoc}
use Rattle.ps_frame.proofs.frame_builder.finish_all.Goals as goal

pub loop-builder-preserved : goal.loop-builder-preserved
loop-builder-preserved c =
    let i = c.loop-builder.invariant in
    record {
      made = c.in_ok-push.ensures.items ∙ (λ t. i.made t ++ c.in_ok-finish.ensures.made t ∷ []);
      all = rw append_assoc (ap (λ r. c.loop-builder.yielded ++ r) (sym c.in-Some.ensures.steps.0) ∙ i.all);
    }
