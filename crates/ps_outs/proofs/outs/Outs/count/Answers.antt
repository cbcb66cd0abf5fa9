-- As many are out as the workers have.
use Rattle.std.proofs.Common.{◌∙◌, ◌&&◌, ap, nat_eq}
use Rattle.std.specs.Prelude.{count_by}
use Rattle.ps_outs.proofs.Counting.{count_is}
use Rattle.ps_outs.proofs.outs.Outs.count.Goals as goal
use Rattle.ps_outs.specs.Out.{passes}

pub returns : goal.returns
returns c = λ workers outs out.
    c.count_at.ensures ∙ ap (count_by (passes (λ n i. nat_eq n c.args.node && nat_eq i c.args.input))) c.as_slice.ensures.value ∙ count_is workers outs c.args.self.now out (λ n i. nat_eq n c.args.node && nat_eq i c.args.input)
