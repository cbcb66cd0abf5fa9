-- None of a node is out where no worker has one.
use Rattle.std.proofs.Common.{◌∙◌, ap, nat_eq, sym}
use Rattle.std.specs.List.{list_any}
use Rattle.ps_outs.proofs.Counting.{has_none, none_out}
use Rattle.ps_outs.proofs.outs.Outs.has_piece_of.Goals as goal
use Rattle.ps_outs.specs.Out.{passes}

pub returns : goal.returns
returns c = λ workers outs out.
    let same = c.has_of.ensures ∙ ap (list_any (passes (λ n i. nat_eq n c.args.node))) c.as_slice.ensures.value in
    ((λ f. has_none workers outs c.args.self.now out c.args.node (sym same ∙ f)), λ e. same ∙ none_out workers outs c.args.self.now out c.args.node e)
