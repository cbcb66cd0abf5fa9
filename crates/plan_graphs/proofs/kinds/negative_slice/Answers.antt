use Rattle.std.proofs.Common.{[], ◌∷◌, subst}
use Rattle.ps_meaning.specs.Shape.{negative_slice}
use Rattle.ps_nodes.specs.Seen.{IsNewKeeper}
use Rattle.ps_nodes.specs.declared.flow.FlowNode.TheVariants as flow
use Rattle.ps_phys.specs.Shown.{back_from}
use Rattle.plan_graphs.proofs.Making.{is_keeper}
use Rattle.std.proofs.Common.{ℕ}
use Rattle.plan_graphs.proofs.kinds.negative_slice.Goals as goal

pub returns : goal.returns
returns c =
    λ s ss.
    let kind = λ (n : ℕ). negative_slice n c.args.length in
    let is = subst (λ (n : ℕ). IsNewKeeper (negative_slice n c.args.length) [] ([] ∷ []) (flow.NegativeSlice c.new-node.result)) c.back-back.ensures c.new-node.ensures.new in
    is_keeper (negative_slice (back_from c.args.offset.now) c.args.length) s ss [] ([] ∷ []) (flow.NegativeSlice c.new-node.result) is is tt tt c.new-node.ensures.cut
