-- To a new slice nothing came, and nothing of it was claimed.
use Rattle.std.proofs.Common.{◌∙◌, ap}
use Rattle.plain_nodes.specs.declared.negative_slice.NegativeSliceNode.{NegativeSliceNode}
use Rattle.turn_laws.specs.Updating.{SeenNode}
use Rattle.turn_trials.proofs.stored.Stored.new.Goals as goal

pub invariant_of-result : goal.invariant_of-result
invariant_of-result c = record {
  counted = ap (λ (n : NegativeSliceNode). n.booked) c.cut_by.ensures ∙ c.new-slice.ensures.counted;
  unclaimed = ap (λ (n : NegativeSliceNode). n.made.sent) c.cut_by.ensures ∙ ap (λ (s : SeenNode). s.progress.sent) c.new-slice.ensures.new;
}
