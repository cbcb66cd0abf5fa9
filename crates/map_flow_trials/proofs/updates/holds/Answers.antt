-- The map that is driven and claimed can still make its table.
use Rattle.std.proofs.Common.{◌∙◌, ap}
use Rattle.map_flow_trials.specs.Shown.{Shown, shown_of}
use Rattle.map_flow_trials.proofs.Fitting.{claimed_turns, still_turns}
use Rattle.map_flow_trials.proofs.updates.holds.Goals as goal

pub claimed-requires : goal.claimed-requires
claimed-requires c = ap (λ (s : Shown). s.sent) c.in_ok-node.ensures ∙ c.in_ok-new.ensures.unclaimed

pub answers-requires : goal.answers-requires
answers-requires c =
    claimed_turns (shown_of c.in_ok-node.node) (shown_of c.claimed.result) c.args.claims c.claimed.ensures
    (still_turns (shown_of c.in_ok-new.new) (shown_of c.in_ok-node.node) c.in_ok-node.ensures c.in_ok-new.ensures.able)
