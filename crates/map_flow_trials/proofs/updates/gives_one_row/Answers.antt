-- The map that is driven and claimed can still make its table.
use Rattle.std.proofs.Common.{◌∙◌}
use Rattle.map_flow_trials.specs.Shown.{reads, shown_of}
use Rattle.map_flow_trials.proofs.Fitting.{claimed_turns, reads_turn, unclaimed}
use Rattle.map_flow_trials.proofs.updates.gives_one_row.Goals as goal

pub claimed-requires : goal.claimed-requires
claimed-requires c = unclaimed (shown_of c.in_ok-node.node) reads (c.in_ok-node.ensures ∙ c.in_ok-new.ensures)

pub answers-requires : goal.answers-requires
answers-requires c =
    claimed_turns (shown_of c.in_ok-node.node) (shown_of c.claimed.result) 1 c.claimed.ensures (reads_turn (shown_of c.in_ok-node.node) (c.in_ok-node.ensures ∙ c.in_ok-new.ensures))
