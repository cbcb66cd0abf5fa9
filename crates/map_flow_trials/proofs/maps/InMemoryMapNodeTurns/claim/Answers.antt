-- One more was claimed.
use Rattle.map_flow_trials.specs.Shown.{shown_of}
use Rattle.map_flow_trials.proofs.Turned.{claimed}
use Rattle.map_flow_trials.proofs.maps.InMemoryMapNodeTurns.claim.Goals as goal

pub claim-requires : goal.claim-requires
unfolding shown_of
claim-requires c = c.requires

pub returns : goal.returns
returns c = claimed c.args.self.now c.claim.new.self c.claim.ensures
