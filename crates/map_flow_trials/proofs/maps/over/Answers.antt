-- A new map, cut otherwise.
use Rattle.ps_owned_maps.specs.Owned.{step_of}
use Rattle.map_flow_trials.proofs.Turned.{made}
use Rattle.map_flow_trials.proofs.maps.over.Goals as goal

pub returns : goal.returns
returns c = made c.new-node.result c.cut_by.new.self c.in_ok-options.options (step_of c.args.map) c.in_ok-schema.schema c.new-node.ensures.new c.cut_by.ensures c.in_ok-schema.ensures
