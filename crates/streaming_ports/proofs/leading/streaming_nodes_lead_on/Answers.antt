use Rattle.streaming_ports.proofs.StreamPorts.{streaming_ports}
use Rattle.streaming_ports.proofs.leading.streaming_nodes_lead_on.Goals as goal

pub returns : goal.returns
returns c = λ F s n p known there is rest. streaming_ports F s n p known there is rest
