use Rattle.join_run_laws.proofs.JoinPorts.{join_ports}
use Rattle.join_run_laws.proofs.leading.joins_lead_on.Goals as goal

pub returns : goal.returns
returns c = λ F s n node j known rest there is. join_ports F s known rest n node there j is
