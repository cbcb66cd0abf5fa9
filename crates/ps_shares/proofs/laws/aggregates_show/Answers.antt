use Rattle.ps_shares.proofs.Aggregated.{aggregates_show}
use Rattle.ps_shares.proofs.laws.aggregates_show.Goals as goal

pub returns : goal.returns
returns c = aggregates_show
