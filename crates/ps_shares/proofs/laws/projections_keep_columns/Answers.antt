use Rattle.ps_shares.proofs.Projected.{reads_projected}
use Rattle.ps_shares.proofs.laws.projections_keep_columns.Goals as goal

pub returns : goal.returns
returns c = reads_projected
