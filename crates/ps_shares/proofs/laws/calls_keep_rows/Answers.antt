use Rattle.ps_shares.proofs.Named.{calls_keep_rows}
use Rattle.ps_shares.proofs.laws.calls_keep_rows.Goals as goal

pub returns : goal.returns
returns c = calls_keep_rows
