use Rattle.ps_shares.proofs.Named.{names_show}
use Rattle.ps_shares.proofs.laws.names_show_columns.Goals as goal

pub returns : goal.returns
returns c = names_show
