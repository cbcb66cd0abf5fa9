use Rattle.ps_shares.proofs.Ends.{shown_keep}
use Rattle.ps_shares.proofs.laws.shown_columns_keep.Goals as goal

pub returns : goal.returns
returns c = shown_keep
