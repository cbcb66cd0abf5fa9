use Rattle.ps_shares.proofs.KeySorts.{sort_bys_show}
use Rattle.ps_shares.proofs.laws.key_sorts_show.Goals as goal

pub returns : goal.returns
returns c = sort_bys_show
