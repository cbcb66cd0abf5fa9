use Rattle.ps_shares.proofs.Agreeing.{reads_the_same}
use Rattle.ps_shares.proofs.laws.agreeing_tables.Goals as goal

pub returns : goal.returns
returns c = reads_the_same
