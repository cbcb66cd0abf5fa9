use Rattle.ps_shares.proofs.ZipReach.{columns_show_all, zips_reach}
use Rattle.ps_shares.proofs.laws.zips_reach_as_far.Goals as goal

pub returns-clause-columns : goal.returns-clause-columns
returns-clause-columns c = columns_show_all

pub returns-clause-zips : goal.returns-clause-zips
returns-clause-zips c = zips_reach
