use Rattle.ps_fresh.proofs.Listing.{keys_rise}
use Rattle.ps_fresh.proofs.names_in_use.numbers_in_use.Goals as goal

pub returns-clause-rising : goal.returns-clause-rising
returns-clause-rising c = keys_rise c.loop-node.taken.keys c.len-count.ensures.ordered
