use Rattle.ps_walks.proofs.Walks.{tables-mean}
use Rattle.ps_walks.proofs.computed.tables_are_meanings.Goals as goal

pub returns : goal.returns
returns c = tables-mean
