use Rattle.ps_keys.specs.Hashes.{row_at}
use Rattle.ps_keys.proofs.table.KeyTable.new.Goals as goal

pub returns-clause-ready : goal.returns-clause-ready
returns-clause-ready c = λ columns. (c.in_ok-new.ensures.sound (row_at columns), c.in_ok-new.ensures.buckets)
