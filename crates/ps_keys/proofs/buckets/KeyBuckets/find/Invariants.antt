use Rattle.ps_keys.specs.Hashes.{row_at}
use Rattle.ps_keys.proofs.KeyChains.{IsOnChain}
use Rattle.ps_keys.proofs.buckets.KeyBuckets.find.Given as goal

abbrev pub invariant-loop : goal.invariant-loop
invariant-loop l = IsOnChain (row_at l.columns) l.self l.row l.hash l.next
