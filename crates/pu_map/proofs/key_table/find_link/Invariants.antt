use Rattle.std.proofs.Common.{length}
use Rattle.pu_map.specs.Chains.{bucket_of}
use Rattle.pu_map.proofs.LinkLemmas.{IsOnChain}
use Rattle.pu_map.proofs.key_table.find_link.Given as goal

abbrev pub invariant-chain : goal.invariant-chain
invariant-chain l = IsOnChain (bucket_of l.seed (length l.heads)) l.bytes l.links l.hash l.key l.next

abbrev pub decreases-chain : goal.decreases-chain
decreases-chain l = l.next
