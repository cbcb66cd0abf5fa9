use Rattle.std.proofs.Common.{◌≡◌, length, take}
use Rattle.ps_keys.specs.Chains.{IsSound}
use Rattle.ps_keys.specs.Hashes.{row_at}
use Rattle.ps_keys.proofs.buckets.KeyBuckets.spread.Given as goal

abbrev pub invariant-loop-key : goal.invariant-loop-key
invariant-loop-key l = record {
  sound : IsSound (row_at l.columns) l.table;
  kept : l.table.firsts.items ≡ take l.key l.self.firsts.items;
  buckets : length l.table.heads.items ≡ l.count;
}
