use Rattle.ps_keys.specs.Hashes.{row_at}
use Rattle.ps_keys.proofs.buckets.KeyBuckets.spread.Goals as goal

pub loop-key-init : goal.loop-key-init
loop-key-init c = record {
  sound = c.in_ok-table.ensures.sound (row_at c.args.columns.now);
  kept = c.in_ok-table.ensures.empty;
  buckets = c.in_ok-table.ensures.buckets;
}
