use Rattle.std.proofs.Common.{rules}
use Rattle.ps_keys.proofs.OrderedTables.{ordered-none}
use Rattle.ps_keys.proofs.ordered.OrderedKeys.of.Goals as goal

pub loop-row-init : goal.loop-row-init
loop-row-init c = record {
  ordered = ordered-none c.args.columns.now _ (search rules) c.new.ensures.empty;
  kept = search rules;
}
