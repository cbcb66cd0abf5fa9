use Rattle.std.proofs.Common.{◌≡◌, take}
use Rattle.ps_keys.specs.Ordered.{IsOrdered}
use Rattle.ps_keys.proofs.ordered.OrderedKeys.of.Given as goal

abbrev pub invariant-loop-row : goal.invariant-loop-row
invariant-loop-row l = record {
  ordered : IsOrdered l.columns l.keys;
  kept : l.keys.firsts.items ≡ take l.row-index l.firsts;
}
