use Rattle.std.proofs.Common.{◌+◌, ◌≤◌}
use Rattle.std.specs.BTreeMap.{get}
use Rattle.std.specs.Ordering.{nat_cmp}
use Rattle.ps_validate.proofs.Caching.{Caching}
use Rattle.ps_validate.proofs.caches.check_caches.Given as goal

abbrev pub invariant-loop-node : goal.invariant-loop-node
invariant-loop-node g l =
    record {
      ids : Caching l.ir.items l.order l.node-index (get nat_cmp l.inputs);
      steps : l.steps ≤ l.initial.steps + l.node-index;
    }
