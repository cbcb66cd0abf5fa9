use Rattle.std.proofs.Common.{◌≡◌}
use Rattle.ps_fresh.specs.Known.{Remembers}
use Rattle.lowering_trials.specs.Entries.{trial_entries}
use Rattle.lowering_trials.proofs.expressions.independent.Given as goal

abbrev pub invariant-loop-i : goal.invariant-loop-i
invariant-loop-i l =
    record {
      entries : l.arena-inside.items.items ≡ trial_entries;
      cache : Remembers l.arena-inside.items.items l.cache;
    }
