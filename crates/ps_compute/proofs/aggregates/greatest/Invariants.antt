use Rattle.std.proofs.Common.{◌≡◌, ◌≤◌, drop, length}
use Rattle.std.specs.Option.{option_copied}
use Rattle.ps_frame.specs.Aggregates.{greatest_value}
use Rattle.ps_compute.specs.Nullable.{or_null}
use Rattle.ps_compute.proofs.aggregates.greatest.Given as goal

abbrev pub invariant-loop-from : goal.invariant-loop-from
invariant-loop-from g l = record { within : l.from ≤ length (g.L.ValueList.values l.values); best : or_null (option_copied l.best) ≡ greatest_value (drop l.from (g.L.ValueList.values l.values)) }

abbrev pub decreases-loop-from : goal.decreases-loop-from
decreases-loop-from g l = l.from
