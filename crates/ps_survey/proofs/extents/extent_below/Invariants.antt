use Rattle.std.proofs.Common.{◌≡◌, ◌+◌, ◌-◌, ◌≤◌, ℕ, length, take}
use Rattle.std.specs.Prelude.{Contains, sum_by}
use Rattle.ps_survey.specs.Extents.{HasExtent, IsExtent, largest}
use Rattle.ps_survey.proofs.extents.extent_below.Given as goal

abbrev pub invariant-loop-named : goal.invariant-loop-named
invariant-loop-named g l = record {
  within : l.place ≤ length (g.N.Names.named l.names l.number);
  below : (d s : ℕ → ℕ) → ((m : ℕ) → Contains (g.N.Names.named l.names l.number) m → HasExtent l.table m (d m) (s m)) → IsExtent (largest d (take l.place (g.N.Names.named l.names l.number))) (sum_by s (take l.place (g.N.Names.named l.names l.number))) l.below;
  looks : l.steps ≡ l.fn.steps + l.place;
}

abbrev pub decreases-loop-named : goal.decreases-loop-named
decreases-loop-named g l = length (g.N.Names.named l.names l.number) - l.place
