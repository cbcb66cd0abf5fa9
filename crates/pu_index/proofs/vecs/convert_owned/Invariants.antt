use Rattle.std.proofs.Common.{◌≡◌, ◌++◌}
use Rattle.pu_index.specs.Calls.{Calls}
use Rattle.pu_index.proofs.vecs.convert_owned.Given as goal

abbrev pub invariant-loop-item : goal.invariant-loop-item
invariant-loop-item g l = goal.F-IsAlwaysCallable g l.f × (l.yielded ++ l.item-iterator.rest.items ≡ l.fn.v.items) × Calls (goal.F-step g) l.fn.f l.yielded l.out.items l.f
