use Rattle.std.proofs.Common.{take}
use Rattle.std.specs.Fn.{CalledAt}
use Rattle.pu_index.specs.Calls.{Calls}
use Rattle.pu_index.proofs.vecs.convert.Given as goal

abbrev pub invariant-loop-item : goal.invariant-loop-item
invariant-loop-item g l = goal.F-IsAlwaysCallable g l.f × Calls (CalledAt g.F.FnMut) l.fn.f (take l.item-index l.v) l.out.items l.f
