use Rattle.std.proofs.Common.{List, Option, length}
use Rattle.pu_index.proofs.Turn.{Side}
use Rattle.pu_index.specs.Calls.{Calls}
use Rattle.pu_index.proofs.vecs.inplace_zip_filtermap.Given as goal

abbrev pub invariant-loop-turn : goal.invariant-loop-turn
invariant-loop-turn g l = goal.F-IsAlwaysCallable g l.f
    × ((done : List (g.row.T.Denot × g.row.U.Denot)) × (answers : List (Option (g.row.T.Denot × g.row.U.Denot)))
    × Calls (λ p a r q. goal.F-step g p a.0 a.1 r q) l.fn.f done answers l.f
    × Side (λ p. p.0) done answers l.fn.x.items l.firsts.items (length l.fn.x.items) l._turn
    × Side (λ p. p.1) done answers l.fn.y.items l.seconds.items (length l.fn.x.items) l._turn)
