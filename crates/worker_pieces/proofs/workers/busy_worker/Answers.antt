-- One place more, and in the end all.
use Rattle.std.proofs.Common.{◌∙◌, ap, arith, inl, inr, slice_get, Some, sym}
use Rattle.std.proofs.lemmas.Bool.{cases_eq}
use Rattle.std.proofs.lemmas.Option.{slice_get_within}
use Rattle.worker_pieces.proofs.workers.busy_worker.Goals as goal

pub loop-worker-init : goal.loop-worker-init
loop-worker-init g c = λ k piece h. absurd (omega (arith, h))

pub loop-worker-preserved : goal.loop-worker-preserved
loop-worker-preserved g c = λ k piece h e. elim (cases_eq k c.loop-worker.worker) [
  | inl is ↦ c.in-None.ensures.none piece (ap (slice_get c.args.pieces.now) (sym is) ∙ e)
  | inr other ↦ c.loop-worker.invariant k piece (omega (arith, h, other)) e
]

pub returns-in-Some-clause-some : goal.returns-in-Some-clause-some
returns-in-Some-clause-some g c = (c.in-Some._piece.now, c.in-Some.ensures.some)

pub returns-clause-none : goal.returns-clause-none
returns-clause-none g c = λ k piece e.
    let over = c.loop-worker-test.false in
    let within = slice_get_within c.args.pieces.now k (Some piece) e in
    c.loop-worker.invariant k piece (omega (arith, within, over)) e
