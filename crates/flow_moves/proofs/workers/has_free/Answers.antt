-- One worker more, and in the end all.
use Rattle.std.proofs.Common.{◌≡◌, ◌∙◌, ap, arith, false, inl, inr, slice_get, sym, true}
use Rattle.std.proofs.lemmas.Bool.{cases_eq}
use Rattle.flow_moves.proofs.workers.has_free.Goals as goal

pub loop-worker-init : goal.loop-worker-init
loop-worker-init c = λ k h e. absurd (omega (arith, h))

pub overflow_cast-worker : goal.overflow_cast-worker
overflow_cast-worker c =
    let test = c.loop-worker-test.true in
    let few = c.requires in
    omega (arith, test, few)

pub loop-worker-preserved : goal.loop-worker-preserved
loop-worker-preserved c = λ k h e. elim (cases_eq k c.loop-worker.worker) [
  | inl is ↦ absurd (let clash : true ≡ false = sym (c.is_free.ensures.seat.1 (ap (slice_get c.args.outs.now.by_worker.items) (sym is) ∙ e)) ∙ c.if-is_free.false in cc)
  | inr other ↦ c.loop-worker.invariant k (omega (arith, h, other)) e
]

pub returns-then-is_free-clause-yes : goal.returns-then-is_free-clause-yes
returns-then-is_free-clause-yes c = λ t. (c.loop-worker.worker, c.is_free.ensures.seat.0 c.if-is_free.true)

pub returns-clause-other : goal.returns-clause-other
returns-clause-other c = λ f k h e.
    let over = c.loop-worker-test.false in
    c.loop-worker.invariant k (omega (arith, h, over)) e
