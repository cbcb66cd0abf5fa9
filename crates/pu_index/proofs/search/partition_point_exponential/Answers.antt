-- Each answer keeps what is ruled out.
use Rattle.std.proofs.Common.{◌≡◌, ◌+◌, ◌-◌, ◌/◌, true, false, sym, ◌∙◌, arith, of_calls}
use Rattle.std.proofs.lemmas.List.Elements.{at_read}
use Rattle.pu_index.proofs.Searches.{passed_at, failed_at, answers_next}
use Rattle.pu_index.proofs.search.partition_point_exponential.Goals as goal

pub loop-bound-preserved-then-pred : goal.loop-bound-preserved-then-pred
loop-bound-preserved-then-pred g c =
    let xs = c.args.arr.now in
    record {
      callable = search of_calls;
      within = (omega arith, omega arith, omega arith, omega arith);
      halved = λ p h.
          let i = c.loop-bound.invariant.halved p h in
          let n = answers_next g.P.FnMut _ _ _ _ _ c.pred.ensures i.0 in
          let at = at_read xs (λ y. p y ≡ true) c.loop-bound.bound c.index-arr-bound.result (omega arith) c.index-arr-bound.is (sym n.0 ∙ c.if-pred.true) in
          (n.1, passed_at xs p _ _ c.loop-bound.bound (omega arith) at i.1);
    }

pub loop-bound-preserved : goal.loop-bound-preserved
loop-bound-preserved g c =
    let xs = c.args.arr.now in
    record {
      callable = search of_calls;
      within = (omega arith, omega arith, omega arith, omega arith);
      halved = λ p h.
          let i = c.loop-bound.invariant.halved p h in
          let n = answers_next g.P.FnMut _ _ _ _ _ c.pred.ensures i.0 in
          let at = at_read xs (λ y. p y ≡ false) c.loop-bound.bound c.index-arr-bound.result (omega arith) c.index-arr-bound.is (sym n.0 ∙ c.if-pred.false) in
          (n.1, failed_at xs p _ _ c.loop-bound.bound (omega arith) at i.1);
    }

pub loop-low-preserved-then-pred-2 : goal.loop-low-preserved-then-pred-2
loop-low-preserved-then-pred-2 g c =
    let xs = c.args.arr.now in
    record {
      callable = search of_calls;
      within = (omega arith, omega arith);
      halved = λ p h.
          let i = c.loop-low.invariant.halved p h in
          let n = answers_next g.P.FnMut _ _ _ _ _ c.pred-in-loop-low.ensures i.0 in
          let at = at_read xs (λ y. p y ≡ true) (c.loop-low.low + (c.loop-low.high - c.loop-low.low) / 2) c.index-arr-mid.result (omega arith) c.index-arr-mid.is (sym n.0 ∙ c.if-pred-2.true) in
          (n.1, passed_at xs p _ _ (c.loop-low.low + (c.loop-low.high - c.loop-low.low) / 2) (omega arith) at i.1);
    }

pub loop-low-preserved : goal.loop-low-preserved
loop-low-preserved g c =
    let xs = c.args.arr.now in
    record {
      callable = search of_calls;
      within = (omega arith, omega arith);
      halved = λ p h.
          let i = c.loop-low.invariant.halved p h in
          let n = answers_next g.P.FnMut _ _ _ _ _ c.pred-in-loop-low.ensures i.0 in
          let at = at_read xs (λ y. p y ≡ false) (c.loop-low.low + (c.loop-low.high - c.loop-low.low) / 2) c.index-arr-mid.result (omega arith) c.index-arr-mid.is (sym n.0 ∙ c.if-pred-2.false) in
          (n.1, failed_at xs p _ _ (c.loop-low.low + (c.loop-low.high - c.loop-low.low) / 2) (omega arith) at i.1);
    }
