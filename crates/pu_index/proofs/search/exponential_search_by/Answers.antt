-- Each answer keeps what is ruled out.
use Rattle.std.proofs.Common.{◌≡◌, ◌+◌, ◌-◌, ◌/◌, sym, ◌∙◌, arith, of_calls}
use Rattle.std.specs.declared.cmp.Ordering.TheVariants.{Less, Equal, Greater}
use Rattle.std.proofs.lemmas.List.Elements.{at_read}
use Rattle.pu_index.proofs.Searches.{less_at, greater_at, answers_next}
use Rattle.pu_index.proofs.search.exponential_search_by.Goals as goal

pub loop-bound-preserved-in-Less : goal.loop-bound-preserved-in-Less
loop-bound-preserved-in-Less g c =
    let xs = c.args.arr.now in
    record {
      callable = search of_calls;
      within = (omega arith, omega arith, omega arith, omega arith);
      narrowed = λ ord h.
          let i = c.loop-bound.invariant.narrowed ord h in
          let n = answers_next g.F.FnMut _ _ _ _ _ c.f.ensures i.0 in
          let at = at_read xs (λ y. ord y ≡ Less) c.loop-bound.bound c.index-arr-bound.result (omega arith) c.index-arr-bound.is (sym n.0 ∙ c.in-Less.is) in
          (n.1, less_at xs ord _ _ c.loop-bound.bound (omega arith) at i.1);
    }

pub returns-in-Equal-clause-position : goal.returns-in-Equal-clause-position
returns-in-Equal-clause-position g c = λ ord h.
    let i = c.loop-bound.invariant.narrowed ord h in
    let n = answers_next g.F.FnMut _ _ _ _ _ c.f.ensures i.0 in
    at_read c.args.arr.now (λ y. ord y ≡ Equal) c.loop-bound.bound c.index-arr-bound.result (omega arith) c.index-arr-bound.is (sym n.0 ∙ c.in-Equal.is)

pub loop-bound-preserved : goal.loop-bound-preserved
loop-bound-preserved g c =
    let xs = c.args.arr.now in
    record {
      callable = search of_calls;
      within = (omega arith, omega arith, omega arith, omega arith);
      narrowed = λ ord h.
          let i = c.loop-bound.invariant.narrowed ord h in
          let n = answers_next g.F.FnMut _ _ _ _ _ c.f.ensures i.0 in
          let at = at_read xs (λ y. ord y ≡ Greater) c.loop-bound.bound c.index-arr-bound.result (omega arith) c.index-arr-bound.is (sym n.0 ∙ c.in-Greater.is) in
          (n.1, greater_at xs ord _ _ c.loop-bound.bound (omega arith) at i.1);
    }

pub loop-low-preserved-in-Less-f : goal.loop-low-preserved-in-Less-f
loop-low-preserved-in-Less-f g c =
    let xs = c.args.arr.now in
    record {
      callable = search of_calls;
      within = (omega arith, omega arith);
      narrowed = λ ord h.
          let i = c.loop-low.invariant.narrowed ord h in
          let n = answers_next g.F.FnMut _ _ _ _ _ c.f-in-loop-low.ensures i.0 in
          let at = at_read xs (λ y. ord y ≡ Less) (c.loop-low.low + (c.loop-low.high - c.loop-low.low) / 2) c.index-arr-mid.result (omega arith) c.index-arr-mid.is (sym n.0 ∙ c.in-Less-f.is) in
          (n.1, less_at xs ord _ _ (c.loop-low.low + (c.loop-low.high - c.loop-low.low) / 2) (omega arith) at i.1);
    }

pub returns-in-Equal-f-clause-position : goal.returns-in-Equal-f-clause-position
returns-in-Equal-f-clause-position g c = λ ord h.
    let i = c.loop-low.invariant.narrowed ord h in
    let n = answers_next g.F.FnMut _ _ _ _ _ c.f-in-loop-low.ensures i.0 in
    at_read c.args.arr.now (λ y. ord y ≡ Equal) (c.loop-low.low + (c.loop-low.high - c.loop-low.low) / 2) c.index-arr-mid.result (omega arith) c.index-arr-mid.is (sym n.0 ∙ c.in-Equal-f.is)

pub loop-low-preserved : goal.loop-low-preserved
loop-low-preserved g c =
    let xs = c.args.arr.now in
    record {
      callable = search of_calls;
      within = (omega arith, omega arith);
      narrowed = λ ord h.
          let i = c.loop-low.invariant.narrowed ord h in
          let n = answers_next g.F.FnMut _ _ _ _ _ c.f-in-loop-low.ensures i.0 in
          let at = at_read xs (λ y. ord y ≡ Greater) (c.loop-low.low + (c.loop-low.high - c.loop-low.low) / 2) c.index-arr-mid.result (omega arith) c.index-arr-mid.is (sym n.0 ∙ c.in-Greater-f.is) in
          (n.1, greater_at xs ord _ _ (c.loop-low.low + (c.loop-low.high - c.loop-low.low) / 2) (omega arith) at i.1);
    }
