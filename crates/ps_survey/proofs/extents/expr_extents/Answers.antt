use Rattle.std.proofs.Common.{◌≡◌, ◌+◌, ◌<◌, ◌≤◌, ℕ, length, get_or, length-set, subst, sym, ◌∙◌, arith}
use Rattle.std.proofs.lemmas.Option.{slice_get_within}
use Rattle.std.specs.Prelude.{Contains}
use Rattle.ps_frame.proofs.Unfolding.{IsExpression-in_range}
use Rattle.ps_survey.specs.Counts.{looks_at}
use Rattle.ps_survey.specs.Extents.{HasExtent, IsExtent, expr_depth, expr_size}
use Rattle.ps_survey.specs.Orders.{operands_in}
use Rattle.ps_survey.proofs.ExprTrees.{expr-extent}
use Rattle.ps_survey.proofs.ExtentSteps.{named-before, table-all, table-more}
use Rattle.ps_survey.proofs.Visits.{among, looks-all, looks-more}
use Rattle.ps_survey.proofs.extents.expr_extents.Goals as goal

pub extent_below-below-requires-clause-number : goal.extent_below-below-requires-clause-number
extent_below-below-requires-clause-number g c =
    let e = get_or c.args.order.now c.loop-expr.expr-index 0 in
    IsExpression-in_range c.args.exprs.now.items (record { 0 = e }) (c.requires.complete e (among c.args.order.now c.loop-expr.expr-index c.loop-expr-test.true))

pub extent_below-below-requires-clause-known : goal.extent_below-below-requires-clause-known
extent_below-below-requires-clause-known g c = λ m h.
    let x = c.loop-expr.invariant.extents m (named-before (operands_in c.args.exprs.now.items) c.args.order.now c.loop-expr.expr-index c.loop-expr-test.true c.requires.first m h) in
    let l = slice_get_within c.loop-expr.table.items m x.0 x.1 in
    subst (λ xs. m < length xs) (sym c.deref.ensures.value) l

pub index_mut-requires : goal.index_mut-requires
index_mut-requires g c =
    let e = get_or c.args.order.now c.loop-expr.expr-index 0 in
    let l = IsExpression-in_range c.args.exprs.now.items (record { 0 = e }) (c.requires.complete e (among c.args.order.now c.loop-expr.expr-index c.loop-expr-test.true)) in
    let s = c.loop-expr.invariant.size in
    let v = c.loop-expr.table.ok.0 in
    omega (arith, l, s, v)

pub loop-expr-preserved : goal.loop-expr-preserved
loop-expr-preserved g c =
    let order = c.args.order.now in
    let exprs = c.args.exprs.now.items in
    let table = c.loop-expr.table.items in
    let i = c.loop-expr.expr-index in
    let h = c.loop-expr-test.true in
    let e = get_or order i 0 in
    let complete = c.requires.complete e (among order i h) in
    let l = IsExpression-in_range exprs (record { 0 = e }) complete in
    let s = c.loop-expr.invariant.size in
    let known : (m : ℕ) → Contains (operands_in exprs e) m → HasExtent table m (expr_depth exprs m) (expr_size exprs m) = λ m n. c.loop-expr.invariant.extents m (named-before (operands_in exprs) order i h c.requires.first m n) in
    let below = c.extent_below-below.ensures.below (expr_depth exprs) (expr_size exprs) (λ m n. subst (λ t. HasExtent t m (expr_depth exprs m) (expr_size exprs m)) (sym c.deref.ensures.value) (known m n)) in
    let is = expr-extent exprs e complete c.above.result (c.above.ensures _ _ below) in
    let a = looks-more (operands_in exprs) order i h in
    let t = c.tick.ensures in
    let b = c.extent_below-below.ensures.steps in
    let was = c.loop-expr.invariant.looks in
    record {
      size = length-set table e c.above.result ∙ s;
      extents = table-more (expr_depth exprs) (expr_size exprs) order i h table c.above.result (omega (arith, l, s)) is c.loop-expr.invariant.extents;
      looks = omega (arith, a, t, b, was);
    }

pub returns-clause-extents : goal.returns-clause-extents
returns-clause-extents g c =
    table-all (expr_depth c.args.exprs.now.items) (expr_size c.args.exprs.now.items) c.args.order.now c.loop-expr.expr-index c.loop-expr.table.items c.loop-expr-test.false c.loop-expr.invariant.extents

pub returns-clause-steps : goal.returns-clause-steps
returns-clause-steps g c =
    let a = looks-all (operands_in c.args.exprs.now.items) c.args.order.now c.loop-expr.expr-index in
    let was = c.loop-expr.invariant.looks in
    omega (arith, a, was)
