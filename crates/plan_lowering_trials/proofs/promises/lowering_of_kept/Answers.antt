use Rattle.std.proofs.Common.{ℕ, IfSome, List, slice_get, subst}
use Rattle.ps_plan.specs.declared.ir.IR.{IR}
use Rattle.valid_plans.specs.Valid.{plan_with}
use Rattle.plan_lowering_trials.specs.Always.{IsAlwaysKept}
use Rattle.plan_lowering_trials.proofs.Kept.{plan_kinds}
use Rattle.plan_lowering_trials.proofs.promises.lowering_of_kept.Goals as goal

pub returns-in-Ok-clause-lowering : goal.returns-in-Ok-clause-lowering
returns-in-Ok-clause-lowering g c =
    let F = g.F.Functions.told c.args.functions.now in
    let plan = plan_with c.args.valid.now c.args.exprs.now.items in
    let kept = subst (λ (xs : List IR). (n : ℕ) → IfSome (slice_get xs n) IsAlwaysKept) c.ir.ensures c.if-not-are_always_kept.ensures in
    c.in-Ok.ensures.lowering (c.valid_plans_are_kept.ensures.steps F plan c.requires.valid (plan_kinds F plan c.requires.valid kept))
