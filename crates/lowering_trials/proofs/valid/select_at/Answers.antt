use Rattle.valid_plans.specs.Valid.{plan_with}
use Rattle.lowering_trials.proofs.Ready.{selects_from}
use Rattle.lowering_trials.proofs.valid.select_at.Goals as goal

pub returns-in-Select : goal.returns-in-Select
returns-in-Select c =
    selects_from (plan_with c.args.valid.now c.args.exprs.now.items) c.args.node.0 c.in-Select.input c.entry_at.result.now c.in-Select.expr c.as_slice.result.now c.requires.reached c.entry_at.ensures c.in-Select.is c.as_slice.ensures
