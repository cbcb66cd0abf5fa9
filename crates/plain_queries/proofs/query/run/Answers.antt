use Rattle.std.proofs.Common.{◌<◌, ◌≤◌, ◌∙◌, ap, get_or, length, subst, sym}
use Rattle.std.specs.List.{All}
use Rattle.pu_base.specs.declared.arena.Node.{Node}
use Rattle.ps_survey.specs.Orders.{inputs_in}
use Rattle.valid_plans.specs.Valid.{plan_with}
use Rattle.plain_queries.proofs.Running.{inputs-within, nodes-within, root-within, run-answer, run-errors}
use Rattle.plain_queries.specs.Readers.{IsWantedUntil}
use Rattle.plain_queries.proofs.query.run.Goals as goal

pub last_readers-requires-clause-nodes : goal.last_readers-requires-clause-nodes
last_readers-requires-clause-nodes g c = subst (λ ns. All (λ n. n < length ns) c.args.order.now) (sym c.ir.ensures) (nodes-within (plan_with c.args.valid.now c.args.exprs.now.items) c.args.order.now c.requires.survey)

pub last_readers-requires-clause-inputs : goal.last_readers-requires-clause-inputs
last_readers-requires-clause-inputs g c =
    subst (λ ns. All (λ n. All (λ m. m < length ns) (inputs_in ns n)) c.args.order.now) (sym c.ir.ensures) (inputs-within (plan_with c.args.valid.now c.args.exprs.now.items) c.args.order.now c.requires.survey)

pub last_readers-requires-clause-root : goal.last_readers-requires-clause-root
last_readers-requires-clause-root g c =
    subst (λ (r : Node). r.0 < length c.ir.result.now.items) (sym c.root.ensures) (subst (λ ns. c.args.valid.now.root.0 < length ns) (sym c.ir.ensures) (root-within (plan_with c.args.valid.now c.args.exprs.now.items) c.args.order.now c.requires.survey))

pub walk-requires-clause-size : goal.walk-requires-clause-size
walk-requires-clause-size g c = λ κs lives. ap length c.as_slice.ensures.value ∙ c.in-Ok.ensures.size ∙ ap length c.ir.ensures

pub walk-requires-clause-wanted : goal.walk-requires-clause-wanted
walk-requires-clause-wanted g c =
    λ κs lives. subst (λ until. IsWantedUntil (inputs_in c.args.valid.now.nodes) c.args.order.now until) (sym c.as_slice.ensures.value) (subst (λ ns. IsWantedUntil (inputs_in ns) c.args.order.now c.in-Ok.until.items) c.ir.ensures c.in-Ok.ensures.wanted)

pub walk-requires-clause-root : goal.walk-requires-clause-root
walk-requires-clause-root g c =
    λ κs lives. subst (λ until. length c.args.order.now ≤ get_or until c.args.valid.now.root.0 0) (sym c.as_slice.ensures.value)
    (subst (λ (r : Node). length c.args.order.now ≤ get_or c.in-Ok.until.items r.0 0) c.root.ensures c.in-Ok.ensures.root)

pub returns-in-Ok-clause-table : goal.returns-in-Ok-clause-table
returns-in-Ok-clause-table g c = run-answer (g.F.Functions.told c.args.functions.now) (plan_with c.args.valid.now c.args.exprs.now.items) c.walk.result c.requires.valid.valid c.walk.ensures.table

pub returns-in-Ok-clause-error : goal.returns-in-Ok-clause-error
returns-in-Ok-clause-error g c = run-errors (g.F.Functions.told c.args.functions.now) (plan_with c.args.valid.now c.args.exprs.now.items) c.walk.result c.requires.valid.valid c.walk.ensures.fault
