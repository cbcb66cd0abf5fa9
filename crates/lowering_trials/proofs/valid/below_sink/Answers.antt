use Rattle.std.proofs.Common.{subst, sym}
use Rattle.pu_base.specs.declared.arena.Node.{Node}
use Rattle.ps_plan.specs.Graph.{Reached}
use Rattle.valid_plans.specs.Valid.{plan_with}
use Rattle.lowering_trials.proofs.Ready.{root_reached, sink_input}
use Rattle.lowering_trials.proofs.valid.below_sink.Goals as goal

pub entry_at-requires-clause-reached : goal.entry_at-requires-clause-reached
entry_at-requires-clause-reached c = subst (λ (n : Node). Reached (plan_with c.args.valid.now c.args.exprs.now.items) n.0) (sym c.root.ensures) (root_reached (plan_with c.args.valid.now c.args.exprs.now.items))

pub returns-in-Sink : goal.returns-in-Sink
returns-in-Sink c =
    sink_input (plan_with c.args.valid.now c.args.exprs.now.items) c.root.result.0 c.in-Sink.input c.entry_at.result.now c.in-Sink.payload
    (subst (λ (n : Node). Reached (plan_with c.args.valid.now c.args.exprs.now.items) n.0) (sym c.root.ensures) (root_reached (plan_with c.args.valid.now c.args.exprs.now.items))) c.entry_at.ensures c.in-Sink.is
