use Rattle.plan_graph_trials.proofs.planned.checked.Goals as goal

pub physical_plan_to_graph-requires-clause-sound : goal.physical_plan_to_graph-requires-clause-sound
physical_plan_to_graph-requires-clause-sound g c = (g.F.Functions.told c.args.functions.now, c.in-Ok.ensures.sound c.if-not-sound.false)
