use Rattle.flow_run_trials.proofs.planned.run_if_sound.Goals as goal

pub run_of_plan-requires-clause-sound : goal.run_of_plan-requires-clause-sound
run_of_plan-requires-clause-sound g c = (g.F.Functions.told c.args.functions.now, c.in_ok-check.ensures.sound c.if-not-sound.false)
