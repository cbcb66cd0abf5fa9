use Rattle.world_ends.proofs.runs.runs_end.Goals as goal

pub returns : goal.returns
returns c = λ F shape o w sound reached. c.runs_end.ensures F shape o w sound (c.phases_take.ensures.not_idle F shape o sound) reached
