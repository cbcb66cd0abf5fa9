use Rattle.turn_trials.proofs.Stores.{second_came}
use Rattle.turn_trials.proofs.zips.fed_second.Goals as goal

pub returns-clause-came : goal.returns-clause-came
returns-clause-came c = second_came c.args.first c.args.rows _ _ c.requires.came c.store.ensures.came
