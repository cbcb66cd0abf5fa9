use Rattle.sound_plans.proofs.Testing.{sort-good}
use Rattle.sound_plans.proofs.kinds.sorts.Goals as goal

pub returns-in-Ok : goal.returns-in-Ok
returns-in-Ok c = λ told f cut. sort-good f c.args.keys.now cut c.args.options.now c.in-Ok.ensures.key c.in-Ok.ensures.descending c.in-Ok.ensures.nulls_last
