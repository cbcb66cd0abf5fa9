use Rattle.join_run_laws.proofs.Held.{joins_hold}
use Rattle.join_run_laws.proofs.keeping.joins_are_kept.Goals as goal

pub returns : goal.returns
returns c = λ F shape o w n p j sound r at is. joins_hold F shape o w sound r n p j at is
