use Rattle.std.specs.Prelude.{refl}
use Rattle.plan_lowering.proofs.examples.entries.Goals as goal

pub returns-clause-cache : goal.returns-clause-cache
returns-clause-cache c input = refl

pub returns-clause-scan : goal.returns-clause-scan
returns-clause-scan c = refl
