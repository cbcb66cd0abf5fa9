use Rattle.valid_keeps.proofs.Valid.{lowered, steps_kept}
use Rattle.valid_keeps.proofs.laws.valid_plans_are_kept.Goals as goal

pub returns-clause-steps : goal.returns-clause-steps
returns-clause-steps c = λ F plan valid kinds. steps_kept F plan valid kinds

pub returns-clause-lowering : goal.returns-clause-lowering
returns-clause-lowering c = λ F plan shape lawful valid holds kinds p. lowered F plan valid kinds shape lawful holds p
