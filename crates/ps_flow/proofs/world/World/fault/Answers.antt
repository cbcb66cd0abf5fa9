-- The error that is told.
use Rattle.std.proofs.Common.{◌∙◌, subst, sym}
use Rattle.ps_flow.proofs.Telling.{fault_by, unmarred_by}
use Rattle.ps_flow.proofs.world.World.fault.Goals as goal
use Rattle.ps_flow.specs.Standing.{IsUnmarred}

pub returns-clause-fault : goal.returns-clause-fault
returns-clause-fault g d = λ w c told ending. d.as_ref.ensures.value ∙ fault_by w.ending d.args.self.now.is_finished d.args.self.now.fault c told.ending ending

pub returns-clause-none : goal.returns-clause-none
returns-clause-none g d = λ w told ending. subst IsUnmarred (sym d.as_ref.ensures.value) (unmarred_by w.ending d.args.self.now.is_finished d.args.self.now.fault told.ending ending)
