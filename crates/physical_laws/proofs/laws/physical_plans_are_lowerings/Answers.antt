use Rattle.physical_laws.proofs.Joined.{covered_lowering, is_lowering}
use Rattle.physical_laws.proofs.laws.physical_plans_are_lowerings.Goals as goal

pub returns-clause-kept : goal.returns-clause-kept
returns-clause-kept c = λ F plan shape lawful valid holds kept p. is_lowering F plan shape valid p lawful holds kept

pub returns-clause-covered : goal.returns-clause-covered
returns-clause-covered c = λ F plan shape lawful valid holds covered p. covered_lowering F plan shape valid p lawful holds covered
