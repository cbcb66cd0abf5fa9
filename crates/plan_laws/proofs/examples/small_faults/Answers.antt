use Rattle.plan_laws.proofs.Faults.{bound_broken, cast_broken, forgotten_meaning, gather_broken, index_broken, misfit_broken}
use Rattle.plan_laws.proofs.examples.small_faults.Goals as goal

pub returns-clause-lengths_differ : goal.returns-clause-lengths_differ
returns-clause-lengths_differ c = misfit_broken

pub returns-clause-past_the_last_number : goal.returns-clause-past_the_last_number
returns-clause-past_the_last_number c = index_broken

pub returns-clause-no_number : goal.returns-clause-no_number
returns-clause-no_number c = cast_broken

pub returns-clause-forgotten : goal.returns-clause-forgotten
returns-clause-forgotten c = forgotten_meaning

pub returns-clause-negative_length : goal.returns-clause-negative_length
returns-clause-negative_length c = bound_broken

pub returns-clause-past_the_end : goal.returns-clause-past_the_end
returns-clause-past_the_end c = gather_broken
