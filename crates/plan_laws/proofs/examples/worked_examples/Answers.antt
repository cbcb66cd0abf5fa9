use Rattle.std.proofs.Common.{refl, inr}
use Rattle.plan_laws.proofs.CacheRow.{twice_swapped}
use Rattle.plan_laws.proofs.NoOthers.{slice_only, twice_only}
use Rattle.plan_laws.proofs.Rows.{filter_meaning, group_meaning, hconcat_meaning}
use Rattle.plan_laws.proofs.examples.worked_examples.Goals as goal

pub returns-clause-filtered : goal.returns-clause-filtered
returns-clause-filtered c = filter_meaning

pub returns-clause-filled : goal.returns-clause-filled
returns-clause-filled c = hconcat_meaning

pub returns-clause-literal_key : goal.returns-clause-literal_key
returns-clause-literal_key c = group_meaning

pub returns-clause-one_slice : goal.returns-clause-one_slice
returns-clause-one_slice c = slice_only

pub returns-clause-cached : goal.returns-clause-cached
returns-clause-cached c = twice_swapped

pub returns-clause-one_order : goal.returns-clause-one_order
returns-clause-one_order c = λ F choice T m. twice_only F choice m

pub returns-clause-repeats : goal.returns-clause-repeats
returns-clause-repeats c = λ F s. inr refl
