use Rattle.ps_plan.specs.Plans.{tree_of}
use Rattle.text_faults.proofs.EvenPlans.{broken-by-rows}
use Rattle.text_faults.proofs.QuerySteps.{reached-named}
use Rattle.text_faults.proofs.RowsAlone.{rows-alone}
use Rattle.text_faults.proofs.laws.queries_fault_by_rows_alone.Goals as goal

pub returns-clause-broken : goal.returns-clause-broken
returns-clause-broken c = λ F tables query plan n cause lawful is valid reached broken. broken-by-rows F (tree_of plan n) cause lawful (reached-named F plan valid tables query is n reached) broken

pub returns-clause-faults : goal.returns-clause-faults
returns-clause-faults c = rows-alone
