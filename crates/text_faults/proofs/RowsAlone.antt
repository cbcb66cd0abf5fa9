-- What may be told of the valid plan of a query is Rows alone.
use Rattle.std.proofs.Common.{◌≡◌, ℕ, inl, inr}
use Rattle.std.specs.Prelude.{Some}
use Rattle.ps_frame.specs.Functions.{Functions, IsLawful}
use Rattle.ps_frame.specs.declared.value.DataFault.{DataFault}
use Rattle.ps_frame.specs.declared.value.DataFault.TheVariants as fault
use Rattle.ps_plan.specs.PlanMeanings.{NodeMayFault}
use Rattle.ps_plan.specs.Plans.{Plan, tree_of}
use Rattle.ps_plan.specs.Refusals.{IsValid}
use Rattle.text_faults.proofs.EvenPlans.{broken-by-rows}
use Rattle.text_faults.proofs.QuerySteps.{reached-named}
use Rattle.text_plans.specs.QueryPlans.{Tables, query_tree}
use Rattle.text_queries.specs.Queries.{Query}

pub rows-alone : (F : Functions) (tables : Tables) (query : Query) (plan : Plan) (n : ℕ) (f : DataFault) → IsLawful F → query_tree tables query ≡ Some (tree_of plan plan.root.0) → IsValid F plan → NodeMayFault F plan n f → f ≡ fault.Rows
rows-alone F tables query plan n f lawful is valid (reached, inl broken) =
    (broken-by-rows F (tree_of plan n) (record { fault = f; node = n }) lawful (reached-named F plan valid tables query is n reached) broken).0
rows-alone F tables query plan n f lawful is valid (reached, inr large) = large.0
