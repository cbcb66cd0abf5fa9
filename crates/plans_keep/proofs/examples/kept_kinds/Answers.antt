use Rattle.std.proofs.Common.{inl, inr, refl, arith}
use Rattle.plan_rules.specs.Worked.{ab}
use Rattle.plans_keep.proofs.SmallScans.{small_scan}
use Rattle.plans_keep.proofs.examples.kept_kinds.Goals as goal

pub returns-clause-selected : goal.returns-clause-selected
returns-clause-selected c = λ F. (inl tt, ((inl tt, ((inl tt, tt), tt)), tt))

pub returns-clause-filtered : goal.returns-clause-filtered
returns-clause-filtered c = λ F. (inl tt, ((inl tt, ((inl tt, tt), tt)), tt))

pub returns-clause-extended : goal.returns-clause-extended
returns-clause-extended c = λ F. (inl tt, ((inl tt, ((inl tt, tt), tt)), tt))

pub returns-clause-all_replaced : goal.returns-clause-all_replaced
returns-clause-all_replaced c = λ F. (inl tt, ((inl tt, ((inl tt, tt), tt)), tt))

pub returns-clause-grouped : goal.returns-clause-grouped
returns-clause-grouped c = λ F. (inl tt, ((inl tt, ((inl tt, tt), tt)), tt))

pub returns-clause-inside : goal.returns-clause-inside
returns-clause-inside c = tt

pub returns-clause-joined : goal.returns-clause-joined
returns-clause-joined c = tt

pub returns-clause-first_rows : goal.returns-clause-first_rows
returns-clause-first_rows c = λ F. (inl tt, ((inl refl, ((inl tt, tt), tt)), tt))

pub returns-clause-any_rows : goal.returns-clause-any_rows
returns-clause-any_rows c = λ F. (inl tt, ((inl refl, ((inl tt, tt), tt)), tt))

pub returns-clause-last_rows : goal.returns-clause-last_rows
returns-clause-last_rows c = λ F. (inl tt, ((inl refl, ((inl tt, tt), tt)), tt))

pub returns-clause-single_rows : goal.returns-clause-single_rows
returns-clause-single_rows c = λ F. (inl tt, ((inr (refl, small_scan F 0 ab (omega arith)), ((inl tt, tt), tt)), tt))
