use Rattle.plan_laws.proofs.CacheRow.{twice_in_order}
use Rattle.plan_laws.proofs.ExprRows.{arithmetic_meaning, beside_empty_meaning, cut_meaning, index_meaning, literal_meaning, odd_name_meaning, one_and_none_meaning, replaced_meaning, sum_meaning}
use Rattle.plan_laws.proofs.JoinRow.{left_meaning, left_meaning_nulls, totals_meaning}
use Rattle.plan_laws.proofs.Rows.{distinct_meaning, distinct_other, union_meaning}
use Rattle.plan_laws.proofs.examples.small_meanings.Goals as goal

pub returns-clause-sum_beside_a_column : goal.returns-clause-sum_beside_a_column
returns-clause-sum_beside_a_column c = sum_meaning

pub returns-clause-literal_alone : goal.returns-clause-literal_alone
returns-clause-literal_alone c = literal_meaning

pub returns-clause-literal_beside_no_rows : goal.returns-clause-literal_beside_no_rows
returns-clause-literal_beside_no_rows c = beside_empty_meaning

pub returns-clause-one_row_beside_none : goal.returns-clause-one_row_beside_none
returns-clause-one_row_beside_none c = one_and_none_meaning

pub returns-clause-replaced_in_place : goal.returns-clause-replaced_in_place
returns-clause-replaced_in_place c = replaced_meaning

pub returns-clause-last_row_number : goal.returns-clause-last_row_number
returns-clause-last_row_number c = index_meaning

pub returns-clause-odd_name : goal.returns-clause-odd_name
returns-clause-odd_name c = odd_name_meaning

pub returns-clause-wraps_and_floors : goal.returns-clause-wraps_and_floors
returns-clause-wraps_and_floors c = arithmetic_meaning

pub returns-clause-cut_from_the_end : goal.returns-clause-cut_from_the_end
returns-clause-cut_from_the_end c = cut_meaning

pub returns-clause-union_cut_last : goal.returns-clause-union_cut_last
returns-clause-union_cut_last c = union_meaning

pub returns-clause-rows_that_come_once : goal.returns-clause-rows_that_come_once
returns-clause-rows_that_come_once c = distinct_meaning

pub returns-clause-in_another_order : goal.returns-clause-in_another_order
returns-clause-in_another_order c = distinct_other

pub returns-clause-joined_and_grouped : goal.returns-clause-joined_and_grouped
returns-clause-joined_and_grouped c = totals_meaning

pub returns-clause-null_keys_apart : goal.returns-clause-null_keys_apart
returns-clause-null_keys_apart c = left_meaning

pub returns-clause-null_keys_together : goal.returns-clause-null_keys_together
returns-clause-null_keys_together c = left_meaning_nulls

pub returns-clause-both_orders : goal.returns-clause-both_orders
returns-clause-both_orders c = twice_in_order
