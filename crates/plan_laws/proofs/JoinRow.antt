-- Orders and customers: the total for each name, the greatest first. And a left join with nulls among its keys.
use Rattle.std.proofs.Common.{true, false, refl, inl}
use Rattle.std.specs.Int.{int_wrap}
use Rattle.std.specs.Prelude.{codes}
use Rattle.ps_frame.specs.Functions.{Functions}
use Rattle.ps_frame.specs.declared.value.Value.TheVariants as val
use Rattle.ps_meaning.specs.Meaning.{IsWholeMeaning}
use Rattle.ps_meaning.specs.Steps.{sort, group_by, join, memory_sink}
use Rattle.plan_laws.proofs.Rows.{scan_means, one_means, two_means, no_choice, in_order}
use Rattle.plan_laws.specs.Examples.{by_k_last, by_name, by_total, customers, joined, left_keys, left_plan, left_table, on_customer, on_k, orders, right_keys, totals, totals_plan}

pub totals_meaning : (F : Functions) → IsWholeMeaning F totals_plan totals
unfolding int_wrap
totals_meaning F =
    let j = two_means 2 (join on_customer) joined (scan_means F no_choice 0 orders) (scan_means F no_choice 1 customers) (joined, inl refl, refl) tt in
    let g = one_means 3 (group_by by_name) totals j (totals, inl (_, in_order _, refl), refl) tt in
    let s = one_means 4 (sort by_total) totals g (totals, inl refl, refl) tt in
    ((no_choice, one_means 5 memory_sink totals s (totals, inl refl, refl) tt), refl)

pub left_meaning : (F : Functions) → IsWholeMeaning F (left_plan false) (left_table val.Null)
left_meaning F =
    let t = left_table val.Null in
    let j = two_means 2 (join (on_k false)) t (scan_means F no_choice 0 left_keys) (scan_means F no_choice 1 right_keys) (t, inl refl, refl) tt in
    let s = one_means 3 (sort by_k_last) t j (t, inl refl, refl) tt in
    ((no_choice, one_means 4 memory_sink t s (t, inl refl, refl) tt), refl)

pub left_meaning_nulls : (F : Functions) → IsWholeMeaning F (left_plan true) (left_table (val.String (codes "y")))
left_meaning_nulls F =
    let t = left_table (val.String (codes "y")) in
    let j = two_means 2 (join (on_k true)) t (scan_means F no_choice 0 left_keys) (scan_means F no_choice 1 right_keys) (t, inl refl, refl) tt in
    let s = one_means 3 (sort by_k_last) t j (t, inl refl, refl) tt in
    ((no_choice, one_means 4 memory_sink t s (t, inl refl, refl) tt), refl)
