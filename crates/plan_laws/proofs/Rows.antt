-- Small plans with the tables that they mean.
use Rattle.std.proofs.Common.{ℕ, true, false, List, [], ◌∷◌, Some, pos, refl, inl, arith}
use Rattle.std.specs.List.Sorted.{IsPermutation}
use Rattle.std.specs.Prelude.{codes}
use Rattle.ps_frame.specs.Functions.{Functions}
use Rattle.ps_frame.specs.Tables.{Frame, Table, no_rows, whole}
use Rattle.ps_meaning.specs.Cases.{Case}
use Rattle.ps_meaning.specs.Meaning.{Choice, Means, by_case, none_mean, more_mean, IsWholeMeaning, IsChosen}
use Rattle.ps_meaning.specs.PlanTrees.{PlanTree, node, tree}
use Rattle.ps_meaning.specs.Steps.{Step, filter, slice, union, hconcat, group_by, distinct, memory_sink}
use Rattle.plan_laws.specs.Examples.{a_above_one, a_frame, a_table, filter_plan, group_plan, hconcat_plan, hconcat_table, key_count, literal_key, distinct_plan, number, once, one_input, scan_of, single, slice_plan, union_plan}

pub scan_means : (F : Functions) (c : Choice) (at : ℕ) (f : Frame) → Means F c (scan_of at f) (whole f)
scan_means F c at f = by_case none_mean (whole f, inl refl, refl) tt

-- a node over one input
pub one_means : {F : Functions} {c : Choice} {t : PlanTree} {T : Table} (at : ℕ) (step : Step) (U : Table) → Means F c t T → Case F at step (T ∷ []) U → IsChosen c step U → Means F c (node at step (one_input t)) U
one_means at step U m k chosen = by_case (more_mean m none_mean) k chosen

pub two_means : {F : Functions} {c : Choice} {s t : PlanTree} {S T : Table} (at : ℕ) (step : Step) (U : Table) → Means F c s S → Means F c t T → Case F at step (S ∷ T ∷ []) U → IsChosen c step U → Means F c (node at step (tree s (one_input t))) U
two_means at step U m n k chosen = by_case (more_mean m (more_mean n none_mean)) k chosen

abbrev pub no_choice : Choice
no_choice n = no_rows [] []

pub filter_meaning : (F : Functions) → IsWholeMeaning F filter_plan (a_table (2 ∷ 3 ∷ []))
filter_meaning F =
    let out = a_table (2 ∷ 3 ∷ []) in
    let mid = one_means 1 (filter a_above_one) out (scan_means F no_choice 0 (a_frame (1 ∷ 2 ∷ 3 ∷ []))) (out, inl refl, refl) tt in
    ((no_choice, one_means 2 memory_sink out mid (out, inl refl, refl) tt), refl)

pub hconcat_meaning : (F : Functions) → IsWholeMeaning F hconcat_plan hconcat_table
hconcat_meaning F =
    let s = a_frame (1 ∷ 2 ∷ []) in
    let t = single (codes "b") (7 ∷ 8 ∷ 9 ∷ []) in
    let mid = two_means 2 hconcat hconcat_table (scan_means F no_choice 0 s) (scan_means F no_choice 1 t) (hconcat_table, inl refl, refl) tt in
    ((no_choice, one_means 3 memory_sink hconcat_table mid (hconcat_table, inl refl, refl) tt), refl)

pub in_order : {X : Type 0} (xs : List X) → IsPermutation xs xs
in_order xs = record { moves = []; below = tt; is = refl }

pub group_meaning : (F : Functions) → IsWholeMeaning F group_plan (key_count 3)
group_meaning F =
    let t = a_frame (1 ∷ 2 ∷ 3 ∷ []) in
    let mid = one_means 1 (group_by literal_key) (key_count 3) (scan_means F no_choice 0 t) (key_count 3, inl (_, in_order _, refl), refl) tt in
    ((no_choice, one_means 2 memory_sink (key_count 3) mid (key_count 3, inl refl, refl) tt), refl)

pub slice_meaning : (F : Functions) → IsWholeMeaning F slice_plan (a_table (2 ∷ 3 ∷ 4 ∷ []))
slice_meaning F =
    let t = a_frame (0 ∷ 1 ∷ 2 ∷ 3 ∷ 4 ∷ 5 ∷ []) in
    let u = a_table (2 ∷ 3 ∷ 4 ∷ []) in
    let mid = one_means 1 (slice (pos 2) 3) u (scan_means F no_choice 0 t) (u, inl refl, refl) tt in
    ((no_choice, one_means 2 memory_sink u mid (u, inl refl, refl) tt), refl)

-- a union with a slice of its own
pub union_meaning : (F : Functions) → IsWholeMeaning F union_plan (a_table (2 ∷ []))
union_meaning F =
    let s = a_frame (1 ∷ []) in
    let t = a_frame (2 ∷ []) in
    let mid = two_means 2 (union (Some (pos 1, 1))) (whole t) (scan_means F no_choice 0 s) (scan_means F no_choice 1 t) (a_table (1 ∷ 2 ∷ []), inl refl, refl) tt in
    ((no_choice, one_means 3 memory_sink (whole t) mid (whole t, inl refl, refl) tt), refl)

-- the rows whose key comes once
pub distinct_meaning : (F : Functions) → IsWholeMeaning F (distinct_plan true) (a_table (1 ∷ 3 ∷ []))
distinct_meaning F =
    let t = a_frame (1 ∷ 2 ∷ 2 ∷ 3 ∷ []) in
    let u = a_table (1 ∷ 3 ∷ []) in
    let mid = one_means 1 (distinct (once true)) u (scan_means F no_choice 0 t) (u, inl (u.rows, refl, refl), refl) tt in
    ((no_choice, one_means 2 memory_sink u mid (u, inl refl, refl) tt), refl)

-- the first two items in each other's place
pub swapped : {X : Type 0} (x y : X) → IsPermutation (x ∷ y ∷ []) (y ∷ x ∷ [])
swapped x y = record { moves = (0, 1) ∷ []; below = (omega arith, omega arith, tt); is = refl }

pub distinct_other : (F : Functions) → IsWholeMeaning F (distinct_plan false) (a_table (3 ∷ 1 ∷ []))
distinct_other F =
    let t = a_frame (1 ∷ 2 ∷ 2 ∷ 3 ∷ []) in
    let u = a_table (3 ∷ 1 ∷ []) in
    let mid = one_means 1 (distinct (once false)) u (scan_means F no_choice 0 t) (u, inl (u.rows, swapped (number 1 ∷ []) (number 3 ∷ []), refl), refl) tt in
    ((no_choice, one_means 2 memory_sink u mid (u, inl refl, refl) tt), refl)
