-- What plans of one step over a scan mean, with all sorts of expressions.
use Rattle.std.proofs.Common.{[], ◌∷◌, refl, inl}
use Rattle.std.specs.Int.{int_wrap}
use Rattle.std.specs.Prelude.{codes}
use Rattle.ps_frame.specs.Functions.{Functions}
use Rattle.ps_frame.specs.Tables.{Frame, Table, whole}
use Rattle.ps_meaning.specs.Cases.{Case}
use Rattle.ps_meaning.specs.Meaning.{IsChosen, IsWholeMeaning, Means}
use Rattle.ps_meaning.specs.PlanTrees.{PlanTree}
use Rattle.ps_meaning.specs.Steps.{Step, memory_sink}
use Rattle.plan_laws.proofs.Rows.{no_choice, one_means, scan_means}
use Rattle.plan_laws.specs.Examples.{a_frame, ab, ab_without_rows, arithmetic_plan, arithmetic_table, beside_empty_plan, cut_plan, index_plan, indexed, int, literal_plan, no_row_table, odd_name_plan, odd_name_table, one_and_none_plan, over_scan, replaced_plan, single, sum_plan, sum_table, under_sink}

-- a sink hands its input on
pub sunk : (F : Functions) (t : PlanTree) (f : Frame) → Means F no_choice t (whole f) → IsWholeMeaning F (under_sink t) (whole f)
sunk F t f m = ((no_choice, one_means 2 memory_sink (whole f) m (whole f, inl refl, refl) tt), refl)

-- a step over a scan means what its case gives
pub step_means : (F : Functions) (f : Frame) (step : Step) (T : Table) → Case F 1 step (whole f ∷ []) T → IsChosen no_choice step T → Means F no_choice (over_scan f step) T
step_means F f step T k chosen = one_means 1 step T (scan_means F no_choice 0 f) k chosen

-- a sum is broadcast beside a column
pub sum_meaning : (F : Functions) → IsWholeMeaning F sum_plan sum_table
unfolding int_wrap
sum_meaning F = sunk F _ _ (step_means F ab _ sum_table (sum_table, inl refl, refl) tt)

-- a literal alone gives one row, and beside an empty column none
pub literal_meaning : (F : Functions) → IsWholeMeaning F literal_plan (whole (single (codes "x") (1 ∷ [])))
literal_meaning F = let t = whole (single (codes "x") (1 ∷ [])) in sunk F _ _ (step_means F (a_frame []) _ t (t, inl refl, refl) tt)

pub beside_empty_meaning : (F : Functions) → IsWholeMeaning F beside_empty_plan no_row_table
beside_empty_meaning F = sunk F _ _ (step_means F (a_frame []) _ no_row_table (no_row_table, inl refl, refl) tt)

-- lengths 1 and 0 give no rows
pub one_and_none_meaning : (F : Functions) → IsWholeMeaning F one_and_none_plan ab_without_rows
one_and_none_meaning F = sunk F _ _ (step_means F (a_frame (1 ∷ [])) _ ab_without_rows (ab_without_rows, inl refl, refl) tt)

-- a column of the same name is replaced in its place
pub replaced_meaning : (F : Functions) → IsWholeMeaning F replaced_plan (whole (a_frame (6 ∷ 6 ∷ 6 ∷ [])))
unfolding int_wrap
replaced_meaning F = let t = whole (a_frame (6 ∷ 6 ∷ 6 ∷ [])) in sunk F _ _ (step_means F (a_frame (1 ∷ 2 ∷ 3 ∷ [])) _ t (t, inl refl, refl) tt)

-- the last number that a row may have
pub index_meaning : (F : Functions) → IsWholeMeaning F (under_sink (index_plan 4294967294)) indexed
index_meaning F = sunk F _ _ (step_means F (a_frame (5 ∷ [])) _ indexed (indexed, inl refl, refl) tt)

-- a name that the engine might make up
pub odd_name_meaning : (F : Functions) → IsWholeMeaning F odd_name_plan odd_name_table
unfolding int_wrap
odd_name_meaning F = sunk F _ _ (step_means F _ _ odd_name_table (odd_name_table, inl refl, refl) tt)

-- a sum wraps, a quotient is rounded down, and by 0 it is null
pub arithmetic_meaning : (F : Functions) → IsWholeMeaning F arithmetic_plan arithmetic_table
unfolding int_wrap
arithmetic_meaning F = sunk F _ _ (step_means F (a_frame []) _ arithmetic_table (arithmetic_table, inl refl, refl) tt)

-- the last two values, though five were asked for
pub cut_meaning : (F : Functions) → IsWholeMeaning F (under_sink (cut_plan (int 5))) (whole (single (codes "x") (2 ∷ 3 ∷ [])))
cut_meaning F = let t = whole (single (codes "x") (2 ∷ 3 ∷ [])) in sunk F _ _ (step_means F (a_frame (1 ∷ 2 ∷ 3 ∷ [])) _ t (t, inl refl, refl) tt)
