-- What small plans with slices from the end and with ordered joins mean.
use Rattle.std.proofs.Common.{ℕ, ℤ, pos, negsuc, false, List, [], ◌∷◌, refl, inl, arith}
use Rattle.std.specs.Prelude.{codes}
use Rattle.ps_frame.specs.Functions.{Functions}
use Rattle.ps_frame.specs.Tables.{Frame, Table, no_rows, whole}
use Rattle.ps_frame.specs.declared.value.DataFault.TheVariants as fault
use Rattle.ps_frame.specs.declared.value.DataType.TheVariants as kind
use Rattle.ps_meaning.specs.Cases.{Case}
use Rattle.ps_meaning.specs.Meaning.{IsBrokenBy, IsWholeMeaning, Means}
use Rattle.ps_meaning.specs.Steps.{join, memory_sink, select, slice, sort}
use Rattle.ps_meaning.specs.declared.options.JoinType.{JoinType}
use Rattle.ps_meaning.specs.declared.options.JoinType.TheVariants as how
use Rattle.plan_laws.specs.Examples.{a_frame, a_table, at_one, k_column, k_frame, number, plain_join}
use Rattle.plan_laws.specs.Ordered.{as_number, at_two, cut_three, faulty_left, first_of_faulty, first_pair, full_ordered, greatest_first, keys_and_texts, last_cast, least_plan, left_ordered, numerals, ordered_plan}
use Rattle.plan_laws.proofs.Rows.{no_choice, one_means, scan_means, two_means}

abbrev three : Frame
three = a_frame (1 ∷ 2 ∷ 3 ∷ [])

-- a slice of the three, under a sink
pub cut-meaning : (F : Functions) (offset : ℤ) (n : ℕ) (rows : List ℕ) → Case F 1 (slice offset n) (whole three ∷ []) (a_table rows) → IsWholeMeaning F (cut_three offset n) (a_table rows)
cut-meaning F offset n rows k =
    let mid = one_means 1 (slice offset n) (a_table rows) (scan_means F no_choice 0 three) k tt in
    ((no_choice, one_means 2 memory_sink (a_table rows) mid (a_table rows, inl refl, refl) tt), refl)

pub last-but-one : (F : Functions) → IsWholeMeaning F (cut_three (negsuc 1) 1) (a_table (2 ∷ []))
last-but-one F = cut-meaning F (negsuc 1) 1 (2 ∷ []) (a_table (2 ∷ []), inl refl, refl)

pub before-first : (F : Functions) → IsWholeMeaning F (cut_three (negsuc 4) 3) (a_table (1 ∷ []))
before-first F = cut-meaning F (negsuc 4) 3 (1 ∷ []) (a_table (1 ∷ []), inl refl, refl)

pub none-before : (F : Functions) → IsWholeMeaning F (cut_three (negsuc 4) 1) (a_table [])
none-before F = cut-meaning F (negsuc 4) 1 [] (a_table [], inl refl, refl)

pub of-no-rows : (F : Functions) → IsWholeMeaning F (cut_three (negsuc 0) 0) (a_table [])
of-no-rows F = cut-meaning F (negsuc 0) 0 [] (a_table [], inl refl, refl)

pub least : (F : Functions) → IsWholeMeaning F least_plan (a_table (1 ∷ []))
least F =
    let mid = one_means 1 (sort greatest_first) (a_table (1 ∷ [])) (scan_means F no_choice 0 three) (a_table (3 ∷ 2 ∷ 1 ∷ []), inl refl, refl) tt in
    ((no_choice, one_means 2 memory_sink (a_table (1 ∷ [])) mid (a_table (1 ∷ []), inl refl, refl) tt), refl)

-- the rows of the cast before its fault
abbrev cast-table : Table
cast-table = record { schema = (codes "n", kind.Int64) ∷ []; rows = (number 1 ∷ []) ∷ []; broken = at_one fault.StrictCast ∷ [] }

abbrev no-last : Table
no-last = no_rows ((codes "n", kind.Int64) ∷ []) (at_one fault.StrictCast ∷ [])

pub last-cast : (F : Functions) → IsBrokenBy F last_cast (at_one fault.StrictCast)
last-cast F =
    let mid = one_means 1 (select ((codes "n", as_number) ∷ [])) cast-table (scan_means F no_choice 0 numerals) (cast-table, inl refl, refl) tt in
    (no_choice, no-last, inl (one_means 2 (slice (negsuc 0) 1) no-last mid (no-last, inl refl, refl) tt), (0, omega arith, refl))

-- a join of the keys with the texts
pub ordered-meaning : (F : Functions) (type : JoinType) (T : Frame) → Case F 2 (join (plain_join type false k_column k_column)) (whole (k_frame (3 ∷ 1 ∷ [])) ∷ whole keys_and_texts ∷ []) (whole T) → IsWholeMeaning F (ordered_plan type) (whole T)
ordered-meaning F type T k =
    let mid = two_means 2 (join (plain_join type false k_column k_column)) (whole T) (scan_means F no_choice 0 (k_frame (3 ∷ 1 ∷ []))) (scan_means F no_choice 1 keys_and_texts) k tt in
    ((no_choice, one_means 3 memory_sink (whole T) mid (whole T, inl refl, refl) tt), refl)

pub left-meaning : (F : Functions) → IsWholeMeaning F (ordered_plan how.Left) (whole left_ordered)
left-meaning F = ordered-meaning F how.Left left_ordered (whole left_ordered, inl refl, refl)

pub full-meaning : (F : Functions) → IsWholeMeaning F (ordered_plan how.Full) (whole full_ordered)
full-meaning F = ordered-meaning F how.Full full_ordered (whole full_ordered, inl refl, refl)

-- the pair of the row before the fault
abbrev broken-pair : Table
broken-pair = record { schema = first_pair.schema; rows = first_pair.rows; broken = at_two fault.StrictCast ∷ [] }

faulty-means : (F : Functions) → Means F no_choice (faulty_left how.Inner) broken-pair
faulty-means F =
    two_means 2 (join (plain_join how.Inner false as_number k_column)) broken-pair (scan_means F no_choice 0 numerals) (scan_means F no_choice 1 (k_frame (1 ∷ []))) (broken-pair, inl refl, refl) tt

pub first-of-faulty : (F : Functions) → IsWholeMeaning F first_of_faulty (whole first_pair)
first-of-faulty F = ((no_choice, one_means 3 (slice (pos 0) 1) (whole first_pair) (faulty-means F) (whole first_pair, inl refl, refl) tt), refl)

pub the-fault : (F : Functions) → IsBrokenBy F (faulty_left how.Inner) (at_two fault.StrictCast)
the-fault F = (no_choice, broken-pair, inl (faulty-means F), (0, omega arith, refl))
