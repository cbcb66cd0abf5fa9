-- A group-by under a cache, read twice: both readers see the one order that was chosen.
use Rattle.std.proofs.Common.{◌≡◌, ℕ, [], ◌∷◌, refl, inl, sym}
use Rattle.std.specs.Prelude.{codes}
use Rattle.ps_frame.specs.Functions.{Functions}
use Rattle.ps_frame.specs.Tables.{Table, whole}
use Rattle.ps_meaning.specs.Cases.{Case}
use Rattle.ps_meaning.specs.Groups.{Group}
use Rattle.ps_meaning.specs.Meaning.{Choice, Means, IsWholeMeaning}
use Rattle.ps_meaning.specs.Steps.{select, hconcat, cache, group_by, memory_sink}
use Rattle.plan_laws.proofs.Rows.{scan_means, one_means, two_means, in_order, swapped}
use Rattle.plan_laws.specs.Examples.{by_k, cached, given, k_column, k_frame, number, single, twice_plan, two_columns}

cached_means : (F : Functions) (c : Choice) (T : Table) → c 0 ≡ T → Case F 1 (group_by by_k) (whole given ∷ []) T → Means F c cached T
cached_means F c T e k = one_means 2 (cache 0) T (one_means 1 (group_by by_k) T (scan_means F c 0 given) k tt) (T, inl refl, refl) (sym e)

pub twice_in_order : (F : Functions) → IsWholeMeaning F twice_plan (two_columns 1 1 2 2)
twice_in_order F =
    let T = whole (k_frame (1 ∷ 2 ∷ [])) in
    let c : Choice = λ n. T in
    let m = cached_means F c T refl (T, inl (_, in_order _, refl), refl) in
    let k1 = whole (single (codes "k1") (1 ∷ 2 ∷ [])) in
    let k2 = whole (single (codes "k2") (1 ∷ 2 ∷ [])) in
    let l = one_means 3 (select ((codes "k1", k_column) ∷ [])) k1 m (k1, inl refl, refl) tt in
    let r = one_means 4 (select ((codes "k2", k_column) ∷ [])) k2 m (k2, inl refl, refl) tt in
    let t = two_columns 1 1 2 2 in
    ((c, one_means 6 memory_sink t (two_means 5 hconcat t l r (t, inl refl, refl) tt) (t, inl refl, refl) tt), refl)

-- the group of a key
abbrev pub group : ℕ → Group
group n = record { cells = number n ∷ []; causes = [] }

pub twice_swapped : (F : Functions) → IsWholeMeaning F twice_plan (two_columns 2 2 1 1)
twice_swapped F =
    let T = whole (k_frame (2 ∷ 1 ∷ [])) in
    let c : Choice = λ n. T in
    let m = cached_means F c T refl (T, inl (_, swapped (group 1) (group 2), refl), refl) in
    let k1 = whole (single (codes "k1") (2 ∷ 1 ∷ [])) in
    let k2 = whole (single (codes "k2") (2 ∷ 1 ∷ [])) in
    let l = one_means 3 (select ((codes "k1", k_column) ∷ [])) k1 m (k1, inl refl, refl) tt in
    let r = one_means 4 (select ((codes "k2", k_column) ∷ [])) k2 m (k2, inl refl, refl) tt in
    let t = two_columns 2 2 1 1 in
    ((c, one_means 6 memory_sink t (two_means 5 hconcat t l r (t, inl refl, refl) tt) (t, inl refl, refl) tt), refl)
