-- What the small plans don't mean.
use Rattle.std.proofs.Common.{◌≡◌, ℕ, zero, suc, ◌<◌, ◌⊎◌, Bool, true, false, List, [], ◌∷◌, length, None, refl, sym, ap, subst, ◌∙◌, inl, inr, arith}
use Rattle.std.specs.Prelude.{swap}
use Rattle.std.specs.List.Sorted.{IsPermutation}
use Rattle.std.proofs.lemmas.List.Sorted.{IsPermutation-keeps}
use Rattle.std.specs.Prelude.{codes, if◌then◌else◌}
use Rattle.ps_frame.specs.Causes.{is_empty}
use Rattle.ps_frame.specs.Functions.{Functions}
use Rattle.ps_frame.specs.Tables.{Frame, Table, whole}
use Rattle.ps_meaning.specs.Cases.{Case, GivesBeforeCut, Gives, lost_causes, rows_table}
use Rattle.ps_meaning.specs.Groups.{Group, groups_table}
use Rattle.ps_meaning.specs.Meaning.{Choice, Means, by_case, none_mean, more_mean, IsMeaning}
use Rattle.ps_meaning.specs.PlanTrees.{PlanTree, node, tree}
use Rattle.ps_meaning.specs.Steps.{Step, distinct, filter, scan, select, group_by, hconcat, cache, memory_sink}
use Rattle.plan_laws.proofs.CacheRow.{group}
use Rattle.plan_laws.proofs.Once.{one_table}
use Rattle.plan_laws.proofs.Rows.{slice_meaning}
use Rattle.plan_laws.specs.Examples.{a_above_one, a_frame, a_table, by_k, cached, distinct_plan, filter_plan, given, number, once, group_plan, k_as, k_column, k_frame, key_count, literal_key, one_input, scan_of, single, slice_plan, twice_plan, two_columns}

-- the slice has one table
pub slice_only : (F : Functions) (T : Table) → IsMeaning F slice_plan T → T ≡ a_table (2 ∷ 3 ∷ 4 ∷ [])
slice_only F T m = one_table F slice_plan (tt, ((tt, ((tt, tt), tt)), tt)) T _ m (slice_meaning F).0

-- one row, and two rows, in another order
one_order : {X : Type 0} (x : X) (ys : List X) → IsPermutation (x ∷ []) ys → ys ≡ x ∷ []
one_order {X} x ys h = IsPermutation-keeps (x ∷ []) (λ l. l ≡ x ∷ []) refl step ys h
  where
    at_zero : (i j : ℕ) → i < 1 → j < 1 → swap (x ∷ []) i j ≡ x ∷ []
    at_zero zero zero h k = refl
    at_zero zero (suc j) h k = absurd (omega arith)
    at_zero (suc i) j h k = absurd (omega arith)

    step : (l : List X) (i j : ℕ) → i < length l → j < length l → l ≡ x ∷ [] → swap l i j ≡ x ∷ []
    step l i j hi hj e = subst (λ m. swap m i j ≡ x ∷ []) (sym e) (at_zero i j (subst (λ m. i < length m) e hi) (subst (λ m. j < length m) e hj))

-- T is a, or b
abbrev pub Either : {X : Type 0} → X → X → X → Type 0
Either a b T = (T ≡ a) ⊎ (T ≡ b)

two_orders : {X : Type 0} (x y : X) (zs : List X) → IsPermutation (x ∷ y ∷ []) zs → Either (x ∷ y ∷ []) (y ∷ x ∷ []) zs
two_orders {X} x y zs h = IsPermutation-keeps (x ∷ y ∷ []) (Either (x ∷ y ∷ []) (y ∷ x ∷ [])) (inl refl) step zs h
  where
    swaps : (a b : X) (i j : ℕ) → i < 2 → j < 2 → Either (a ∷ b ∷ []) (b ∷ a ∷ []) (swap (a ∷ b ∷ []) i j)
    swaps a b zero zero h k = inl refl
    swaps a b zero (suc zero) h k = inr refl
    swaps a b zero (suc (suc j)) h k = absurd (omega arith)
    swaps a b (suc zero) zero h k = inr refl
    swaps a b (suc zero) (suc zero) h k = inl refl
    swaps a b (suc zero) (suc (suc j)) h k = absurd (omega arith)
    swaps a b (suc (suc i)) j h k = absurd (omega arith)

    back : (l : List X) → Either (y ∷ x ∷ []) (x ∷ y ∷ []) l → Either (x ∷ y ∷ []) (y ∷ x ∷ []) l
    back l (inl e) = inr e
    back l (inr e) = inl e

    step : (l : List X) (i j : ℕ) → i < length l → j < length l → Either (x ∷ y ∷ []) (y ∷ x ∷ []) l → Either (x ∷ y ∷ []) (y ∷ x ∷ []) (swap l i j)
    step l i j hi hj (inl e) = subst (λ m. Either (x ∷ y ∷ []) (y ∷ x ∷ []) (swap m i j)) (sym e) (swaps x y i j (subst (λ m. i < length m) e hi) (subst (λ m. j < length m) e hj))
    step l i j hi hj (inr e) = subst (λ m. Either (x ∷ y ∷ []) (y ∷ x ∷ []) (swap m i j)) (sym e) (back (swap (y ∷ x ∷ []) i j) (swaps y x i j (subst (λ m. i < length m) e hi) (subst (λ m. j < length m) e hj)))

choice_same : {A : Type 0} (b : Bool) (x : A) → (if b then x else x) ≡ x
choice_same true x = refl
choice_same false x = refl

-- a case with its slice written as a function
abbrev Case' : (Table → Table) → Functions → ℕ → Step → List Table → Table → Type 0
Case' cut_off F at step ts T = (U : Table) × GivesBeforeCut F at step ts U × (T ≡ cut_off U)

-- the distinct values in each of their orders
abbrev pub k12 : Table
k12 = whole (k_frame (1 ∷ 2 ∷ []))

abbrev pub k21 : Table
k21 = whole (k_frame (2 ∷ 1 ∷ []))

module _ (F : Functions) (c : Choice) where
  -- a step that gives one table, and loses no causes
  case_is : (at : ℕ) (step : Step) (ts : List Table) (T V : Table) → ((U : Table) → Gives F at step ts U → U ≡ V) → ((U : Table) → Gives F at step ts U → lost_causes F at step ts U.rows ≡ [])
      → (cut_off : Table → Table) → Case' cut_off F at step ts T → T ≡ cut_off V
  case_is at step ts T V once none cut_off (U, inl g, q) = q ∙ ap cut_off (once U g)
  case_is at step ts T V once none cut_off (U, inr l, q) = absurd (l.2 (none l.0 l.1))

  scan_only : {at : ℕ} {f : Frame} {T : Table} → Means F c (scan_of at f) T → T ≡ whole f
  scan_only {at} {f} {T} (by_case none_mean k chosen) = case_is at (scan f None) [] T (whole f) (λ U g. g) (λ U g. refl) (λ T. T) k

  sink_only : {at : ℕ} {t : PlanTree} {T : Table} → Means F c (node at memory_sink (one_input t)) T → Means F c t T
  sink_only {at} {t} {T} (by_case (more_mean {T = S} m none_mean) k chosen) = subst (λ S. Means F c t S) (sym (case_is at memory_sink (S ∷ []) T S (λ U g. g) (λ U g. refl) (λ T. T) k)) m

  group_once : (U : Table) → Gives F 1 (group_by literal_key) (a_table (1 ∷ 2 ∷ 3 ∷ []) ∷ []) U → U ≡ key_count 3
  group_once U (gs, order, e) = e ∙ ap (λ hs. groups_table (key_count 3).schema hs) (one_order _ gs order)

  -- the literal key's group has all three rows, whatever is chosen
  pub group_only : {T : Table} → Means F c group_plan T → T ≡ key_count 3
  group_only m = mid (sink_only m)
    where
      mid : {T : Table} → Means F c (node 1 (group_by literal_key) (one_input (scan_of 0 (a_frame (1 ∷ 2 ∷ 3 ∷ []))))) T → T ≡ key_count 3
      mid {T} (by_case (more_mean {T = S} m none_mean) k chosen) =
          let k' : Case F 1 (group_by literal_key) (a_table (1 ∷ 2 ∷ 3 ∷ []) ∷ []) T = subst (λ S. Case F 1 (group_by literal_key) (S ∷ []) T) (scan_only m) k in
          case_is 1 (group_by literal_key) (a_table (1 ∷ 2 ∷ 3 ∷ []) ∷ []) T (key_count 3) group_once (λ U g. choice_same (is_empty U.rows) []) (λ T. T) k'

  -- The cached distinct values, in one of two orders.
  group_two : (U : Table) → Gives F 1 (group_by by_k) (whole given ∷ []) U → Either k12 k21 U
  group_two U (gs, order, e) = by (two_orders (group 1) (group 2) gs order)
    where
      table : List Group → Table
      table hs = groups_table given.schema hs

      by : Either (group 1 ∷ group 2 ∷ []) (group 2 ∷ group 1 ∷ []) gs → Either k12 k21 U
      by (inl q) = inl (e ∙ ap table q)
      by (inr q) = inr (e ∙ ap table q)

  either_case : (T : Table) → Case F 1 (group_by by_k) (whole given ∷ []) T → Either k12 k21 T
  either_case T (U, inl g, q) = subst (Either k12 k21) (sym q) (group_two U g)
  either_case T (U, inr l, q) = absurd (l.2 (choice_same (is_empty l.0.rows) []))

  grouped_only : {T : Table} → Means F c (node 1 (group_by by_k) (one_input (scan_of 0 given))) T → Either k12 k21 T
  grouped_only {T} (by_case (more_mean {T = S} m none_mean) k chosen) = either_case T (subst (λ S. Case F 1 (group_by by_k) (S ∷ []) T) (scan_only m) k)

  cached_only : {T : Table} → Means F c cached T → (T ≡ c 0) × Either k12 k21 (c 0)
  cached_only {T} (by_case (more_mean {T = S} m none_mean) k chosen) =
      let same : T ≡ S = case_is 2 (cache 0) (S ∷ []) T S (λ U g. g) (λ U g. refl) (λ T. T) k in
      (chosen, subst (Either k12 k21) (sym same ∙ chosen) (grouped_only m))

  -- a select of k over the cache gives the choice's rows
  select_only : (at : ℕ) (name : List ℕ) (D E : Table) → c 0 ≡ D → ((U : Table) → Gives F at (select ((name, k_column) ∷ [])) (D ∷ []) U → U ≡ E)
      → ((U : Table) → Gives F at (select ((name, k_column) ∷ [])) (D ∷ []) U → lost_causes F at (select ((name, k_column) ∷ [])) (D ∷ []) U.rows ≡ [])
      → {T : Table} → Means F c (k_as at name) T → T ≡ E
  select_only at name D E e once none {T} (by_case (more_mean {T = S} m none_mean) k chosen) =
      let same : S ≡ D = (cached_only m).0 ∙ e in
      case_is at (select ((name, k_column) ∷ [])) (D ∷ []) T E once none (λ T. T) (subst (λ S. Case F at (select ((name, k_column) ∷ [])) (S ∷ []) T) same k)

  choice_of_tree : {at : ℕ} {name : List ℕ} {T : Table} → Means F c (k_as at name) T → Either k12 k21 (c 0)
  choice_of_tree (by_case (more_mean m none_mean) k chosen) = (cached_only m).1

  -- the choice's rows under another name
  abbrev renamed : List ℕ → List ℕ → Table
  renamed name ns = whole (single name ns)

  zipped_only : {T : Table} → Means F c (node 5 hconcat (tree (k_as 3 (codes "k1")) (one_input (k_as 4 (codes "k2"))))) T → Either (two_columns 1 1 2 2) (two_columns 2 2 1 1) T
  zipped_only {T} (by_case (more_mean {T = L} a (more_mean {T = R} b none_mean)) k chosen) = by (choice_of_tree a)
    where
      join : (D E G : Table) → L ≡ D → R ≡ E → ((U : Table) → Gives F 5 hconcat (D ∷ E ∷ []) U → U ≡ G) → T ≡ G
      join D E G l r once = case_is 5 hconcat (D ∷ E ∷ []) T G once (λ U g. refl) (λ T. T) (subst (λ E. Case F 5 hconcat (D ∷ E ∷ []) T) r (subst (λ D. Case F 5 hconcat (D ∷ R ∷ []) T) l k))

      by : Either k12 k21 (c 0) → Either (two_columns 1 1 2 2) (two_columns 2 2 1 1) T
      by (inl e) =
          let k1 = renamed (codes "k1") (1 ∷ 2 ∷ []) in
          let k2 = renamed (codes "k2") (1 ∷ 2 ∷ []) in
          inl (join k1 k2 (two_columns 1 1 2 2) (select_only 3 (codes "k1") k12 k1 e (λ U g. g) (λ U g. refl) a) (select_only 4 (codes "k2") k12 k2 e (λ U g. g) (λ U g. refl) b) (λ U g. g))
      by (inr e) =
          let k1 = renamed (codes "k1") (2 ∷ 1 ∷ []) in
          let k2 = renamed (codes "k2") (2 ∷ 1 ∷ []) in
          inr (join k1 k2 (two_columns 2 2 1 1) (select_only 3 (codes "k1") k21 k1 e (λ U g. g) (λ U g. refl) a) (select_only 4 (codes "k2") k21 k2 e (λ U g. g) (λ U g. refl) b) (λ U g. g))

  -- one cache id is read in one order
  pub twice_only : {T : Table} → Means F c twice_plan T → Either (two_columns 1 1 2 2) (two_columns 2 2 1 1) T
  twice_only m = zipped_only (sink_only m)

  -- the filter has one table
  filter_mid : {T : Table} → Means F c (node 1 (filter a_above_one) (one_input (scan_of 0 (a_frame (1 ∷ 2 ∷ 3 ∷ []))))) T → T ≡ a_table (2 ∷ 3 ∷ [])
  filter_mid {T} (by_case (more_mean {T = S} m none_mean) k chosen) =
      let k' : Case F 1 (filter a_above_one) (a_table (1 ∷ 2 ∷ 3 ∷ []) ∷ []) T = subst (λ S. Case F 1 (filter a_above_one) (S ∷ []) T) (scan_only m) k in
      case_is 1 (filter a_above_one) (a_table (1 ∷ 2 ∷ 3 ∷ []) ∷ []) T (a_table (2 ∷ 3 ∷ [])) (λ U g. g) (λ U g. refl) (λ T. T) k'

  pub filter_only : {T : Table} → Means F c filter_plan T → T ≡ a_table (2 ∷ 3 ∷ [])
  filter_only m = filter_mid (sink_only m)

  -- The rows whose key comes once: in the input's order, or in one of two.
  abbrev given_rows : List Table
  given_rows = a_table (1 ∷ 2 ∷ 2 ∷ 3 ∷ []) ∷ []

  distinct_case : {maintained : Bool} {T : Table} → Means F c (node 1 (distinct (once maintained)) (one_input (scan_of 0 (a_frame (1 ∷ 2 ∷ 2 ∷ 3 ∷ []))))) T → Case F 1 (distinct (once maintained)) given_rows T
  distinct_case {maintained} {T} (by_case (more_mean {T = S} m none_mean) k chosen) = subst (λ S. Case F 1 (distinct (once maintained)) (S ∷ []) T) (scan_only m) k

  pub distinct_only : {T : Table} → Means F c (distinct_plan true) T → T ≡ a_table (1 ∷ 3 ∷ [])
  distinct_only {T} m =
      case_is 1 (distinct (once true)) given_rows T (a_table (1 ∷ 3 ∷ [])) (λ U g. g.2 ∙ ap (λ rows. rows_table (a_frame []).schema rows) g.1) (λ U g. refl) (λ T. T) (distinct_case {maintained = true} (sink_only m))

  distinct_two : (T : Table) → Case F 1 (distinct (once false)) given_rows T → Either (a_table (1 ∷ 3 ∷ [])) (a_table (3 ∷ 1 ∷ [])) T
  distinct_two T (U, inl (rows, order, e), q) = by (two_orders (number 1 ∷ []) (number 3 ∷ []) rows order)
    where
      by : Either ((number 1 ∷ []) ∷ (number 3 ∷ []) ∷ []) ((number 3 ∷ []) ∷ (number 1 ∷ []) ∷ []) rows → Either (a_table (1 ∷ 3 ∷ [])) (a_table (3 ∷ 1 ∷ [])) T
      by (inl p) = inl (q ∙ e ∙ ap (λ rows. rows_table (a_frame []).schema rows) p)
      by (inr p) = inr (q ∙ e ∙ ap (λ rows. rows_table (a_frame []).schema rows) p)
  distinct_two T (U, inr l, q) = absurd (l.2 refl)

  pub distinct_either : {T : Table} → Means F c (distinct_plan false) T → Either (a_table (1 ∷ 3 ∷ [])) (a_table (3 ∷ 1 ∷ [])) T
  distinct_either {T} m = distinct_two T (distinct_case {maintained = false} (sink_only m))
