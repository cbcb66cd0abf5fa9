-- What a group-by finds over the rows of a list of keys is shown over all rows; a list of too many keys has too many rows; whole morsels are whole together.
use Rattle.std.proofs.Common.{◌≡◌, ℕ, ◌<◌, ◌≤◌, ◌⊎◌, Bool, List, [], ◌∷◌, ◌++◌, length, take, drop, refl, sym, ap, ◌∙◌, subst, inl, inr, arith, IsPermutation}
use Rattle.std.proofs.lemmas.List.{length-map}
use Rattle.std.proofs.lemmas.List.Sorted.{Contains-permutation, IsPermutation-sym, length_permutation}
use Rattle.std.proofs.lemmas.List.Sums.{count_by-le-length}
use Rattle.std.specs.Prelude.{◌≢◌, Contains, filter, map, IsTrue}
use Rattle.std.specs.List.{AllByRecursion, list_any}
use Rattle.ps_frame.specs.Aggregates.{max_rows}
use Rattle.ps_frame.specs.Causes.{Cause}
use Rattle.ps_frame.specs.Functions.{Functions}
use Rattle.ps_frame.specs.Tables.{Fields, Row, Table}
use Rattle.ps_frame.specs.Values.{same_row}
use Rattle.ps_meaning.specs.Cases.{GivesBeforeCut, keyed, rows_table}
use Rattle.ps_meaning.specs.Groups.{Group, group_of, groups, keys_of}
use Rattle.ps_meaning.specs.Shape.{PhysicalKind, PhysicalNode, group_by_node}
use Rattle.ps_meaning.specs.Sound.{AreElementwise, AreReductions, have_all_kinds}
use Rattle.ps_meaning.specs.Steps.{Named, exprs_of, group_by}
use Rattle.ps_turns.specs.Keys.{IsSplit, keys_over, part_of}
use Rattle.ps_turns.specs.Results.{HasTooManyKeys, IsBrokenOver, IsMade, rows_fault}
use Rattle.passing_laws.proofs.ZipPieces.{table_with}
use Rattle.part_laws.specs.Parts.{IsShownOver, ShowsParts}
use Rattle.part_laws.proofs.Members.{in-flat, out-flat, out-map}
use Rattle.part_laws.proofs.ReduceFaults.{IsOfKind, at-once, of-kinds}
use Rattle.part_laws.specs.Lists.{end_to_end}
use Rattle.part_laws.proofs.Apart.{in_list}
use Rattle.part_laws.proofs.GroupFaults.{few-inside, few-kept, few-keys, given-few, lost-of, morsel-shows, shown-by-groups, shown-by-lost, split-broken}
use Rattle.part_laws.proofs.GroupParts.{groups-passing, kept-out}
use Rattle.part_laws.proofs.GroupTables.{beside, given_groups, group_causes, group_node, group_step, groups_over}
use Rattle.part_laws.proofs.KeyFaults.{key-few, key-loses}
use Rattle.part_laws.proofs.KeyedRows.{AllClean, clean-keyed, keyed-rows, keyed-whole, part-keyed, part-whole, part_rows}
use Rattle.world_laws.proofs.InOrder.{contains_map, none_in_nil}

empty-map : {A B : Type 0} (f : A → B) (t : A → Bool) (xs : List A) → xs ≡ [] → map f (filter t xs) ≡ []
empty-map f t xs e = ap (λ l. map f (filter t l)) e

module _ (F : Functions) (p : PhysicalNode) (keys aggregates : List Named) (s : Fields) (some : s ≢ []) (h : AreElementwise (exprs_of keys)) (k : IsTrue (have_all_kinds s (exprs_of keys))) where
  -- rows, none of which has a faulty key
  abbrev pub Clean : List Row → Type 0
  Clean rows = AllClean p.origin s (exprs_of keys) some h k rows

  both-clean : (xs ys : List Row) → Clean xs → Clean ys → Clean (xs ++ ys)
  both-clean [] ys a b = b
  both-clean (x ∷ xs) ys a b = (a.0, both-clean xs ys a.1 b)

  -- morsels that are whole beside their keys are whole together
  pub morsels-whole : (morsels : List (List Row)) → AllByRecursion (λ rs. (keyed p.origin (exprs_of keys) (rows_table s rs)).broken ≡ []) morsels → (keyed p.origin (exprs_of keys) (rows_table s (end_to_end morsels))).broken ≡ []
  morsels-whole morsels all = keyed-whole p.origin s (exprs_of keys) some h k (end_to_end morsels) (each morsels all)
    where
      each : (morsels : List (List Row)) → AllByRecursion (λ rs. (keyed p.origin (exprs_of keys) (rows_table s rs)).broken ≡ []) morsels → Clean (end_to_end morsels)
      each [] all = tt
      each (m ∷ ms) all = both-clean m (end_to_end ms) (clean-keyed p.origin s (exprs_of keys) some h k m all.0) (each ms all.1)

  no-causes : (bs : List Cause) (gs : List Group) → (given_groups F p keys aggregates s some h k bs gs).broken ≡ [] → bs ≡ []
  no-causes [] gs e = refl
  no-causes (b ∷ bs) gs e = cc

  -- where a partial is there, its morsel is whole beside its keys
  pub made-whole : (a rs : List Row) → IsMade F (group_node F p keys aggregates s some h k) (rows_table s a ∷ []) rs → (keyed p.origin (exprs_of keys) (rows_table s a)).broken ≡ []
  made-whole a rs (T, (U, g, e), w, q, few) = by g
    where
      whole : U.broken ≡ []
      whole = ap (λ (t : Table). t.broken) (sym e) ∙ w

      by : GivesBeforeCut F p.origin (group_by (group_step keys aggregates)) (table_with s a [] ∷ []) U → (keyed p.origin (exprs_of keys) (rows_table s a)).broken ≡ []
      by (inl (gs, order, u)) = no-causes (keyed p.origin (exprs_of keys) (rows_table s a)).broken gs (ap (λ (t : Table). t.broken) (sym u) ∙ whole)
      by (inr (V, v, lost, u)) = absurd (lost (ap (λ (t : Table). t.broken) (sym u) ∙ whole))

  -- a list of a split has no more keys than there are rows
  pub list-few : (rows : List Row) (n : ℕ) (lists : List (List Row)) (l : List Row) → IsSplit (group_node F p keys aggregates s some h k) (rows_table s rows ∷ []) n lists → Contains lists l
      → HasTooManyKeys F (group_node F p keys aggregates s some h k) l (rows_table s rows ∷ []) → max_rows < length rows
  list-few rows n lists l split there many =
      let zs = (beside F p keys aggregates s some h k rows []).rows in
      let a = count_by-le-length (λ x. list_any (same_row x) (keys_over p.origin (exprs_of keys) (rows_table s rows))) l in
      let b = few-inside lists l there in
      let c = length_permutation (keys_of (length s) zs) (end_to_end lists) split.each_once in
      let d = few-keys s zs in
      let e = key-few p.origin s (exprs_of keys) some h k rows [] in
      omega (arith, many)

  module _ (known : AllByRecursion (IsOfKind s) (exprs_of aggregates)) (rows : List Row) (whole : (beside F p keys aggregates s some h k rows []).broken ≡ []) (l : List Row) (c : Cause) where
    abbrev IsFound : Type 0
    IsFound = IsShownOver F (group_node F p keys aggregates s some h k) (table_with s rows []) rows c

    abbrev clean : Clean rows
    clean = clean-keyed p.origin s (exprs_of keys) some h k rows whole

    abbrev part : List Row
    part = part_rows p.origin s (exprs_of keys) some h k (in_list l) rows (clean-keyed p.origin s (exprs_of keys) some h k rows whole)

    abbrev zs : List Row
    zs = (beside F p keys aggregates s some h k rows []).rows

    -- its groups are groups of all
    in-groups : (gs : List Group) → IsPermutation (groups_over F p keys aggregates s some h k (beside F p keys aggregates s some h k part []).rows) gs → Contains (group_causes gs) c → IsFound
    in-groups gs order m =
        let g = out-flat (λ (g : Group). g.causes) gs c m in
        let own = groups_over F p keys aggregates s some h k (beside F p keys aggregates s some h k part []).rows in
        let of = group_of p.origin (exprs_of aggregates) s zs in
        let same : own ≡ map of (filter (in_list l) (keys_of (length s) zs)) =
        ap (groups p.origin (exprs_of aggregates) s) (part-keyed p.origin s (exprs_of keys) some h k (in_list l) rows clean) ∙ groups-passing p.origin (exprs_of aggregates) s zs (in_list l) in
        let there = subst (λ (hs : List Group). Contains hs g.0) same (Contains-permutation gs own g.0 (IsPermutation-sym own gs order) g.1) in
        let key = out-map of (filter (in_list l) (keys_of (length s) zs)) g.0 there in
        let kept = kept-out (in_list l) (keys_of (length s) zs) key.0 key.1 in
        inl (shown-by-groups F p keys aggregates s some h k known rows [] c
        (in-flat (λ (g : Group). g.causes) (groups_over F p keys aggregates s some h k zs) g.0 c (subst (Contains (groups_over F p keys aggregates s some h k zs)) key.2 (contains_map of key.0 (keys_of (length s) zs) kept.0)) g.2))

    few-part : length (beside F p keys aggregates s some h k part []).rows ≤ length rows
    few-part =
        let a = key-few p.origin s (exprs_of keys) some h k part [] in
        let t : Row → Bool = λ r. in_list l (drop (length s) r) in
        let b = length-map (filter t zs) (take (length s)) in
        let d = few-kept t zs in
        let e = key-few p.origin s (exprs_of keys) some h k rows [] in
        omega arith

    few-groups : (gs : List Group) → IsPermutation (groups_over F p keys aggregates s some h k (beside F p keys aggregates s some h k part []).rows) gs → length gs ≤ length rows
    few-groups gs order =
        let ys = (beside F p keys aggregates s some h k part []).rows in
        let x = length_permutation (groups_over F p keys aggregates s some h k ys) gs order in
        let y = length-map (keys_of (length s) ys) (group_of p.origin (exprs_of aggregates) s ys) in
        let w = few-keys s ys in
        let v = few-part in
        omega arith

    -- what its keys lose all keys lose
    by-lost : Contains (beside F p keys aggregates s some h k part []).lost c → IsFound
    by-lost m = of rows refl
      where
        of : (rs : List Row) → rows ≡ rs → IsFound
        of [] e =
            let none : zs ≡ [] = ap (λ rs. (beside F p keys aggregates s some h k rs []).rows) e ∙ keyed-rows p.origin s (exprs_of keys) some h k [] [] tt in
            let same : part ≡ rows = empty-map (take (length s)) (λ r. in_list l (drop (length s) r)) zs none ∙ sym e in
            inl (shown-by-lost F p keys aggregates s some h k known rows [] c (subst (λ rs. Contains (beside F p keys aggregates s some h k rs []).lost c) same m))
        of (r ∷ rs) e = absurd (none_in_nil c (subst (λ cs. Contains cs c) (key-loses p.origin s (exprs_of keys) some h k r rs part [] (subst Clean e clean)) m))

    pub list-shows : IsBrokenOver F (group_node F p keys aggregates s some h k) (part_of (group_node F p keys aggregates s some h k) l (rows_table s rows ∷ [])) c → IsFound
    list-shows (U, g, m) = by g m
      where
        either : (gs : List Group) → IsPermutation (groups_over F p keys aggregates s some h k (beside F p keys aggregates s some h k part []).rows) gs → Contains (beside F p keys aggregates s some h k part []).broken c ⊎ Contains (group_causes gs) c → IsFound
        either gs order (inl x) = absurd (none_in_nil c (subst (λ cs. Contains cs c) (part-whole p.origin s (exprs_of keys) some h k (in_list l) rows clean) x))
        either gs order (inr x) = in-groups gs order x

        by : GivesBeforeCut F p.origin (group_by (group_step keys aggregates)) (table_with s part [] ∷ []) U → Contains U.broken c ⊎ (max_rows < length U.rows) × (c ≡ rows_fault (group_node F p keys aggregates s some h k)) → IsFound
        by (inl (gs, order, u)) (inl x) = either gs order (split-broken F p keys aggregates s some h k known (beside F p keys aggregates s some h k part []).broken gs c (subst (λ (t : Table). Contains t.broken c) u x))
        by (inl (gs, order, u)) (inr x) =
            let e = ap (λ (t : Table). length t.rows) u in
            let f = given-few F p keys aggregates s some h k known (beside F p keys aggregates s some h k part []).broken gs in
            let w = few-groups gs order in
            let many = x.0 in
            inr (x.1, omega arith)
        by (inr (V, v, lost, u)) (inl x) = by-lost (lost-of F p keys aggregates s some h k known part V.rows [] c (subst (λ (t : Table). Contains t.broken c) u x))
        by (inr (V, v, lost, u)) (inr x) = let e = ap (λ (t : Table). length t.rows) u in absurd (omega (arith, x.0))

-- Of a node of a kind.
module _ (F : Functions) (p : PhysicalNode) (keys aggregates : List Named) (s : Fields) (is : p.kind ≡ group_by_node keys aggregates) (some : s ≢ []) (h : AreElementwise (exprs_of keys)) (k : IsTrue (have_all_kinds s (exprs_of keys))) where
  pub groups-show : AreReductions (exprs_of aggregates) → IsTrue (have_all_kinds s (exprs_of aggregates)) → ShowsParts F p s
  groups-show r j =
      subst (λ (kd : PhysicalKind). ShowsParts F (record p { kind = kd }) s) (sym is)
      (at-once F (group_node F p keys aggregates s some h k) s (λ front a rest causes c m. morsel-shows F p keys aggregates s some h k (of-kinds s (exprs_of aggregates) r j) front a rest causes c m))

  pub lists-show : AreReductions (exprs_of aggregates) → IsTrue (have_all_kinds s (exprs_of aggregates)) → (rows : List Row) → (keyed p.origin (exprs_of keys) (rows_table s rows)).broken ≡ [] → (l : List Row) (c : Cause) → IsBrokenOver F p (part_of p l (rows_table s rows ∷ [])) c → IsShownOver F p (rows_table s rows) rows c
  lists-show r j rows whole l c =
      subst (λ (kd : PhysicalKind). IsBrokenOver F (record p { kind = kd }) (part_of (record p { kind = kd }) l (rows_table s rows ∷ [])) c → IsShownOver F (record p { kind = kd }) (rows_table s rows) rows c) (sym is)
      (list-shows F p keys aggregates s some h k (of-kinds s (exprs_of aggregates) r j) rows whole l c)

  pub lists-few : (rows : List Row) (n : ℕ) (lists : List (List Row)) (l : List Row) → IsSplit p (rows_table s rows ∷ []) n lists → Contains lists l → HasTooManyKeys F p l (rows_table s rows ∷ []) → max_rows < length rows
  lists-few rows n lists l =
      subst (λ (kd : PhysicalKind). IsSplit (record p { kind = kd }) (rows_table s rows ∷ []) n lists → Contains lists l → HasTooManyKeys F (record p { kind = kd }) l (rows_table s rows ∷ []) → max_rows < length rows) (sym is)
      (list-few F p keys aggregates s some h k rows n lists l)

  pub partials-whole : (morsels : List (List Row)) → AllByRecursion (λ a. (rs : List Row) × IsMade F p (rows_table s a ∷ []) rs) morsels → (keyed p.origin (exprs_of keys) (rows_table s (end_to_end morsels))).broken ≡ []
  partials-whole morsels all = morsels-whole F p keys aggregates s some h k morsels (each morsels all)
    where
      one : (a rs : List Row) → IsMade F p (rows_table s a ∷ []) rs → (keyed p.origin (exprs_of keys) (rows_table s a)).broken ≡ []
      one a rs m = made-whole F p keys aggregates s some h k a rs (subst (λ (kd : PhysicalKind). IsMade F (record p { kind = kd }) (rows_table s a ∷ []) rs) is m)

      each : (morsels : List (List Row)) → AllByRecursion (λ a. (rs : List Row) × IsMade F p (rows_table s a ∷ []) rs) morsels → AllByRecursion (λ rs. (keyed p.origin (exprs_of keys) (rows_table s rs)).broken ≡ []) morsels
      each [] all = tt
      each (m ∷ ms) all = (one m all.0.0 all.0.1, each ms all.1)
