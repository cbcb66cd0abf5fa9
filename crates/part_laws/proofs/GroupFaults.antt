-- What a group-by finds over a morsel, or over the rows of a list of keys, is shown over all rows.
use Rattle.std.proofs.Common.{◌≡◌, ℕ, suc, ◌<◌, ◌≤◌, ◌⊎◌, Bool, true, false, List, [], ◌∷◌, ◌++◌, length, take, drop, refl, sym, ap, ◌∙◌, subst, inl, inr, arith, length-append, IsPermutation}
use Rattle.std.proofs.lemmas.List.{length-map}
use Rattle.std.proofs.lemmas.List.Sorted.{Contains-permutation, IsPermutation-refl, IsPermutation-sym, length_permutation}
use Rattle.std.specs.Prelude.{◌≢◌, Contains, cond, filter, flat_map, map, if◌then◌else◌, not, IsTrue}
use Rattle.std.specs.List.{AllByRecursion}
use Rattle.ps_frame.specs.Aggregates.{max_rows}
use Rattle.ps_frame.specs.Causes.{Cause, Column, column_causes, is_empty}
use Rattle.ps_frame.specs.Free.{free_causes}
use Rattle.ps_frame.specs.Functions.{Functions}
use Rattle.ps_frame.specs.Tables.{Fields, Row, Table, no_rows}
use Rattle.ps_frame.specs.Trees.{Tree}
use Rattle.ps_frame.specs.Values.{same_row}
use Rattle.ps_frame.specs.Zip.{Zipped}
use Rattle.ps_keys.proofs.SameRows.{same_row-from}
use Rattle.ps_meaning.specs.Cases.{GivesBeforeCut, lost_causes, rows_table}
use Rattle.ps_meaning.specs.Distinct.{distinct_rows}
use Rattle.ps_meaning.specs.Groups.{Group, group_causes_lost, group_columns, group_of, keys_of, rows_before_faulty, rows_of_key}
use Rattle.ps_meaning.specs.Shape.{PhysicalNode}
use Rattle.ps_meaning.specs.Sound.{AreElementwise, have_all_kinds}
use Rattle.ps_meaning.specs.Steps.{Named, exprs_of, group_by}
use Rattle.ps_turns.specs.Results.{IsBrokenOver, rows_fault}
use Rattle.passing_laws.proofs.Shows.{among-either, among-left, among-right}
use Rattle.passing_laws.proofs.ZipPieces.{table_with}
use Rattle.part_laws.specs.Parts.{BreaksOver, IsShownOver, strict_cause}
use Rattle.part_laws.proofs.Members.{in-flat, out-flat, out-map}
use Rattle.part_laws.proofs.ReduceFaults.{IsOfKind, causes-part, causes-strict, columns_over, loses-none, part-among}
use Rattle.part_laws.proofs.Reductions.{IsAggregate, reduction-cases, rows_cause}
use Rattle.part_laws.specs.Lists.{end_to_end}
use Rattle.part_laws.proofs.GroupParts.{distinct-in, distinct-out, kept-out}
use Rattle.part_laws.proofs.GroupTables.{beside, given_groups, group_causes, group_node, group_step, groups_over}
use Rattle.part_laws.proofs.KeyFaults.{clean-cases, faulty-key, faulty_rows, key-few, key-part, part-clean-of}
use Rattle.part_laws.proofs.KeyedRows.{AllClean, keyed-rows, with_keys}
use Rattle.world_laws.proofs.InOrder.{contains_cases, contains_kept, contains_map, none_in_nil}

-- an aggregate of a node finds no cause without its input
none-free : (node : ℕ) (s : Fields) (es : List Tree) → AllByRecursion (IsOfKind s) es → flat_map (free_causes node) es ≡ []
none-free node s [] all = refl
none-free node s (e ∷ es) all = ap (λ cs. cs ++ flat_map (free_causes node) es) (by (reduction-cases node e all.0.reduction)) ∙ none-free node s es all.1
  where
    by : (e ≡ Tree.len) ⊎ IsAggregate node e → free_causes node e ≡ []
    by (inl q) = ap (free_causes node) q
    by (inr a) = ap (free_causes node) a.is

pub few-kept : {A : Type 0} (t : A → Bool) (xs : List A) → length (filter t xs) ≤ length xs
few-kept t [] = omega arith
few-kept t (x ∷ xs) = by (t x) (few-kept t xs)
  where
    by : (b : Bool) → length (filter t xs) ≤ length xs → length (cond b (x ∷ filter t xs) (filter t xs)) ≤ suc (length xs)
    by true h = omega arith
    by false h = omega arith

few-distinct : (rows : List Row) → length (distinct_rows rows) ≤ length rows
few-distinct [] = omega arith
few-distinct (r ∷ rows) = let h = few-distinct rows in let f = few-kept (λ q. not (same_row r q)) (distinct_rows rows) in omega arith

few-before : (gs : List Group) → length (rows_before_faulty gs) ≤ length gs
few-before [] = omega arith
few-before (g ∷ gs) = by (is_empty g.causes) (few-before gs)
  where
    by : (b : Bool) → length (rows_before_faulty gs) ≤ length gs → length (if b then g.cells ∷ rows_before_faulty gs else []) ≤ suc (length gs)
    by true h = omega arith
    by false h = omega arith

pub few-inside : (ls : List (List Row)) (l : List Row) → Contains ls l → length l ≤ length (end_to_end ls)
few-inside [] l h = absurd (none_in_nil l h)
few-inside (m ∷ ls) l h = by (few-inside ls l) (contains_cases m l ls h)
  where
    by : (Contains ls l → length l ≤ length (end_to_end ls)) → (m ≡ l) ⊎ Contains ls l → length l ≤ length (m ++ end_to_end ls)
    by rest (inl e) = let k = length-append m (end_to_end ls) in let j = ap length e in omega arith
    by rest (inr later) = let k = length-append m (end_to_end ls) in let j = rest later in omega arith

module _ (s : Fields) where
  -- the rows of a key
  key-among : (zs ys : List Row) → ((x : Row) → Contains zs x → Contains ys x) → (key x : Row) → Contains (rows_of_key (length s) key zs) x → Contains (rows_of_key (length s) key ys) x
  key-among zs ys among key x m =
      let t : Row → Bool = λ row. same_row key (drop (length s) row) in
      let y = out-map (take (length s)) (filter t zs) x m in
      let q = kept-out t zs y.0 y.1 in
      subst (Contains (rows_of_key (length s) key ys)) y.2 (contains_map (take (length s)) y.0 (filter t ys) (contains_kept t y.0 ys (among y.0 q.0) q.1))

  few-of-key : (key : Row) (zs : List Row) → length (rows_of_key (length s) key zs) ≤ length zs
  few-of-key key zs =
      let t : Row → Bool = λ row. same_row key (drop (length s) row) in
      let a = length-map (filter t zs) (take (length s)) in
      let b = few-kept t zs in
      omega arith

  some-of-key : (zs : List Row) (key : Row) → Contains (keys_of (length s) zs) key → (x : Row) × Contains (rows_of_key (length s) key zs) x
  some-of-key zs key m =
      let t : Row → Bool = λ row. same_row key (drop (length s) row) in
      let y = out-map (drop (length s)) zs key (distinct-out (map (drop (length s)) zs) key m) in
      (take (length s) y.0, contains_map (take (length s)) y.0 (filter t zs) (contains_kept t y.0 zs y.1 (same_row-from key (drop (length s) y.0) (sym y.2))))

  keys-among : (zs ys : List Row) → ((x : Row) → Contains zs x → Contains ys x) → (key : Row) → Contains (keys_of (length s) zs) key → Contains (keys_of (length s) ys) key
  keys-among zs ys among key m =
      let y = out-map (drop (length s)) zs key (distinct-out (map (drop (length s)) zs) key m) in
      distinct-in (map (drop (length s)) ys) key (subst (Contains (map (drop (length s)) ys)) y.2 (contains_map (drop (length s)) y.0 ys (among y.0 y.1)))

  pub few-keys : (zs : List Row) → length (keys_of (length s) zs) ≤ length zs
  few-keys zs = let a = few-distinct (map (drop (length s)) zs) in let b = length-map zs (drop (length s)) in omega arith

map-among : {A B : Type 0} (f : A → B) (xs ys : List A) → ((x : A) → Contains xs x → Contains ys x) → (y : B) → Contains (map f xs) y → Contains (map f ys) y
map-among f xs ys among y m = let x = out-map f xs y m in subst (Contains (map f ys)) x.2 (contains_map f x.0 ys (among x.0 x.1))

module _ (F : Functions) (p : PhysicalNode) (keys aggregates : List Named) (s : Fields) (some : s ≢ []) (h : AreElementwise (exprs_of keys)) (k : IsTrue (have_all_kinds s (exprs_of keys))) (known : AllByRecursion (IsOfKind s) (exprs_of aggregates)) where
  abbrev given : List Cause → List Group → Table
  given causes gs = given_groups F p keys aggregates s some h k causes gs

  -- groups lose nothing, since each has a row
  lost-none : (zs : List Row) (c : Cause) → Contains (group_causes_lost p.origin (exprs_of aggregates) s zs) c → ⊥
  lost-none zs c m = by (rows_of_key (length s) key.0 zs) (some-of-key s zs key.0 key.1).1 key.2
    where
      key : (key : Row) × Contains (keys_of (length s) zs) key × Contains (flat_map (λ (d : Column). d.lost) (group_columns p.origin (exprs_of aggregates) s zs key)) c
      key = out-flat (λ key. flat_map (λ (d : Column). d.lost) (group_columns p.origin (exprs_of aggregates) s zs key)) (keys_of (length s) zs) c m

      by : (rows : List Row) → Contains rows (some-of-key s zs key.0 key.1).0 → Contains (flat_map (λ (d : Column). d.lost) (columns_over p.origin s (exprs_of aggregates) known rows [])) c → ⊥
      by [] there x = none_in_nil (some-of-key s zs key.0 key.1).0 there
      by (r ∷ rows) there x = none_in_nil c (subst (λ cs. Contains cs c) (loses-none p.origin s (exprs_of aggregates) known r rows []) x)

  -- what is lost is lost by the keys
  pub lost-of : (rows given : List Row) (causes : List Cause) (c : Cause) → Contains (lost_causes F p.origin (group_by (group_step keys aggregates)) (table_with s rows causes ∷ []) given) c → Contains (beside F p keys aggregates s some h k rows causes).lost c
  lost-of rows given causes c m = by (among-either y.lost (second ++ third) c m)
    where
      y : Zipped
      y = beside F p keys aggregates s some h k rows causes

      second : List Cause
      second = if is_empty (beside F p keys aggregates s some h k rows causes).broken then group_causes_lost p.origin (exprs_of aggregates) s (beside F p keys aggregates s some h k rows causes).rows else []

      third : List Cause
      third = if is_empty given then flat_map (free_causes p.origin) (exprs_of aggregates) else []

      no-second : (b : Bool) → Contains (if b then group_causes_lost p.origin (exprs_of aggregates) s (beside F p keys aggregates s some h k rows causes).rows else []) c → ⊥
      no-second true x = lost-none (beside F p keys aggregates s some h k rows causes).rows c x
      no-second false x = none_in_nil c x

      no-third : (b : Bool) → Contains (if b then flat_map (free_causes p.origin) (exprs_of aggregates) else []) c → ⊥
      no-third true x = none_in_nil c (subst (λ cs. Contains cs c) (none-free p.origin s (exprs_of aggregates) known) x)
      no-third false x = none_in_nil c x

      neither : Contains second c ⊎ Contains third c → Contains (beside F p keys aggregates s some h k rows causes).lost c
      neither (inl x) = absurd (no-second (is_empty (beside F p keys aggregates s some h k rows causes).broken) x)
      neither (inr x) = absurd (no-third (is_empty given) x)

      by : Contains y.lost c ⊎ Contains (second ++ third) c → Contains (beside F p keys aggregates s some h k rows causes).lost c
      by (inl x) = x
      by (inr x) = neither (among-either second third c x)

  -- The causes of what it gives: those of the keys and those of the groups.
  pub split-broken : (bs : List Cause) (gs : List Group) (c : Cause) → Contains (given bs gs).broken c → Contains bs c ⊎ Contains (group_causes gs) c
  split-broken [] gs c m = inr m
  split-broken (b ∷ bs) gs c m = among-either (b ∷ bs) (group_causes gs) c m

  keys-break : (bs : List Cause) (gs : List Group) (c : Cause) → Contains bs c → Contains (given bs gs).broken c
  keys-break [] gs c m = absurd (none_in_nil c m)
  keys-break (b ∷ bs) gs c m = among-left (b ∷ bs) (group_causes gs) c m

  groups-break : (bs : List Cause) (gs : List Group) (c : Cause) → Contains (group_causes gs) c → Contains (given bs gs).broken c
  groups-break [] gs c m = m
  groups-break (b ∷ bs) gs c m = among-right (b ∷ bs) (group_causes gs) c m

  pub given-few : (bs : List Cause) (gs : List Group) → length (given bs gs).rows ≤ length gs
  given-few [] gs = few-before gs
  given-few (b ∷ bs) gs = omega arith

  module _ (rows : List Row) (causes : List Cause) (c : Cause) where
    abbrev IsShown : Type 0
    IsShown = BreaksOver F (group_node F p keys aggregates s some h k) (table_with s rows causes) c

    abbrev the_table : Table
    the_table = given_groups F p keys aggregates s some h k (beside F p keys aggregates s some h k rows causes).broken (groups_over F p keys aggregates s some h k (beside F p keys aggregates s some h k rows causes).rows)

    abbrev the_groups : List Group
    the_groups = groups_over F p keys aggregates s some h k (beside F p keys aggregates s some h k rows causes).rows

    pub shown-by-keys : Contains (beside F p keys aggregates s some h k rows causes).broken c → IsShown
    shown-by-keys m = (the_table, inl (the_groups, IsPermutation-refl the_groups, refl), keys-break (beside F p keys aggregates s some h k rows causes).broken the_groups c m)

    pub shown-by-groups : Contains (group_causes the_groups) c → IsShown
    shown-by-groups m = (the_table, inl (the_groups, IsPermutation-refl the_groups, refl), groups-break (beside F p keys aggregates s some h k rows causes).broken the_groups c m)

    pub shown-by-lost : Contains (beside F p keys aggregates s some h k rows causes).lost c → IsShown
    shown-by-lost m =
        let lost = lost_causes F p.origin (group_by (group_step keys aggregates)) (table_with s rows causes ∷ []) the_table.rows in
        let there : Contains lost c = among-left (beside F p keys aggregates s some h k rows causes).lost _ c m in
        (no_rows the_table.schema lost, inr (the_table, (the_groups, IsPermutation-refl the_groups, refl), (λ e. none_in_nil c (subst (λ cs. Contains cs c) e there)), refl), there)

    shown-by-found : Contains (beside F p keys aggregates s some h k rows causes).broken c ⊎ Contains (beside F p keys aggregates s some h k rows causes).lost c → IsShown
    shown-by-found (inl m) = shown-by-keys m
    shown-by-found (inr m) = shown-by-lost m

  -- What is found over a morsel.
  module _ (front a rest : List Row) (causes : List Cause) (c : Cause) where
    abbrev all : List Row
    all = front ++ (a ++ rest)

    abbrev IsFoundOver : Type 0
    IsFoundOver = IsShownOver F (group_node F p keys aggregates s some h k) (table_with s (front ++ (a ++ rest)) causes) a c

    abbrev part : Zipped
    part = beside F p keys aggregates s some h k a []

    too-many : (n : ℕ) → n ≤ length a → (c ≡ rows_cause p.origin) × (max_rows < n) → IsFoundOver
    too-many n few x = let m = x.1 in inr (x.0, omega arith)

    in-group : (key : Row) → Contains (keys_of (length s) (beside F p keys aggregates s some h k a []).rows) key → Contains (flat_map column_causes (columns_over p.origin s (exprs_of aggregates) known (rows_of_key (length s) key (beside F p keys aggregates s some h k a []).rows) [])) c → IsFoundOver
    in-group key there m = by (clean-cases p.origin s (exprs_of keys) some h k (front ++ (a ++ rest)))
      where
        of-key : List Row → List Row
        of-key zs = rows_of_key (length s) key zs

        few : length (rows_of_key (length s) key (beside F p keys aggregates s some h k a []).rows) ≤ length a
        few = let x = few-of-key s key (beside F p keys aggregates s some h k a []).rows in let y = key-few p.origin s (exprs_of keys) some h k a [] in omega arith

        strict : (c ≡ strict_cause p.origin) ⊎ (c ≡ rows_cause p.origin) × (max_rows < length (rows_of_key (length s) key (beside F p keys aggregates s some h k a []).rows)) → faulty_rows p.origin s (exprs_of keys) some h k (front ++ (a ++ rest)) ≡ true → IsFoundOver
        strict (inl e) f = inl (shown-by-keys (front ++ (a ++ rest)) causes c (subst (Contains (beside F p keys aggregates s some h k (front ++ (a ++ rest)) causes).broken) (sym e) (faulty-key p.origin s (exprs_of keys) some h k (front ++ (a ++ rest)) causes f)))
        strict (inr x) f = too-many (length (rows_of_key (length s) key (beside F p keys aggregates s some h k a []).rows)) few x

        whole : AllClean p.origin s (exprs_of keys) some h k (front ++ (a ++ rest)) → IsFoundOver
        whole clean = found (causes-part p.origin s (exprs_of aggregates) known (of-key ms) (of-key zs) [] (key-among s ms zs among key) c m)
          where
            ms : List Row
            ms = (beside F p keys aggregates s some h k a []).rows

            zs : List Row
            zs = (beside F p keys aggregates s some h k (front ++ (a ++ rest)) causes).rows

            among : (x : Row) → Contains (beside F p keys aggregates s some h k a []).rows x → Contains (beside F p keys aggregates s some h k (front ++ (a ++ rest)) causes).rows x
            among x n =
                subst (λ rs. Contains rs x) (sym (keyed-rows p.origin s (exprs_of keys) some h k (front ++ (a ++ rest)) causes clean))
                (map-among (with_keys p.origin s (exprs_of keys)) a (front ++ (a ++ rest)) (part-among front a rest) x
                (subst (λ rs. Contains rs x) (keyed-rows p.origin s (exprs_of keys) some h k a [] (part-clean-of p.origin s (exprs_of keys) some h k a (front ++ (a ++ rest)) (part-among front a rest) clean)) n))

            found : Contains (flat_map column_causes (columns_over p.origin s (exprs_of aggregates) known (of-key zs) [])) c ⊎ (c ≡ rows_cause p.origin) × (max_rows < length (of-key ms)) → IsFoundOver
            found (inl x) =
                inl (shown-by-groups (front ++ (a ++ rest)) causes c
                (in-flat (λ (g : Group). g.causes) (groups_over F p keys aggregates s some h k zs) (group_of p.origin (exprs_of aggregates) s zs key) c
                (contains_map (group_of p.origin (exprs_of aggregates) s zs) key (keys_of (length s) zs) (keys-among s ms zs among key there)) x))
            found (inr x) = too-many (length (of-key ms)) few x

        by : (faulty_rows p.origin s (exprs_of keys) some h k (front ++ (a ++ rest)) ≡ true) ⊎ AllClean p.origin s (exprs_of keys) some h k (front ++ (a ++ rest)) → IsFoundOver
        by (inl f) = strict (causes-strict p.origin s (exprs_of aggregates) known (rows_of_key (length s) key (beside F p keys aggregates s some h k a []).rows) c m) f
        by (inr clean) = whole clean

    in-groups : (gs : List Group) → IsPermutation (groups_over F p keys aggregates s some h k (beside F p keys aggregates s some h k a []).rows) gs → Contains (group_causes gs) c → IsFoundOver
    in-groups gs order m =
        let g = out-flat (λ (g : Group). g.causes) gs c m in
        let all = groups_over F p keys aggregates s some h k (beside F p keys aggregates s some h k a []).rows in
        let there = Contains-permutation gs all g.0 (IsPermutation-sym all gs order) g.1 in
        let key = out-map (group_of p.origin (exprs_of aggregates) s (beside F p keys aggregates s some h k a []).rows) (keys_of (length s) (beside F p keys aggregates s some h k a []).rows) g.0 there in
        in-group key.0 key.1 (subst (λ (g : Group). Contains g.causes c) (sym key.2) g.2)

    few-groups : (gs : List Group) → IsPermutation (groups_over F p keys aggregates s some h k (beside F p keys aggregates s some h k a []).rows) gs → length gs ≤ length a
    few-groups gs order =
        let zs = (beside F p keys aggregates s some h k a []).rows in
        let x = length_permutation (groups_over F p keys aggregates s some h k zs) gs order in
        let y = length-map (keys_of (length s) zs) (group_of p.origin (exprs_of aggregates) s zs) in
        let w = few-keys s zs in
        let v = key-few p.origin s (exprs_of keys) some h k a [] in
        omega arith

    pub morsel-shows : IsBrokenOver F (group_node F p keys aggregates s some h k) (rows_table s a ∷ []) c → IsFoundOver
    morsel-shows (U, g, m) = by g m
      where
        found : Contains (beside F p keys aggregates s some h k a []).broken c ⊎ Contains (beside F p keys aggregates s some h k a []).lost c → IsFoundOver
        found x = inl (shown-by-found (front ++ (a ++ rest)) causes c (key-part p.origin s (exprs_of keys) some h k front a rest causes c x))

        either : (gs : List Group) → IsPermutation (groups_over F p keys aggregates s some h k (beside F p keys aggregates s some h k a []).rows) gs → Contains (beside F p keys aggregates s some h k a []).broken c ⊎ Contains (group_causes gs) c → IsFoundOver
        either gs order (inl x) = found (inl x)
        either gs order (inr x) = in-groups gs order x

        by : GivesBeforeCut F p.origin (group_by (group_step keys aggregates)) (table_with s a [] ∷ []) U → Contains U.broken c ⊎ (max_rows < length U.rows) × (c ≡ rows_fault (group_node F p keys aggregates s some h k)) → IsFoundOver
        by (inl (gs, order, u)) (inl x) = either gs order (split-broken (beside F p keys aggregates s some h k a []).broken gs c (subst (λ (t : Table). Contains t.broken c) u x))
        by (inl (gs, order, u)) (inr x) =
            let e = ap (λ (t : Table). length t.rows) u in
            let f = given-few (beside F p keys aggregates s some h k a []).broken gs in
            let l = few-groups gs order in
            too-many (length U.rows) (omega arith) (x.1, x.0)
        by (inr (V, v, lost, u)) (inl x) = found (inr (lost-of a V.rows [] c (subst (λ (t : Table). Contains t.broken c) u x)))
        by (inr (V, v, lost, u)) (inr x) = let e = ap (λ (t : Table). length t.rows) u in absurd (omega (arith, x.0))
