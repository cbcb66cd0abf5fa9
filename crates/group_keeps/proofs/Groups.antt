-- A group-by over a table with keys that are alike behind it.
use Rattle.std.proofs.Common.{◌≡◌, ◌≢◌, ◌⊎◌, inl, inr, ℕ, ◌<◌, Bool, true, false, cond, List, [], ◌∷◌, ◌++◌, length, None, refl, sym, ap, subst, ◌∙◌, arith}
use Rattle.std.specs.Prelude.{Any, Contains, flat_map, map, if◌then◌else◌}
use Rattle.std.specs.List.{AllByRecursion}
use Rattle.std.specs.List.Sorted.{IsPermutation}
use Rattle.std.proofs.lemmas.List.Sorted.{IsPermutation-refl, length_permutation}
use Rattle.ps_frame.specs.Aggregates.{max_rows}
use Rattle.ps_frame.specs.Causes.{Cause, Column, is_empty}
use Rattle.ps_frame.specs.Free.{free_causes}
use Rattle.ps_frame.specs.Functions.{Functions}
use Rattle.ps_frame.specs.Parts.{tree_parts}
use Rattle.ps_frame.specs.Tables.{Fields, Table, no_rows}
use Rattle.ps_frame.specs.Trees.{Tree}
use Rattle.ps_frame.specs.Zip.{Zipped}
use Rattle.ps_frame.specs.declared.value.Value.{Value}
use Rattle.ps_meaning.specs.Cases.{Case, GivesBeforeCut, Gives, IsCaseBrokenBy, if_whole, keyed, lost_causes, out_schema, with_group_causes}
use Rattle.ps_meaning.specs.Distinct.{places_in}
use Rattle.ps_meaning.specs.Groups.{Group, group_causes_lost, group_rows, groups, groups_table, keys_of}
use Rattle.ps_meaning.specs.Meaning.{HasLargeColumn, IsLargeCase}
use Rattle.ps_meaning.specs.Schemas.{names_of}
use Rattle.ps_meaning.specs.Steps.{GroupStep, Named, exprs_of, group_by}
use Rattle.ps_meaning.specs.Within.{EndAlike}
use Rattle.ps_meaning.proofs.Begins.{append-empty_left, append-empty_right}
use Rattle.ps_shares.specs.Kept.{all_causes}
use Rattle.ps_shares.specs.Leaves.{ReadsAll}
use Rattle.ps_shares.proofs.Ends.{has_either, has_first}
use Rattle.ps_shares.proofs.Members.{Has, from_has, to_has}
use Rattle.ps_shares.proofs.Stands.{HasKind}
use Rattle.ps_bundles.proofs.ExprEnds.{one_of}
use Rattle.ps_bundles.proofs.Gathered.{has_last}
use Rattle.ps_bundles.proofs.ZipEnds.{differ, is_none, some_is}
use Rattle.lowering_sizes.proofs.Nodes.{plain_modest, step_modest}
use Rattle.step_keeps.specs.Kept.{IsPlainReduction, SomeIsLarge}
use Rattle.picked_zips.proofs.Keyed.{keyed_wide}
use Rattle.keyed_calls.specs.Keyed.{IsLargeBy, KeyedAlike, MayEndAtOnce, row_by}
use Rattle.group_keeps.proofs.ReadNames.{part_reads}
use Rattle.group_keeps.proofs.Rows.{same_eval, same_group_columns, same_groups, same_keys}

-- a group-by in any order, without a slice
abbrev pub free_group : List Named → List Named → GroupStep
free_group keys aggs = record { keys = keys; aggregates = aggs; maintain_order = false; cut = None }

pub has_some : (xs : List Cause) (c : Cause) → Has xs c → xs ≢ []
has_some [] c h e = absurd h
has_some (x ∷ xs) c h e = cc

-- what is given where keys are broken by these, or not
abbrev pub as_given : Fields → List Cause → List Group → Table
as_given s b gs = if_whole s (with_group_causes b gs) (groups_table s gs)

pub given_schema : (s : Fields) (b : List Cause) (gs : List Group) → (as_given s b gs).schema ≡ s
given_schema s [] gs = refl
given_schema s (c ∷ b) gs = refl

-- the same groups end alike where both are broken, or none
given_alike : (s : Fields) (a b : List Cause) (gs : List Group) → is_empty a ≡ is_empty b → EndAlike (as_given s a gs) (as_given s b gs)
given_alike s [] [] gs e = record { same_schema = refl; same_rows = refl; both_whole = refl }
given_alike s [] (y ∷ b) gs e = absurd (differ e)
given_alike s (x ∷ a) [] gs e = absurd (differ (sym e))
given_alike s (x ∷ a) (y ∷ b) gs e = record { same_schema = refl; same_rows = refl; both_whole = refl }

-- a broken one has no rows
pub broken_ends : (s : Fields) (b : List Cause) (gs : List Group) → b ≢ [] → ((as_given s b gs).rows ≡ []) × (is_empty (as_given s b gs).broken ≡ false)
broken_ends s [] gs some = absurd (some refl)
broken_ends s (c ∷ b) gs some = (refl, refl)

-- which causes it has
pub given_causes : (s : Fields) (b : List Cause) (gs : List Group) (c : Cause) → Has (as_given s b gs).broken c → Has b c ⊎ Has (flat_map (λ (g : Group). g.causes) gs) c
given_causes s [] gs c h = inr h
given_causes s (x ∷ b) gs c h = has_either (x ∷ b) (flat_map (λ (g : Group). g.causes) gs) c h

own_cause : (s : Fields) (b : List Cause) (gs : List Group) (c : Cause) → Has b c → Has (as_given s b gs).broken c
own_cause s [] gs c h = absurd h
own_cause s (x ∷ b) gs c h = has_first (x ∷ b) (flat_map (λ (g : Group). g.causes) gs) c h

group_cause : (s : Fields) (b : List Cause) (gs : List Group) (c : Cause) → Has (flat_map (λ (g : Group). g.causes) gs) c → Has (as_given s b gs).broken c
group_cause s [] gs c h = h
group_cause s (x ∷ b) gs c h = has_last (x ∷ b) (flat_map (λ (g : Group). g.causes) gs) c h

none_of_none : (gs : List Group) → IsPermutation [] gs → gs ≡ []
none_of_none [] p = refl
none_of_none (g ∷ gs) p = let l = length_permutation [] (g ∷ gs) p in absurd (omega arith)

-- reductions have no parts that read nothing and stand in no aggregate
pub free_none : (at : ℕ) (es : List Tree) → AllByRecursion IsPlainReduction es → flat_map (free_causes at) es ≡ []
free_none at [] all = refl
free_none at (e ∷ es) all = let p = one e all.0 in let q = free_none at es all.1 in λ i. p i ++ q i
  where
    one : (e : Tree) → IsPlainReduction e → free_causes at e ≡ []
    one (Tree.aggregate a e) plain = refl
    one Tree.len plain = refl
    one (Tree.column name) plain = absurd plain
    one (Tree.literal l) plain = absurd plain
    one (Tree.binary o l r) plain = absurd plain
    one (Tree.cast k strict e) plain = absurd plain
    one (Tree.sort d n e) plain = absurd plain
    one (Tree.sort_by d n e by) plain = absurd plain
    one (Tree.gather s e i) plain = absurd plain
    one (Tree.filter e by) plain = absurd plain
    one (Tree.ternary p a b) plain = absurd plain
    one (Tree.function g e) plain = absurd plain
    one (Tree.slice e o l) plain = absurd plain
    one (Tree.left_out w) plain = absurd plain
    one Tree.missing plain = absurd plain

-- the schema of what is given
pub case_schema : (F : Functions) (at : ℕ) (keys aggs : List Named) (t : Table) (out : Fields) → out_schema F at (group_by (free_group keys aggs)) (t ∷ []) ≡ out → (U : Table) → Case F at (group_by (free_group keys aggs)) (t ∷ []) U → U.schema ≡ out
case_schema F at keys aggs t out is U (V, g, e) = ap (λ (T : Table). T.schema) e ∙ by V g
  where
    of_gives : (V : Table) → Gives F at (group_by (free_group keys aggs)) (t ∷ []) V → V.schema ≡ out
    of_gives V (gs, order, e) = ap (λ (T : Table). T.schema) e ∙ given_schema (out_schema F at (group_by (free_group keys aggs)) (t ∷ [])) (keyed at (exprs_of keys) t).broken gs ∙ is

    by : (V : Table) → GivesBeforeCut F at (group_by (free_group keys aggs)) (t ∷ []) V → V.schema ≡ out
    by V (inl g) = of_gives V g
    by V (inr (W, g, some, e)) = ap (λ (T : Table). T.schema) e ∙ of_gives W g

-- What a group-by gives over a table, and what breaks it.
module _ (F : Functions) (at : ℕ) (keys aggs : List Named) (t : Table) (out : Fields) (out_t : out_schema F at (group_by (free_group keys aggs)) (t ∷ []) ≡ out) where
  abbrev known : GroupStep
  known = free_group keys aggs

  abbrev b : Zipped
  b = keyed at (exprs_of keys) t

  abbrev es : List Tree
  es = exprs_of aggs

  -- a table that the group-by gives, in the order of its groups
  abbrev pub first_given : Table
  first_given = as_given (out_schema F at (group_by known) (t ∷ [])) b.broken (groups at es t.schema b.rows)

  pub gives_first : Gives F at (group_by known) (t ∷ []) first_given
  gives_first = (groups at es t.schema b.rows, IsPermutation-refl (groups at es t.schema b.rows), refl)

  abbrev lost_over : List (List Value) → List Cause
  lost_over rows = lost_causes F at (group_by known) (t ∷ []) rows

  -- what the table without rows that lost causes break is
  ended : (V : Table) → Gives F at (group_by known) (t ∷ []) V → lost_over V.rows ≢ [] → Case F at (group_by known) (t ∷ []) (no_rows V.schema (lost_over V.rows))
  ended V g some = (no_rows V.schema (lost_over V.rows), inr (V, g, some, refl), refl)

  of_gives : (V : Table) → Gives F at (group_by known) (t ∷ []) V → V.schema ≡ out
  of_gives V (gs, order, e) = ap (λ (T : Table). T.schema) e ∙ given_schema (out_schema F at (group_by known) (t ∷ [])) b.broken gs ∙ out_t

  -- any table without rows that something breaks
  abbrev pub EndsAtOnce : Type 0
  EndsAtOnce = (K : Table) × Case F at (group_by known) (t ∷ []) K × (K.schema ≡ out) × (K.rows ≡ []) × (is_empty K.broken ≡ false)

  pub ends_by_lost : (V : Table) → Gives F at (group_by known) (t ∷ []) V → lost_over V.rows ≢ [] → EndsAtOnce
  ends_by_lost V g some = (no_rows V.schema (lost_over V.rows), ended V g some, of_gives V g, refl, some_is (lost_over V.rows) some)

  pub by_lost : b.lost ≢ [] → EndsAtOnce
  by_lost some = ends_by_lost first_given gives_first (λ e. some (append-empty_left b.lost _ e))

  by_broken : b.broken ≢ [] → EndsAtOnce
  by_broken some =
      let e = broken_ends (out_schema F at (group_by known) (t ∷ [])) b.broken (groups at es t.schema b.rows) some in
      (first_given, (first_given, inl gives_first, refl), of_gives first_given gives_first, e.0, e.1)

  may_end : MayEndAtOnce b → EndsAtOnce
  may_end (inl (rows, broken)) = by_broken broken
  may_end (inr lost) = by_lost lost

  abbrev pub AlikeTo : Table → Type 0
  AlikeTo U = (K : Table) × Case F at (group_by known) (t ∷ []) K × EndAlike U K

  pub at_once : (U : Table) → U.schema ≡ out → U.rows ≡ [] → is_empty U.broken ≡ false → EndsAtOnce → AlikeTo U
  at_once U s r q (K, case, s', r', q') = (K, case, record { same_schema = s ∙ sym s'; same_rows = r ∙ sym r'; both_whole = q ∙ sym q' })

  -- what breaks it: causes of the keys, lost ones, and those of groups
  pub lost_breaks : (V : Table) → Gives F at (group_by known) (t ∷ []) V → (c : Cause) → Has (lost_over V.rows) c → IsCaseBrokenBy F at (group_by known) (t ∷ []) c
  lost_breaks V g c h = (no_rows V.schema (lost_over V.rows), inr (inr (V, g, has_some (lost_over V.rows) c h, refl)), from_has (lost_over V.rows) c h)

  pub group_breaks : (gs : List Group) → IsPermutation (groups at es t.schema b.rows) gs → (c : Cause) → Has (flat_map (λ (g : Group). g.causes) gs) c → IsCaseBrokenBy F at (group_by known) (t ∷ []) c
  group_breaks gs order c h =
      let s = out_schema F at (group_by known) (t ∷ []) in
      let T : Table = as_given s b.broken gs in
      (T, inr (inl (gs, order, refl)), from_has T.broken c (group_cause s b.broken gs c h))

  pub own_breaks : (c : Cause) → Has b.broken c ⊎ Has b.lost c → IsCaseBrokenBy F at (group_by known) (t ∷ []) c
  own_breaks c (inl h) = (first_given, inr (inl gives_first), from_has first_given.broken c (own_cause (out_schema F at (group_by known) (t ∷ [])) b.broken (groups at es t.schema b.rows) c h))
  own_breaks c (inr h) = lost_breaks first_given gives_first c (has_first b.lost _ c h)

  pub shown_breaks : (c : Cause) → Contains (all_causes b) c → IsCaseBrokenBy F at (group_by known) (t ∷ []) c
  shown_breaks c h = own_breaks c (has_either b.broken b.lost c (to_has (all_causes b) c h))

  -- what is large
  abbrev pub Large : Type 0
  Large = IsLargeCase F at (group_by known) (t ∷ []) ⊎ SomeIsLarge (t ∷ [])

  pub to_large : IsLargeBy at (exprs_of keys) t → Large
  to_large (inl l) = inl (inl (inl l))
  to_large (inr l) = inr (inl l)

  -- Keys that are alike behind another table; the aggregates read columns of it, and each is a reduction.
  module _ (news : List Named) (z : Table) (count : length (exprs_of news) ≡ length (exprs_of keys)) (alike : KeyedAlike at (names_of t.schema) (exprs_of keys) (exprs_of news) t z) (plain : AllByRecursion IsPlainReduction (exprs_of aggs))
      (reads : AllByRecursion (ReadsAll (HasKind t.schema)) (exprs_of aggs)) (out_z : out_schema F at (group_by (free_group news aggs)) (z ∷ []) ≡ out) where
    abbrev given : GroupStep
    given = free_group news aggs

    abbrev a : Zipped
    a = keyed at (exprs_of news) z

    abbrev SameRows : Type 0
    SameRows = map (row_by (places_in (names_of t.schema) z.schema) (length z.schema) (exprs_of news)) a.rows ≡ map (row_by (places_in (names_of t.schema) t.schema) (length t.schema) (exprs_of keys)) b.rows

    module _ (rows : SameRows) where
      all_groups : groups at es z.schema a.rows ≡ groups at es t.schema b.rows
      all_groups = same_groups t.schema z.schema (exprs_of keys) (exprs_of news) count alike.named alike.same_kinds b.rows a.rows (keyed_wide at t (exprs_of keys)) (keyed_wide at z (exprs_of news)) rows at es reads

      all_keys : keys_of (length z.schema) a.rows ≡ keys_of (length t.schema) b.rows
      all_keys = same_keys t.schema z.schema (exprs_of keys) (exprs_of news) count alike.named alike.same_kinds b.rows a.rows (keyed_wide at t (exprs_of keys)) (keyed_wide at z (exprs_of news)) rows

      all_lost : group_causes_lost at es z.schema a.rows ≡ group_causes_lost at es t.schema b.rows
      all_lost =
          λ i. flat_map (λ key. flat_map (λ (c : Column). c.lost) (same_group_columns t.schema z.schema (exprs_of keys) (exprs_of news) count alike.named alike.same_kinds b.rows a.rows (keyed_wide at t (exprs_of keys)) (keyed_wide at z (exprs_of news)) rows at es reads key i)) (all_keys i)

    -- where rows are alike, a table of the one is one of the other
    same_given : SameRows → is_empty a.broken ≡ is_empty b.broken → (V : Table) → Gives F at (group_by given) (z ∷ []) V → (K : Table) × Gives F at (group_by known) (t ∷ []) K × EndAlike V K
    same_given rows whole V (gs, order, e) =
        let s = out_schema F at (group_by known) (t ∷ []) in
        let k = given_alike s a.broken b.broken gs whole in
        let is : V ≡ as_given s a.broken gs = e ∙ ap (λ s. as_given s a.broken gs) (out_z ∙ sym out_t) in
        (as_given s b.broken gs, (gs, subst (λ hs. IsPermutation hs gs) (all_groups rows) order, refl), subst (λ (T : Table). EndAlike T (as_given s b.broken gs)) (sym is) k)

    -- the lost causes, and whose they are
    abbrev given_lost : List (List Value) → List Cause
    given_lost rows = lost_causes F at (group_by given) (z ∷ []) rows

    abbrev rest_of : Zipped → Fields → List (List Value) → List Cause
    rest_of y s rows = (if is_empty y.broken then group_causes_lost at es s y.rows else []) ++ (if is_empty rows then flat_map (free_causes at) es else [])

    same_rest : SameRows → is_empty a.broken ≡ is_empty b.broken → (rows rows' : List (List Value)) → rows ≡ rows' → rest_of a z.schema rows ≡ rest_of b t.schema rows'
    same_rest rows whole r r' e = λ i. (if whole i then all_lost rows i else []) ++ (if is_empty (e i) then flat_map (free_causes at) es else [])

    -- over keys that end before a row nothing else is lost
    no_rest : a.rows ≡ [] → a.broken ≢ [] → (rows : List (List Value)) → rest_of a z.schema rows ≡ []
    no_rest none some rows =
        let broken : is_empty a.broken ≡ false = some_is a.broken some in
        let free = free_none at es plain in
        (λ i. (if broken i then group_causes_lost at es z.schema a.rows else []) ++ (if is_empty rows then free i else [])) ∙ if_none (is_empty rows)
      where
        if_none : (q : Bool) → cond {A = List Cause} q [] [] ≡ []
        if_none true = refl
        if_none false = refl

    before_alike : (U : Table) → GivesBeforeCut F at (group_by given) (z ∷ []) U → AlikeTo U
    before_alike U (inl (gs, order, e)) = by alike.ends
      where
        by : (SameRows × (is_empty a.broken ≡ is_empty b.broken)) ⊎ ((a.rows ≡ []) × (a.broken ≢ []) × (b.lost ≢ [])) → AlikeTo U
        by (inl (rows, whole)) = let k = same_given rows whole U (gs, order, e) in (k.0, (k.0, inl k.1, refl), k.2)
        by (inr (none, broken, lost)) =
            let s = out_schema F at (group_by given) (z ∷ []) in
            let w = broken_ends s a.broken gs broken in
            at_once U (ap (λ (T : Table). T.schema) e ∙ given_schema s a.broken gs ∙ out_z) (ap (λ (T : Table). T.rows) e ∙ w.0) (ap (λ (T : Table). is_empty T.broken) e ∙ w.1) (by_lost lost)
    before_alike U (inr (V, g, some, e)) = by alike.ends (is_empty a.lost) refl
      where
        schema_of : (V : Table) → Gives F at (group_by given) (z ∷ []) V → V.schema ≡ out
        schema_of V (gs, order, e) = ap (λ (T : Table). T.schema) e ∙ given_schema (out_schema F at (group_by given) (z ∷ [])) a.broken gs ∙ out_z

        now : EndsAtOnce → AlikeTo U
        now k = at_once U (ap (λ (T : Table). T.schema) e ∙ schema_of V g) (ap (λ (T : Table). T.rows) e) (ap (λ (T : Table). is_empty T.broken) e ∙ some_is (given_lost V.rows) some) k

        by : (SameRows × (is_empty a.broken ≡ is_empty b.broken)) ⊎ ((a.rows ≡ []) × (a.broken ≢ []) × (b.lost ≢ [])) → (q : Bool) → is_empty a.lost ≡ q → AlikeTo U
        by (inr (none, broken, lost)) q h = now (by_lost lost)
        by (inl (rows, whole)) false h = now (may_end (alike.lost (λ e. differ (sym (ap is_empty e) ∙ h))))
        by (inl (rows, whole)) true h =
            let k = same_given rows whole V g in
            let none = is_none a.lost h in
            let rest : rest_of a z.schema V.rows ≢ [] = λ e. some (λ i. none i ++ e i) in
            let more : lost_over k.0.rows ≢ [] = λ e. rest (same_rest rows whole V.rows k.0.rows k.2.same_rows ∙ append-empty_right b.lost (rest_of b t.schema k.0.rows) e) in
            now (no_rows k.0.schema (lost_over k.0.rows), ended k.0 k.1 more, of_gives k.0 k.1, refl, some_is (lost_over k.0.rows) more)

    pub case_alike : (U : Table) → Case F at (group_by given) (z ∷ []) U → AlikeTo U
    case_alike U (V, g, e) = subst AlikeTo (sym e) (before_alike V g)

    -- causes
    key_breaks : (c : Cause) → Has (all_causes a) c → IsCaseBrokenBy F at (group_by known) (t ∷ []) c
    key_breaks c h = own_breaks c (has_either b.broken b.lost c (to_has (all_causes b) c (alike.causes c (from_has (all_causes a) c h))))

    before_breaks : (U : Table) (c : Cause) → GivesBeforeCut F at (group_by given) (z ∷ []) U → Has U.broken c → IsCaseBrokenBy F at (group_by known) (t ∷ []) c
    before_breaks U c (inl (gs, order, e)) h = by (given_causes (out_schema F at (group_by given) (z ∷ [])) a.broken gs c (subst (λ (T : Table). Has T.broken c) e h))
      where
        of_groups : (SameRows × (is_empty a.broken ≡ is_empty b.broken)) ⊎ ((a.rows ≡ []) × (a.broken ≢ []) × (b.lost ≢ [])) → Has (flat_map (λ (g : Group). g.causes) gs) c → IsCaseBrokenBy F at (group_by known) (t ∷ []) c
        of_groups (inl (rows, whole)) k = group_breaks gs (subst (λ hs. IsPermutation hs gs) (all_groups rows) order) c k
        of_groups (inr (none, broken, lost)) k =
            let no = none_of_none gs (subst (λ (rows : List (List Value)). IsPermutation (groups at es z.schema rows) gs) none order) in
            absurd (subst (λ (gs : List Group). Has (flat_map (λ (g : Group). g.causes) gs) c) no k)

        by : Has a.broken c ⊎ Has (flat_map (λ (g : Group). g.causes) gs) c → IsCaseBrokenBy F at (group_by known) (t ∷ []) c
        by (inl k) = key_breaks c (has_first a.broken a.lost c k)
        by (inr k) = of_groups alike.ends k
    before_breaks U c (inr (V, g, some, e)) h = by (has_either a.lost (rest_of a z.schema V.rows) c (subst (λ (T : Table). Has T.broken c) e h))
      where
        of_rest : (SameRows × (is_empty a.broken ≡ is_empty b.broken)) ⊎ ((a.rows ≡ []) × (a.broken ≢ []) × (b.lost ≢ [])) → Has (rest_of a z.schema V.rows) c → IsCaseBrokenBy F at (group_by known) (t ∷ []) c
        of_rest (inl (rows, whole)) k =
            let n = same_given rows whole V g in
            lost_breaks n.0 n.1 c (has_last b.lost (rest_of b t.schema n.0.rows) c (subst (λ (cs : List Cause). Has cs c) (same_rest rows whole V.rows n.0.rows n.2.same_rows) k))
        of_rest (inr (none, broken, lost)) k = absurd (subst (λ (cs : List Cause). Has cs c) (no_rest none broken V.rows) k)

        by : Has a.lost c ⊎ Has (rest_of a z.schema V.rows) c → IsCaseBrokenBy F at (group_by known) (t ∷ []) c
        by (inl k) = key_breaks c (has_last a.broken a.lost c k)
        by (inr k) = of_rest alike.ends k

    pub same_causes : (c : Cause) → IsCaseBrokenBy F at (group_by given) (z ∷ []) c → IsCaseBrokenBy F at (group_by known) (t ∷ []) c
    same_causes c (U, inl (V, g, e), h) = before_breaks V c g (to_has V.broken c (subst (λ (T : Table). Contains T.broken c) e h))
    same_causes c (U, inr g, h) = before_breaks U c g (to_has U.broken c h)

    -- sizes
    large_group : (rows : SameRows) (key : List Value) → HasLargeColumn at es (group_rows z.schema a.rows key) → HasLargeColumn at es (group_rows t.schema b.rows key)
    large_group rows key (e, p, there, part, long) =
        let same = same_eval t.schema z.schema (exprs_of keys) (exprs_of news) count alike.named alike.same_kinds b.rows a.rows (keyed_wide at t (exprs_of keys)) (keyed_wide at z (exprs_of news)) rows key at p (part_reads (HasKind t.schema) p e (one_of (ReadsAll (HasKind t.schema)) es e reads (to_has es e there)) (to_has (tree_parts e) p part)) in
        (e, p, there, part, subst (λ (c : Column). max_rows < length c.cells) same long)

    any_large : (rows : SameRows) (ks : List (List Value)) → Any (λ key. HasLargeColumn at es (group_rows z.schema a.rows key)) ks → Any (λ key. HasLargeColumn at es (group_rows t.schema b.rows key)) ks
    any_large rows ks (i, key, within, is, l) = (i, key, within, is, large_group rows key l)

    pub same_sizes : IsLargeCase F at (group_by given) (z ∷ []) ⊎ SomeIsLarge (z ∷ []) → Large
    same_sizes (inr (inl long)) = to_large (alike.small long)
    same_sizes (inr (inr l)) = absurd l
    same_sizes (inl (inl (inl l))) = step_modest Large at z (exprs_of news) (plain_modest Large at z (λ long. to_large (alike.small long)) (exprs_of news) alike.elementwise) l
    same_sizes (inl (inr (U, g, long))) = let k = before_alike U g in by k.0 k.1 k.2
      where
        by : (K : Table) → Case F at (group_by known) (t ∷ []) K → EndAlike U K → Large
        by K (V, h, e) same = inl (inr (V, h, subst (λ (rows : List (List Value)). max_rows < length rows) (same.same_rows ∙ ap (λ (T : Table). T.rows) e) long))
    same_sizes (inl (inl (inr l))) = by alike.ends
      where
        by : (SameRows × (is_empty a.broken ≡ is_empty b.broken)) ⊎ ((a.rows ≡ []) × (a.broken ≢ []) × (b.lost ≢ [])) → Large
        by (inl (rows, whole)) = inl (inl (inr (subst (λ (ks : List (List Value)). Any (λ key. HasLargeColumn at es (group_rows t.schema b.rows key)) ks) (all_keys rows) (any_large rows (keys_of (length z.schema) a.rows) l))))
        by (inr (none, broken, lost)) = absurd (no_keys (subst (λ (rows : List (List Value)). Any (λ key. HasLargeColumn at es (group_rows z.schema a.rows key)) (keys_of (length z.schema) rows)) none l))
          where
            no_keys : Any (λ key. HasLargeColumn at es (group_rows z.schema a.rows key)) [] → ⊥
            no_keys (i, key, within, is, k) = absurd (omega arith)
