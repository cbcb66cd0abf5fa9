-- The select of what stands above the reductions, over their table, ends as the group-by of the whole aggregates.
use Rattle.std.proofs.Common.{◌≡◌, ◌≢◌, ◌⊎◌, inl, inr, ℕ, ◌<◌, Bool, true, false, not, List, [], ◌∷◌, ◌++◌, length, refl, sym, ap, subst, ◌∙◌}
use Rattle.std.proofs.lemmas.List.{map-append}
use Rattle.std.specs.Prelude.{Contains, IsTrue, flat_map, map, ◌&&◌}
use Rattle.std.specs.List.{AllByRecursion, list_all, list_any}
use Rattle.std.specs.List.Sorted.{IsPermutation}
use Rattle.ps_frame.specs.Aggregates.{max_rows}
use Rattle.ps_frame.specs.Causes.{Cause, Cell, cell_causes, is_empty}
use Rattle.ps_frame.specs.Eval.{eval}
use Rattle.ps_frame.specs.Free.{free_causes}
use Rattle.ps_frame.specs.Functions.{Functions}
use Rattle.ps_frame.specs.Tables.{Fields, Table, field_index, values_at_some}
use Rattle.ps_frame.specs.Trees.{Tree}
use Rattle.ps_frame.specs.Typing.{is_elementwise, is_independent}
use Rattle.ps_frame.specs.Zip.{Zipped, is_faulty_row, row_causes, rows_before_fault, zipped}
use Rattle.ps_frame.specs.declared.value.Value.{Value}
use Rattle.ps_meaning.specs.Cases.{Case, GivesBeforeCut, IsCaseBrokenBy, columns_at, keyed, lost_causes, out_schema, table_of}
use Rattle.ps_meaning.specs.Meaning.{IsLargeCase}
use Rattle.ps_meaning.specs.Schemas.{expr_names}
use Rattle.ps_meaning.specs.Steps.{Name, Named, Step, exprs_of, group_by, select}
use Rattle.ps_meaning.specs.Within.{EndAlike}
use Rattle.ps_rowwise.specs.Rows.{HasKind}
use Rattle.ps_rowwise.proofs.ByRow.{both, cell_for}
use Rattle.ps_rules.specs.Slots.{columns_named}
use Rattle.ps_shares.specs.Kept.{all_causes}
use Rattle.ps_shares.proofs.Causes.{Known, up_zip}
use Rattle.ps_shares.proofs.Ends.{has_first}
use Rattle.ps_shares.proofs.Members.{Has, from_has, to_has}
use Rattle.ps_bundles.proofs.ExprEnds.{from_each, one_of}
use Rattle.ps_bundles.proofs.Gathered.{has_last}
use Rattle.ps_bundles.proofs.ZipEnds.{some_is}
use Rattle.lowering_sizes.proofs.Nodes.{AreModest, plain_modest, select_rows, step_modest}
use Rattle.plan_rules.specs.Groups.{own_columns}
use Rattle.plan_rules.specs.Reductions.{is_made_of_reductions}
use Rattle.step_keeps.specs.Kept.{SomeIsLarge}
use Rattle.picked_zips.proofs.Members.{has_flat, has_map}
use Rattle.rule_parts.proofs.Grouped.{own_exprs}
use Rattle.rule_parts.proofs.Picks.{all_last}
use Rattle.reductions_keep.proofs.Above.{all_by_cells, each_passes}
use Rattle.reductions_keep.proofs.Parts.{AreApart}
use Rattle.reductions_keep.proofs.Shown.{Shown, known_weaker, shows, values_clean}
use Rattle.reductions_keep.proofs.Zips.{fits, zip_lost, zip_rows_are, zip_whole}
use Rattle.group_keeps.proofs.Groups.{EndsAtOnce, at_once, ends_by_lost, first_given, free_group, given_schema, gives_first, has_some}
use Rattle.aggregates_keep.proofs.Sides.{AreTakenApart, Breaks, IsGiven, IsLost, Large, all_meet, before_is, case_is, case_large, cells, first_of, first_step, free_breaks, gives_whole, ks, lost_free, lost_here, row_breaks, rows_alike, shown_exprs, whole_alike, whole_of, whole_step}

-- what is selected
abbrev pub shown_of : List Named → List Named → List Named
shown_of keys xs = own_columns (expr_names keys) ++ xs

-- members
a_member : (xs : List Cause) → xs ≢ [] → (c : Cause) × Has xs c
a_member [] some = absurd (some refl)
a_member (x ∷ xs) some = (x, inl refl)

no_row : (rows : List (List Value)) (lost : List Cause) → (rows ≢ [] → lost ≡ []) → lost ≢ [] → rows ≡ []
no_row [] lost none some = refl
no_row (r ∷ rows) lost none some = absurd (some (none (λ e. let w : r ∷ rows ≡ [] = e in cc)))

-- key columns in front
by_cells : (ns : List Name) (es : List Tree) → list_all is_elementwise es ≡ true → list_all is_elementwise (columns_named ns ++ es) ≡ true
by_cells [] es all = all
by_cells (n ∷ ns) es all = by_cells ns es all

some_reads : (keys : List Named) (es : List Tree) → keys ≢ [] → list_all is_independent (columns_named (expr_names keys) ++ es) ≡ false
some_reads [] es some = absurd (some refl)
some_reads (k ∷ keys) es some = refl

module _ (F : Functions) (at : ℕ) (keys aggs rs xs : List Named) (h out : Fields) (a : AreTakenApart keys aggs rs xs h) (t : Table) (out_all : out_schema F at (group_by (free_group keys aggs)) (t ∷ []) ≡ out) where
  abbrev pub last_step : Step
  last_step = select (shown_of keys xs)

  abbrev es : List Tree
  es = shown_exprs keys xs

  es_are : exprs_of (shown_of keys xs) ≡ es
  es_are = map-append (λ (e : Named). e.1) (own_columns (expr_names keys)) xs ∙ ap (λ (es : List Tree). es ++ exprs_of xs) (own_exprs (expr_names keys))

  es_by_cells : list_all is_elementwise es ≡ true
  es_by_cells = by_cells (expr_names keys) (exprs_of xs) (all_by_cells rs aggs xs a.made a.apart)

  each_by_cells : AllByRecursion (λ (e : Tree). IsTrue (is_elementwise e)) es
  each_by_cells = each_passes is_elementwise es es_by_cells

  reads : list_all is_independent es ≡ false
  reads = some_reads keys (exprs_of xs) a.some_key

  abbrev Ends : Type 0
  Ends = EndsAtOnce F at keys aggs t out out_all

  abbrev Alike : Table → Type 0
  Alike U = (K : Table) × Case F at (whole_step F at keys aggs rs xs h out a t out_all) (t ∷ []) K × EndAlike U K

  abbrev Breaking : Cause → Type 0
  Breaking c = Breaks F at keys aggs rs xs h out a t out_all c

  abbrev IsMany : Type 0
  IsMany = Large F at keys aggs rs xs h out a t out_all

  abbrev first : Step
  first = first_step F at keys aggs rs xs h out a t out_all

  abbrev whole : Step
  whole = whole_step F at keys aggs rs xs h out a t out_all

  abbrev Given : Table → Type 0
  Given L = IsGiven F at keys aggs rs xs h out a t out_all L

  abbrev Lost : Table → Type 0
  Lost L = IsLost F at keys aggs rs xs h out a t out_all L

  abbrev Orders : List (List Value) → Type 0
  Orders js = IsPermutation (ks F at keys aggs rs xs h out a t out_all) js

  abbrev below : List (List Value) → Table
  below js = first_of F at keys aggs rs xs h out a t out_all js

  abbrev above : List (List Value) → Table
  above js = whole_of F at keys aggs rs xs h out a t out_all js

  abbrev over : List Value → List Cell
  over row = cells F at keys aggs rs xs h out a t out_all row

  -- lost causes of the reductions end the whole at once
  lost_ends : (V : Table) → lost_causes F at first (t ∷ []) V.rows ≢ [] → Ends
  lost_ends V some =
      let c = a_member (lost_causes F at first (t ∷ []) V.rows) some in
      let all = first_given F at keys aggs t out out_all in
      ends_by_lost F at keys aggs t out out_all all (gives_first F at keys aggs t out out_all) (has_some (lost_causes F at whole (t ∷ []) all.rows) c.0 (lost_here F at keys aggs rs xs h out a t out_all V.rows all.rows c.0 c.1))

  above_schema : (js : List (List Value)) → (above js).schema ≡ out
  above_schema js = given_schema (out_schema F at whole (t ∷ [])) (keyed at (exprs_of keys) t).broken _ ∙ out_all

  -- over a table of reductions
  module _ (out_shown : (P : Table) → P.schema ≡ h → out_schema F at (select (shown_of keys xs)) (P ∷ []) ≡ out) (rows : List (List Value)) (broken : List Cause) where
    abbrev P : Table
    P = record { schema = h; rows = rows; broken = broken }

    abbrev zP : Zipped
    zP = zipped false at (columns_at at (exprs_of (shown_of keys xs)) P)

    zP_is : zP ≡ zipped false at (columns_at at es P)
    zP_is = ap (λ (es : List Tree). zipped false at (columns_at at es P)) es_are

    zP_rows : zP.rows ≡ rows_before_fault (map over rows)
    zP_rows = ap (λ (z : Zipped). z.rows) zP_is ∙ zip_rows_are at P es each_by_cells a.kinds reads

    zP_whole : is_empty zP.broken ≡ (is_empty broken && not (list_any is_faulty_row (map over rows)))
    zP_whole = ap (λ (z : Zipped). is_empty z.broken) zP_is ∙ zip_whole at P es each_by_cells a.kinds reads

    zP_lost : rows ≢ [] → zP.lost ≡ []
    zP_lost some = ap (λ (z : Zipped). z.lost) zP_is ∙ zip_lost at P es each_by_cells a.kinds reads some

    zP_none : rows ≡ [] → zP.rows ≡ []
    zP_none none = zP_rows ∙ ap (λ (rows : List (List Value)). rows_before_fault (map over rows)) none

    zP_ended : is_empty broken ≡ false → is_empty zP.broken ≡ false
    zP_ended e = zP_whole ∙ ap (λ (b : Bool). b && not (list_any is_faulty_row (map over rows))) e

    abbrev shown_table : Table
    shown_table = table_of (out_schema F at last_step (P ∷ [])) (λ (rows : List (List Value)). rows) zP

    alike_given : (js : List (List Value)) → Orders js → EndAlike P (below js) → EndAlike shown_table (above js)
    alike_given js p k =
        let met = all_meet F at keys aggs rs xs h out a t out_all js p in
        record {
          same_schema = out_shown P refl ∙ sym (above_schema js);
          same_rows = zP_rows ∙ ap (λ (rows : List (List Value)). rows_before_fault (map over rows)) k.same_rows ∙ rows_alike F at keys aggs rs xs h out a t out_all js met;
          both_whole = zP_whole ∙ (λ i. k.both_whole i && not (list_any is_faulty_row (map over (k.same_rows i)))) ∙ whole_alike F at keys aggs rs xs h out a t out_all js met;
        }

    -- what it shows: what broke the table, a part that reads no row, or a cell over a row
    abbrev ShownBy : Cause → Type 0
    ShownBy c = Has broken c ⊎ (Has (flat_map (free_causes at) (exprs_of aggs)) c ⊎ ((row : List Value) × Has rows row × Has (row_causes (over row)) c))

    abbrev AllKnown : List Tree → Type 0
    AllKnown es = AllByRecursion (Known ShownBy) (columns_at at es P)

    keys_known : (ns : List Name) (more : List Tree) → AllKnown more → AllKnown (columns_named ns ++ more)
    keys_known [] more known = known
    keys_known (n ∷ ns) more known = ((values_clean ShownBy (values_at_some (field_index n h) rows), from_each ShownBy broken (λ c k. inl k), tt), keys_known ns more known)

    one_known : (e x : Tree) → Has (exprs_of aggs) e → Has es x → Known (Shown at P rs e x) (eval at P x) → Known ShownBy (eval at P x)
    one_known e x there shown known = known_weaker (Shown at P rs e x) ShownBy up (eval at P x) known
      where
        up : (c : Cause) → Shown at P rs e x c → ShownBy c
        up c (inl k) = inl k
        up c (inr (inl k)) = inr (inl (has_flat (free_causes at) (exprs_of aggs) e c there k))
        up c (inr (inr (row, within, k))) = inr (inr (row, within, has_flat cell_causes (over row) (cell_for at h x row) c (has_map (λ (e : Tree). cell_for at h e row) es x shown) k))

    all_known : (as' bs : List Named) → ((e : Tree) → Has (exprs_of as') e → Has (exprs_of aggs) e) → ((x : Tree) → Has (exprs_of bs) x → Has es x) → list_all is_made_of_reductions (exprs_of as') ≡ true → AreApart rs as' bs
        → AllByRecursion (λ (e : Tree). IsTrue (is_elementwise e)) (exprs_of bs) → AllByRecursion (HasKind h) (exprs_of bs) → AllKnown (exprs_of bs)
    all_known [] [] inside shown made apart plain kinds = tt
    all_known [] (b ∷ bs) inside shown made apart plain kinds = absurd apart
    all_known (e ∷ as') [] inside shown made apart plain kinds = absurd apart
    all_known (e ∷ as') (b ∷ bs) inside shown made apart plain kinds =
        let m = both (is_made_of_reductions e.1) (list_all is_made_of_reductions (exprs_of as')) made in (
          one_known e.1 b.1 (inside e.1 (inl refl)) (shown b.1 (inl refl)) (shows at P rs e.1 b.1 m.0 apart.1 plain.0 kinds.0),
          all_known as' bs (λ e k. inside e (inr k)) (λ x k. shown x (inr k)) m.1 apart.2 plain.1 kinds.1,
        )

    es_known : AllKnown es
    es_known =
        let names = columns_named (expr_names keys) in
        keys_known (expr_names keys) (exprs_of xs)
        (all_known aggs xs (λ e k. k) (λ x k. has_last names (exprs_of xs) x k) a.made a.apart (all_last (λ (e : Tree). IsTrue (is_elementwise e)) names (exprs_of xs) each_by_cells) (all_last (HasKind h) names (exprs_of xs) a.kinds))

    shown_by : (c : Cause) → Has (all_causes zP) c → ShownBy c
    shown_by c k =
        one_of ShownBy (all_causes (zipped false at (columns_at at es P))) c (up_zip ShownBy at (columns_at at es P) es_known (fits at P es each_by_cells a.kinds reads)) (subst (λ (z : Zipped). Has (all_causes z) c) zP_is k)

    -- The table.
    some_broken : (xs : List Cause) (c : Cause) → Has xs c → is_empty xs ≡ false
    some_broken xs c k = some_is xs (has_some xs c k)

    lost_shown : (js : List (List Value)) → Orders js → EndAlike P (below js) → zP.lost ≢ [] → Ends
    lost_shown js p k some = let c = a_member zP.lost some in by c.0 (shown_by c.0 (has_last zP.broken zP.lost c.0 c.1))
      where
        none : rows ≡ []
        none = no_row rows zP.lost zP_lost some

        alike : EndAlike shown_table (above js)
        alike = alike_given js p k

        no_rows_above : (above js).rows ≡ []
        no_rows_above = sym alike.same_rows ∙ zP_none none

        by : (c : Cause) → ShownBy c → Ends
        by c (inl own) =
            (above js, (above js, inl (gives_whole F at keys aggs rs xs h out a t out_all js p), refl), above_schema js, no_rows_above, sym alike.both_whole ∙ zP_ended (some_broken broken c own))
        by c (inr (inl free)) =
            ends_by_lost F at keys aggs t out out_all (above js) (gives_whole F at keys aggs rs xs h out a t out_all js p) (has_some (lost_causes F at whole (t ∷ []) (above js).rows) c (lost_free F at keys aggs rs xs h out a t out_all (above js).rows no_rows_above c free))
        by c (inr (inr (row, there, q))) = absurd (subst (λ (rows : List (List Value)). Has rows row) none there)

    pub table : (L M : Table) → Case F at first (t ∷ []) L → EndAlike P L → Case F at last_step (P ∷ []) M → Alike M
    table L M l k (U, g, e) = subst Alike (sym e) (by (before_is F at keys aggs rs xs h out a t out_all L (case_is F at keys aggs rs xs h out a t out_all L l)) g)
      where
        -- M is the table that is shown, or lost causes break it
        now : is_empty U.broken ≡ false → U.rows ≡ [] → U.schema ≡ out → Ends → Alike U
        now ended none schema k = at_once F at keys aggs t out out_all U schema none ended k

        by : Given L ⊎ Lost L → GivesBeforeCut F at last_step (P ∷ []) U → Alike U
        by (inl (js, p, q)) (inl u) =
            subst Alike (sym u) (above js, (above js, inl (gives_whole F at keys aggs rs xs h out a t out_all js p), refl), alike_given js p (subst (EndAlike P) q k))
        by (inl (js, p, q)) (inr (V, v, some, u)) =
            now (ap (λ (T : Table). is_empty T.broken) u ∙ some_is zP.lost some) (ap (λ (T : Table). T.rows) u) (ap (λ (T : Table). T.schema) u ∙ ap (λ (T : Table). T.schema) v ∙ out_shown P refl) (lost_shown js p (subst (EndAlike P) q k) some)
        by (inr (V, g, some, q)) (inl u) =
            let none = k.same_rows ∙ ap (λ (T : Table). T.rows) q in
            let ended = k.both_whole ∙ ap (λ (T : Table). is_empty T.broken) q ∙ some_is (lost_causes F at first (t ∷ []) V.rows) some in
            now (ap (λ (T : Table). is_empty T.broken) u ∙ zP_ended ended) (ap (λ (T : Table). T.rows) u ∙ zP_none none) (ap (λ (T : Table). T.schema) u ∙ out_shown P refl) (lost_ends V some)
        by (inr (V, g, some, q)) (inr (W, w, more, u)) =
            now (ap (λ (T : Table). is_empty T.broken) u ∙ some_is zP.lost more) (ap (λ (T : Table). T.rows) u) (ap (λ (T : Table). T.schema) u ∙ ap (λ (T : Table). T.schema) w ∙ out_shown P refl) (lost_ends V some)

    -- Causes.
    all_shown : (U : Table) (c : Cause) → GivesBeforeCut F at last_step (P ∷ []) U → Has U.broken c → ShownBy c
    all_shown U c (inl u) k = shown_by c (has_first zP.broken zP.lost c (subst (λ (T : Table). Has T.broken c) u k))
    all_shown U c (inr (V, v, some, u)) k = shown_by c (has_last zP.broken zP.lost c (subst (λ (T : Table). Has T.broken c) u k))

    cell_breaks : (L : Table) → Given L ⊎ Lost L → EndAlike P L → (row : List Value) → Has rows row → (c : Cause) → Has (row_causes (over row)) c → Breaking c
    cell_breaks L (inl (js, p, q)) k row there c h' = row_breaks F at keys aggs rs xs h out a t out_all js p row (subst (λ (rows : List (List Value)). Has rows row) (k.same_rows ∙ ap (λ (T : Table). T.rows) q) there) c h'
    cell_breaks L (inr (V, g, some, q)) k row there c h' = absurd (subst (λ (rows : List (List Value)). Has rows row) (k.same_rows ∙ ap (λ (T : Table). T.rows) q) there)

    pub later_breaks : (L : Table) → Case F at first (t ∷ []) L → EndAlike P L → (c : Cause) → IsCaseBrokenBy F at last_step (P ∷ []) c → Contains broken c ⊎ Breaking c
    later_breaks L l k c (U, g, has) = by (all_shown (given g).0 c (given g).1 (given g).2)
      where
        given : Case F at last_step (P ∷ []) U ⊎ GivesBeforeCut F at last_step (P ∷ []) U → (V : Table) × GivesBeforeCut F at last_step (P ∷ []) V × Has V.broken c
        given (inl (V, g, e)) = (V, g, to_has V.broken c (subst (λ (T : Table). Contains T.broken c) e has))
        given (inr g) = (U, g, to_has U.broken c has)

        by : ShownBy c → Contains broken c ⊎ Breaking c
        by (inl own) = inl (from_has broken c own)
        by (inr (inl free)) = inr (free_breaks F at keys aggs rs xs h out a t out_all c free)
        by (inr (inr (row, there, q))) = inr (cell_breaks L (before_is F at keys aggs rs xs h out a t out_all L (case_is F at keys aggs rs xs h out a t out_all L l)) k row there c q)

    -- Sizes.
    pub later_large : (L : Table) → Case F at first (t ∷ []) L → EndAlike P L → IsLargeCase F at last_step (P ∷ []) ⊎ SomeIsLarge (P ∷ []) → IsMany
    later_large L l k = by
      where
        small : max_rows < length rows → IsMany
        small long = case_large F at keys aggs rs xs h out a t out_all L l (subst (λ (rows : List (List Value)). max_rows < length rows) k.same_rows long)

        modest : AreModest IsMany at P (exprs_of (shown_of keys xs))
        modest = plain_modest IsMany at P small (exprs_of (shown_of keys xs)) (subst (AllByRecursion (λ (e : Tree). IsTrue (is_elementwise e))) (sym es_are) each_by_cells)

        by : IsLargeCase F at last_step (P ∷ []) ⊎ SomeIsLarge (P ∷ []) → IsMany
        by (inl (inl large)) = step_modest IsMany at P (exprs_of (shown_of keys xs)) modest large
        by (inl (inr (U, g, long))) = select_rows IsMany at F (shown_of keys xs) P U modest g long
        by (inr (inl long)) = small long
        by (inr (inr none)) = absurd none
