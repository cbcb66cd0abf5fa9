-- A group-by of own columns with the picked value of each other one is the distinct by these that keeps the picked rows.
use Rattle.std.proofs.Common.{◌≡◌, ◌≢◌, ◌⊎◌, inl, inr, ℕ, ◌+◌, ◌<◌, ◌≤◌, Bool, true, false, cond, List, [], ◌∷◌, ◌++◌, length, take, drop, get_or, Option, Some, None, refl, sym, ap, subst, ◌∙◌, arith}
use Rattle.std.specs.Prelude.{Contains, IsTrue, filter, flat_map, map, if◌then◌else◌}
use Rattle.std.specs.List.{AllByRecursion}
use Rattle.std.proofs.lemmas.List.{append-nil, length-map}
use Rattle.std.proofs.lemmas.List.Sorted.{IsPermutation-map, IsPermutation-refl}
use Rattle.ps_frame.specs.Aggregates.{max_rows}
use Rattle.ps_frame.specs.Causes.{Cause, Column, value, is_empty}
use Rattle.ps_frame.specs.Eval.{eval}
use Rattle.ps_frame.specs.Frames.{has_distinct_names}
use Rattle.ps_frame.specs.Free.{free_causes}
use Rattle.ps_frame.specs.Functions.{Functions}
use Rattle.ps_frame.specs.Parts.{tree_parts}
use Rattle.ps_frame.specs.Tables.{Fields, Table, field_index, no_rows, values_at, values_at_some}
use Rattle.ps_frame.specs.Trees.{Aggregation, Tree}
use Rattle.ps_frame.specs.Typing.{is_elementwise}
use Rattle.ps_frame.specs.Values.{same_row}
use Rattle.ps_frame.specs.Zip.{Zipped, below}
use Rattle.ps_frame.specs.declared.value.Value.{Value}
use Rattle.ps_frame.specs.declared.value.Value.TheVariants as val
use Rattle.ps_meaning.specs.Cases.{Case, GivesBeforeCut, IsCaseBrokenBy, cut_by, if_whole, keyed, lost_causes, out_schema, rows_table, with_group_causes}
use Rattle.ps_meaning.specs.Distinct.{distinct_rows, kept_rows, key_places, picked, places_in}
use Rattle.ps_meaning.specs.Groups.{Group, group_causes_lost, group_rows, groups, groups_table, rows_before_faulty, rows_of_key}
use Rattle.ps_meaning.specs.Meaning.{HasLargeColumn, IsLargeCase}
use Rattle.ps_meaning.specs.Orders.{IsOrder}
use Rattle.ps_meaning.specs.Schemas.{is_among, names_of}
use Rattle.ps_meaning.specs.Steps.{DistinctStep, GroupStep, Name, distinct, exprs_of, group_by}
use Rattle.ps_meaning.proofs.StepFits.{all-order}
use Rattle.ps_rules.specs.Slots.{columns_named}
use Rattle.ps_shares.proofs.Aggregated.{map_again}
use Rattle.ps_shares.proofs.Members.{Has, from_has, to_has}
use Rattle.lowering_sizes.proofs.Lengths.{fewer}
use Rattle.lowering_sizes.proofs.Nodes.{plain_modest, some_rows, step_modest}
use Rattle.step_keeps.specs.Kept.{SomeIsLarge}
use Rattle.picked_zips.proofs.Members.{of_map}
use Rattle.keyed_calls.specs.Keyed.{AllStand}
use Rattle.distinct_parts.proofs.KeyedColumns.{b_causes, b_lost, b_rows, kp, whole_from, whole_to}
use Rattle.distinct_parts.proofs.FirstRows.{with_key}
use Rattle.distinct_parts.proofs.Picks.{Picks}
use Rattle.distinct_parts.proofs.Restored.{all_groups, clear_causes, clear_rows, groups_clear, groups_lose_none, groups_restored, groups_wide, picked_column, picked_of, restore}

-- what stays in order under a map
order_map : {A B : Type 0} (f : A → B) (m : Bool) (xs ys : List A) → IsOrder m xs ys → IsOrder m (map f xs) (map f ys)
order_map f true xs ys h = ap (map f) h
order_map f false xs ys h = IsPermutation-map f xs ys h

order_itself : {A : Type 0} (m : Bool) (xs : List A) → IsOrder m xs xs
order_itself true xs = refl
order_itself false xs = IsPermutation-refl xs

no_free : (a : Aggregation) (picks : Picks a) (at : ℕ) (s : Fields) (rows : List (List Value)) (ns : List Name) → flat_map (free_causes at) (map (picked_of a picks at s rows) ns) ≡ []
no_free a picks at s rows [] = refl
no_free a picks at s rows (n ∷ ns) = let p = picks.free at n in let q = no_free a picks at s rows ns in λ i. p i ++ q i

module _ (a : Aggregation) (picks : Picks a) (F : Functions) (at : ℕ) (t : Table) (keys others : List Name) (placed : AllStand t.schema keys) (others_placed : AllStand t.schema others) (some : t.schema ≢ []) (wide : AllByRecursion (λ (row : List Value). length row ≡ length t.schema) t.rows)
    (names : has_distinct_names t.schema ≡ true) (g : Fields) (named : names_of g ≡ keys ++ others) (covers : (n : Name) → is_among n (names_of t.schema) ≡ true → is_among n (keys ++ others) ≡ true)
    (o : GroupStep) (of_keys : exprs_of o.keys ≡ columns_named keys) (of_aggs : exprs_of o.aggregates ≡ map (picked_of a picks at t.schema (keyed at (columns_named keys) t).rows) others) (uncut : o.cut ≡ None) (out : out_schema F at (group_by o) (t ∷ []) ≡ g)
    (d : DistinctStep) (keeps : let places = kp at t keys placed some in (ys : List (List Value)) → IsOrder o.maintain_order (map (λ key. picks.row (with_key places key t.rows)) (distinct_rows (map (picked places) t.rows))) ys → IsOrder d.maintain_order (kept_rows d.keep (key_places d t.schema) t.rows) ys) where
  abbrev s : Fields
  s = t.schema

  abbrev b : Zipped
  b = keyed at (columns_named keys) t

  abbrev aggs : List Tree
  aggs = map (picked_of a picks at s b.rows) others

  abbrev given : Zipped
  given = keyed at (exprs_of o.keys) t

  same_zip : given ≡ b
  same_zip = ap (λ es. keyed at es t) of_keys

  abbrev back : List Value → List Value
  back = restore a picks at t keys others placed others_placed some wide names g named covers

  abbrev IsRow : List Value → Type 0
  IsRow row = length row ≡ length keys + length others

  abbrev IsDistinct : Table → Type 0
  IsDistinct K = GivesBeforeCut F at (distinct d) (t ∷ []) K

  -- the rows of groups in some order
  kept_by : (gs : List Group) → IsOrder o.maintain_order (groups at (exprs_of o.aggregates) s given.rows) gs → IsDistinct (if_whole s t.broken (rows_table s (map (λ (x : Group). back x.cells) gs)))
  kept_by gs order =
      let order' : IsOrder o.maintain_order (all_groups a picks at t keys others placed others_placed some wide names g named covers) gs = subst (λ hs. IsOrder o.maintain_order hs gs) (λ i. groups at (of_aggs i) s (same_zip i).rows) order in
      let mapped = order_map (λ (x : Group). back x.cells) o.maintain_order (all_groups a picks at t keys others placed others_placed some wide names g named covers) gs order' in
      let rows = subst (λ rs. IsOrder o.maintain_order rs (map (λ (x : Group). back x.cells) gs)) (groups_restored a picks at t keys others placed others_placed some wide names g named covers) mapped in
      inl (map (λ (x : Group). back x.cells) gs, keeps (map (λ (x : Group). back x.cells) gs) rows, refl)

  pub record Distinguished (L : Table) : Type 0 where
    pub table : Table
    pub gives : IsDistinct table
    pub schema : table.schema ≡ s
    pub rows : table.rows ≡ map back L.rows
    pub whole : is_empty table.broken ≡ is_empty L.broken

  schema_of : (cs : List Cause) (rows : List (List Value)) → (if_whole s cs (rows_table s rows)).schema ≡ s
  schema_of [] rows = refl
  schema_of (c ∷ cs) rows = refl

  by_groups : (L : Table) (gs : List Group) → IsOrder o.maintain_order (groups at (exprs_of o.aggregates) s given.rows) gs → L ≡ if_whole (out_schema F at (group_by o) (t ∷ [])) (with_group_causes given.broken gs) (groups_table (out_schema F at (group_by o) (t ∷ [])) gs) → Distinguished L
  by_groups L gs order e =
      record {
        table = if_whole s t.broken (rows_table s (map (λ (x : Group). back x.cells) gs));
        gives = kept_by gs order;
        schema = schema_of t.broken (map (λ (x : Group). back x.cells) gs);
        rows = (by t.broken refl given.broken refl).0;
        whole = (by t.broken refl given.broken refl).1;
      }
    where
      clear : AllByRecursion (λ (x : Group). x.causes ≡ []) gs
      clear =
          all-order (λ (x : Group). x.causes ≡ []) o.maintain_order (groups at aggs s b.rows) gs (subst (λ hs. IsOrder o.maintain_order hs gs) (λ i. groups at (of_aggs i) s (same_zip i).rows) order)
          (groups_clear a picks at t keys others placed others_placed some wide names g named covers)

      by : (cs : List Cause) → t.broken ≡ cs → (ds : List Cause) → given.broken ≡ ds
          → ((if_whole s t.broken (rows_table s (map (λ (x : Group). back x.cells) gs))).rows ≡ map back L.rows) × (is_empty (if_whole s t.broken (rows_table s (map (λ (x : Group). back x.cells) gs))).broken ≡ is_empty L.broken)
      by [] p [] q =
          let h = out_schema F at (group_by o) (t ∷ []) in
          let is : L ≡ groups_table h gs = e ∙ ap (λ ds. if_whole h (with_group_causes ds gs) (groups_table h gs)) q in
          let left = ap (λ cs. if_whole s cs (rows_table s (map (λ (x : Group). back x.cells) gs))) p in (
            ap (λ (T : Table). T.rows) left ∙ sym (map_again back (λ (x : Group). x.cells) gs) ∙ ap (map back) (sym (clear_rows gs clear)) ∙ sym (ap (λ (T : Table). map back T.rows) is),
            ap (λ (T : Table). is_empty T.broken) left ∙ sym (ap is_empty (clear_causes gs clear)) ∙ sym (ap (λ (T : Table). is_empty T.broken) is),
          )
      by (c ∷ cs) p (x ∷ ds) q =
          let h = out_schema F at (group_by o) (t ∷ []) in
          let is : L ≡ no_rows h ((x ∷ ds) ++ flat_map (λ (g : Group). g.causes) gs) = e ∙ ap (λ ds. if_whole h (with_group_causes ds gs) (groups_table h gs)) q in
          let left = ap (λ cs. if_whole s cs (rows_table s (map (λ (x : Group). back x.cells) gs))) p in
          (ap (λ (T : Table). T.rows) left ∙ sym (ap (λ (T : Table). map back T.rows) is), ap (λ (T : Table). is_empty T.broken) left ∙ sym (ap (λ (T : Table). is_empty T.broken) is))
      by [] p (x ∷ ds) q = let w : x ∷ ds ≡ [] = sym q ∙ ap (λ (z : Zipped). z.broken) same_zip ∙ whole_from at t keys placed some p in absurd (none_is x ds w)
        where
          none_is : (x : Cause) (ds : List Cause) → x ∷ ds ≡ [] → ⊥
          none_is x ds w = cc
      by (c ∷ cs) p [] q = let w : c ∷ cs ≡ [] = sym p ∙ whole_to at t keys placed some (sym (ap (λ (z : Zipped). z.broken) same_zip) ∙ q) in absurd (none_is c cs w)
        where
          none_is : (x : Cause) (ds : List Cause) → x ∷ ds ≡ [] → ⊥
          none_is x ds w = cc

  -- nothing is lost
  lost_nothing : (rows : List (List Value)) → lost_causes F at (group_by o) (t ∷ []) rows ≡ []
  lost_nothing rows =
      (λ i. (same_zip i).lost ++ ((if is_empty (same_zip i).broken then group_causes_lost at (of_aggs i) s (same_zip i).rows else []) ++ (if is_empty rows then flat_map (free_causes at) (of_aggs i) else [])))
      ∙ (λ i. b_lost at t keys placed some i ++ ((if is_empty b.broken then groups_lose_none a picks at t keys others placed others_placed some wide names g named covers i else []) ++ (if is_empty rows then no_free a picks at s b.rows others i else [])))
      ∙ none (is_empty b.broken) (is_empty rows)
    where
      none : (p q : Bool) → cond {A = List Cause} p [] [] ++ cond {A = List Cause} q [] [] ≡ []
      none true true = refl
      none true false = refl
      none false true = refl
      none false false = refl

  of_before : (L : Table) → GivesBeforeCut F at (group_by o) (t ∷ []) L → Distinguished L
  of_before L (inl (gs, order, e)) = by_groups L gs order e
  of_before L (inr (V, h, lost, e)) = absurd (lost (lost_nothing V.rows))

  pub of_case : (L : Table) → Case F at (group_by o) (t ∷ []) L → Distinguished L
  of_case L (U, h, e) = of_before L (subst (GivesBeforeCut F at (group_by o) (t ∷ [])) (sym (e ∙ ap (λ c. cut_by c U) uncut)) h)

  -- its schema, and the width of its rows
  pub case_schema : (L : Table) → Case F at (group_by o) (t ∷ []) L → L.schema ≡ g
  case_schema L (U, h, e) = ap (λ (T : Table). T.schema) (e ∙ ap (λ c. cut_by c U) uncut) ∙ by U h
    where
      whole_schema : (p : Fields) (cs : List Cause) (gs : List Group) → (if_whole p cs (groups_table p gs)).schema ≡ p
      whole_schema p [] gs = refl
      whole_schema p (c ∷ cs) gs = refl

      by : (U : Table) → GivesBeforeCut F at (group_by o) (t ∷ []) U → U.schema ≡ g
      by U (inl (gs, order, e)) = ap (λ (T : Table). T.schema) e ∙ whole_schema (out_schema F at (group_by o) (t ∷ [])) (with_group_causes given.broken gs) gs ∙ out
      by U (inr (V, h, lost, e)) = absurd (lost (lost_nothing V.rows))

  pub case_wide : (L : Table) → Case F at (group_by o) (t ∷ []) L → AllByRecursion (λ (row : List Value). length row ≡ length keys + length others) L.rows
  case_wide L (U, h, e) = subst (λ (T : Table). AllByRecursion IsRow T.rows) (sym (e ∙ ap (λ c. cut_by c U) uncut)) (by U h)
    where
      rows_wide : (gs : List Group) → AllByRecursion (λ (x : Group). length x.cells ≡ length keys + length others) gs → AllByRecursion IsRow (rows_before_faulty gs)
      rows_wide [] all = tt
      rows_wide (x ∷ gs) all = step (is_empty x.causes) (rows_wide gs all.1)
        where
          step : (b : Bool) → AllByRecursion IsRow (rows_before_faulty gs) → AllByRecursion IsRow (if b then x.cells ∷ rows_before_faulty gs else [])
          step true rest = (all.0, rest)
          step false rest = tt

      whole_wide : (p : Fields) (cs : List Cause) (gs : List Group) → AllByRecursion (λ (x : Group). length x.cells ≡ length keys + length others) gs → AllByRecursion IsRow (if_whole p cs (groups_table p gs)).rows
      whole_wide p [] gs all = rows_wide gs all
      whole_wide p (c ∷ cs) gs all = tt

      by : (U : Table) → GivesBeforeCut F at (group_by o) (t ∷ []) U → AllByRecursion IsRow U.rows
      by U (inl (gs, order, e)) =
          subst (λ (T : Table). AllByRecursion IsRow T.rows) (sym e)
          (whole_wide (out_schema F at (group_by o) (t ∷ [])) (with_group_causes given.broken gs) gs
          (all-order (λ (x : Group). length x.cells ≡ length keys + length others) o.maintain_order (groups at aggs s b.rows) gs (subst (λ hs. IsOrder o.maintain_order hs gs) (λ i. groups at (of_aggs i) s (same_zip i).rows) order)
          (groups_wide a picks at t keys others placed others_placed some wide names g named covers)))
      by U (inr (V, h, lost, e)) = absurd (lost (lost_nothing V.rows))

  -- what the distinct gives, in the order of its groups
  abbrev one_given : Table
  one_given = if_whole s t.broken (rows_table s (map (λ (x : Group). back x.cells) (groups at (exprs_of o.aggregates) s given.rows)))

  gives_one : IsDistinct one_given
  gives_one = kept_by (groups at (exprs_of o.aggregates) s given.rows) (order_itself o.maintain_order (groups at (exprs_of o.aggregates) s given.rows))

  own_cause : (cs : List Cause) (rows : List (List Value)) (c : Cause) → Has cs c → Has (if_whole s cs (rows_table s rows)).broken c
  own_cause [] rows c h = absurd h
  own_cause (x ∷ cs) rows c h = h

  breaks : (c : Cause) → Contains t.broken c → IsCaseBrokenBy F at (distinct d) (t ∷ []) c
  breaks c h = (one_given, inr gives_one, from_has one_given.broken c (own_cause t.broken (map (λ (x : Group). back x.cells) (groups at (exprs_of o.aggregates) s given.rows)) c (to_has t.broken c h)))

  cause_before : (U : Table) (c : Cause) → GivesBeforeCut F at (group_by o) (t ∷ []) U → Contains U.broken c → Contains t.broken c
  cause_before U c (inr (V, h, lost, e)) k = absurd (lost (lost_nothing V.rows))
  cause_before U c (inl (gs, order, e)) k = by given.broken refl (to_has U.broken c k)
    where
      clear : AllByRecursion (λ (x : Group). x.causes ≡ []) gs
      clear =
          all-order (λ (x : Group). x.causes ≡ []) o.maintain_order (groups at aggs s b.rows) gs (subst (λ hs. IsOrder o.maintain_order hs gs) (λ i. groups at (of_aggs i) s (same_zip i).rows) order)
          (groups_clear a picks at t keys others placed others_placed some wide names g named covers)

      by : (ds : List Cause) → given.broken ≡ ds → Has U.broken c → Contains t.broken c
      by [] q h =
          let p = out_schema F at (group_by o) (t ∷ []) in
          let is : U.broken ≡ [] = ap (λ (T : Table). T.broken) (e ∙ ap (λ ds. if_whole p (with_group_causes ds gs) (groups_table p gs)) q) ∙ clear_causes gs clear in
          absurd (subst (λ cs. Has cs c) is h)
      by (x ∷ ds) q h =
          let p = out_schema F at (group_by o) (t ∷ []) in
          let is : U.broken ≡ (x ∷ ds) ++ [] = ap (λ (T : Table). T.broken) (e ∙ ap (λ ds. if_whole p (with_group_causes ds gs) (groups_table p gs)) q) ∙ ap (λ cs. (x ∷ ds) ++ cs) (clear_causes gs clear) in
          b_causes at t keys placed some c (from_has b.broken c (subst (λ cs. Has cs c) (is ∙ append-nil (x ∷ ds) ∙ sym q ∙ ap (λ (z : Zipped). z.broken) same_zip) h))

  pub same_causes : (c : Cause) → IsCaseBrokenBy F at (group_by o) (t ∷ []) c → IsCaseBrokenBy F at (distinct d) (t ∷ []) c
  same_causes c (U, inl (V, h, e), k) = breaks c (cause_before V c h (subst (λ (T : Table). Contains T.broken c) (e ∙ ap (λ q. cut_by q V) uncut) k))
  same_causes c (U, inr h, k) = breaks c (cause_before U c h k)

  -- sizes
  abbrev Large : Type 0
  Large = IsLargeCase F at (distinct d) (t ∷ []) ⊎ SomeIsLarge (t ∷ [])

  columns_plain : (ns : List Name) → AllByRecursion (λ e. IsTrue (is_elementwise e)) (columns_named ns)
  columns_plain [] = tt
  columns_plain (n ∷ ns) = (refl, columns_plain ns)

  as_high : length given.rows ≡ length t.rows
  as_high = ap (λ (z : Zipped). length z.rows) same_zip ∙ ap length (b_rows at t keys placed some) ∙ length-map t.rows (picked (below (length s) ++ places_in keys s))

  values_few : (o : Option ℕ) (rows : List (List Value)) → length (map value (values_at_some o rows)) ≤ length rows
  values_few None rows = omega arith
  values_few (Some j) rows = let l = length-map (values_at j rows) value in let m = length-map rows (λ row. get_or row j val.Null) in omega arith

  large_group : (key : List Value) → HasLargeColumn at (exprs_of o.aggregates) (group_rows s given.rows key) → max_rows < length t.rows
  large_group key (e, p, there, part, long) =
      let r = of_map (picked_of a picks at s b.rows) others e (to_has aggs e (subst (λ es. Contains es e) of_aggs there)) in
      by r.0 (to_has (tree_parts (picked_of a picks at s b.rows r.0)) p (subst (λ e. Contains (tree_parts e) p) (sym r.2) part))
    where
      few : length (rows_of_key (length s) key given.rows) ≤ length given.rows
      few = let l = length-map (filter (λ row. same_row key (drop (length s) row)) given.rows) (take (length s)) in let m = fewer (λ row. same_row key (drop (length s) row)) given.rows in omega arith

      by : (n : Name) → (picked_of a picks at s b.rows n ≡ p) ⊎ ((Tree.column n ≡ p) ⊎ ⊥) → max_rows < length t.rows
      by n (inl q) =
          let l = ap (λ (c : Column). length c.cells) (ap (eval at (group_rows s given.rows key)) (sym q) ∙ picked_column a picks at s (rows_of_key (length s) key given.rows) n) in
          let m = some_rows in
          absurd (omega arith)
      by n (inr (inl q)) =
          let l = ap (λ e. length (eval at (group_rows s given.rows key) e).cells) q in
          let m = values_few (field_index n s) (rows_of_key (length s) key given.rows) in
          let f = few in
          let h = as_high in
          omega arith
      by n (inr (inr q)) = absurd q

  pub same_sizes : IsLargeCase F at (group_by o) (t ∷ []) ⊎ SomeIsLarge (t ∷ []) → Large
  same_sizes (inr l) = inr l
  same_sizes (inl (inl (inl l))) = step_modest Large at t (exprs_of o.keys) (plain_modest Large at t (λ long. inr (inl long)) (exprs_of o.keys) (subst (AllByRecursion (λ e. IsTrue (is_elementwise e))) (sym of_keys) (columns_plain keys))) l
  same_sizes (inl (inl (inr (k, key, lt, is, l)))) = inr (inl (large_group key l))
  same_sizes (inl (inr (U, h, long))) = let q = of_before U h in inl (inr (q.table, q.gives, (let l = ap length q.rows ∙ length-map U.rows back in omega arith)))
