-- The group-by of whole aggregates beside that of the reductions in them: the same keys, and what each shows of the other.
use Rattle.std.proofs.Common.{◌≡◌, ◌≢◌, ◌⊎◌, inl, inr, ℕ, ◌<◌, ◌≤◌, Bool, true, false, not, cond, List, [], ◌∷◌, ◌++◌, drop, length, refl, sym, ap, subst, ◌∙◌, arith}
use Rattle.std.proofs.lemmas.List.{length-map}
use Rattle.std.specs.Prelude.{Any, flat_map, map, ◌&&◌}
use Rattle.std.specs.List.{AllByRecursion, list_all, list_any}
use Rattle.std.specs.List.Sorted.{IsPermutation}
use Rattle.std.proofs.lemmas.List.Sorted.{IsPermutation-map, IsPermutation-refl, length_permutation}
use Rattle.ps_frame.specs.Aggregates.{max_rows}
use Rattle.ps_frame.specs.Causes.{Cause, Cell, Column, column_causes, is_empty}
use Rattle.ps_frame.specs.Eval.{eval}
use Rattle.ps_frame.specs.Frames.{has_distinct_names}
use Rattle.ps_frame.specs.Free.{free_causes}
use Rattle.ps_frame.specs.Functions.{Functions}
use Rattle.ps_frame.specs.Parts.{tree_parts}
use Rattle.ps_frame.specs.Tables.{Fields, Table, columns_of, no_rows}
use Rattle.ps_frame.specs.Trees.{Tree}
use Rattle.ps_frame.specs.Values.{same_row}
use Rattle.ps_frame.specs.Zip.{Zipped, is_faulty_row, row_causes, rows_before_fault}
use Rattle.ps_frame.specs.declared.value.Value.{Value}
use Rattle.ps_meaning.specs.Cases.{Case, Gives, GivesBeforeCut, IsCaseBrokenBy, columns_at, keyed, lost_causes, out_schema}
use Rattle.ps_meaning.specs.Distinct.{distinct_rows}
use Rattle.ps_meaning.specs.Groups.{Group, group_causes_lost, group_columns, group_of, group_rows, keys_of, rows_before_faulty}
use Rattle.ps_meaning.specs.Meaning.{HasLargeColumn, IsLargeCase}
use Rattle.ps_meaning.specs.Schemas.{expr_names, names_of}
use Rattle.ps_meaning.specs.Sound.{IsReduction}
use Rattle.ps_meaning.specs.Steps.{Named, Step, exprs_of, group_by}
use Rattle.ps_meaning.proofs.StepFits.{all-order}
use Rattle.ps_rowwise.specs.Rows.{HasKind}
use Rattle.ps_rowwise.proofs.ByRow.{cell_for}
use Rattle.ps_rules.specs.Slots.{columns_named}
use Rattle.ps_shares.proofs.Ends.{has_either, has_first}
use Rattle.ps_shares.proofs.Members.{Has, from_has, to_has}
use Rattle.ps_bundles.proofs.ExprEnds.{one_of}
use Rattle.ps_bundles.proofs.Gathered.{has_last}
use Rattle.ps_bundles.proofs.ZipEnds.{differ, is_none}
use Rattle.lowering_sizes.proofs.Lengths.{fewer, own_fit, rows_long}
use Rattle.lowering_sizes.proofs.Nodes.{some_rows}
use Rattle.lowering_sizes.proofs.Parts.{own_part, part_of_part}
use Rattle.plan_rules.specs.Reductions.{is_made_of_reductions}
use Rattle.step_keeps.specs.Kept.{SomeIsLarge}
use Rattle.picked_zips.proofs.Members.{has_flat, has_map, of_flat, of_map}
use Rattle.reductions_keep.specs.Reduced.{reductions_in}
use Rattle.reductions_keep.proofs.Above.{all_made_alone, plain_exprs}
use Rattle.reductions_keep.proofs.Inside.{reduction_part, shows_free}
use Rattle.reductions_keep.proofs.Keys.{causes_up, key_meets, lost_up, one_made}
use Rattle.reductions_keep.proofs.Orders.{unmapped}
use Rattle.reductions_keep.proofs.Parts.{AreApart}
use Rattle.reductions_keep.proofs.Rows.{AllMeet, Meets, same_rows, same_whole}
use Rattle.group_keeps.proofs.Groups.{as_given, first_given, free_group, free_none, given_causes, gives_first, group_breaks, lost_breaks, own_breaks}
use Rattle.group_keeps.proofs.Wide.{each_key}

-- the keys, and what stands above the reductions
abbrev pub shown_exprs : List Named → List Named → List Tree
shown_exprs keys xs = columns_named (expr_names keys) ++ exprs_of xs

-- Aggregates are taken apart into reductions rs and what stands above them, xs; keys and reductions have the fields h.
pub record AreTakenApart (keys aggs rs xs : List Named) (h : Fields) : Type 0 where
  pub some_key : keys ≢ []
  pub made : list_all is_made_of_reductions (exprs_of aggs) ≡ true
  pub reductions : AllByRecursion (λ (m : Named). IsReduction m.1) rs
  pub apart : AreApart rs aggs xs
  pub inside : exprs_of rs ≡ flat_map reductions_in (exprs_of aggs)
  pub named : names_of h ≡ expr_names keys ++ expr_names rs
  pub distinct : has_distinct_names h ≡ true
  pub kinds : AllByRecursion (HasKind h) (shown_exprs keys xs)

-- fewer rows
distinct_fewer : (rows : List (List Value)) → length (distinct_rows rows) ≤ length rows
distinct_fewer [] = omega arith
distinct_fewer (r ∷ rows) = let f = fewer (λ (q : List Value). not (same_row r q)) (distinct_rows rows) in let d = distinct_fewer rows in omega arith

groups_fewer : (gs : List Group) → length (rows_before_faulty gs) ≤ length gs
groups_fewer [] = omega arith
groups_fewer (g ∷ gs) = by (is_empty g.causes) (groups_fewer gs)
  where
    by : (b : Bool) → length (rows_before_faulty gs) ≤ length gs → length (cond {A = List (List Value)} b (g.cells ∷ rows_before_faulty gs) []) ≤ length (g ∷ gs)
    by true le = omega arith
    by false le = omega arith

given_fewer : (s : Fields) (b : List Cause) (gs : List Group) → length (as_given s b gs).rows ≤ length gs
given_fewer s [] gs = groups_fewer gs
given_fewer s (c ∷ b) gs = omega arith

module _ (F : Functions) (at : ℕ) (keys aggs rs xs : List Named) (h out : Fields) (a : AreTakenApart keys aggs rs xs h) (t : Table) (out_all : out_schema F at (group_by (free_group keys aggs)) (t ∷ []) ≡ out) where
  abbrev pub first_step : Step
  first_step = group_by (free_group keys rs)

  abbrev pub whole_step : Step
  whole_step = group_by (free_group keys aggs)

  abbrev s : Fields
  s = t.schema

  abbrev z : Zipped
  z = keyed at (exprs_of keys) t

  abbrev pub ks : List (List Value)
  ks = keys_of (length s) z.rows

  abbrev pub first : List Value → Group
  first key = group_of at (exprs_of rs) s z.rows key

  abbrev pub whole : List Value → Group
  whole key = group_of at (exprs_of aggs) s z.rows key

  abbrev pub cells : List Value → List Cell
  cells row = map (λ (e : Tree). cell_for at h e row) (shown_exprs keys xs)

  rs_made : list_all is_made_of_reductions (exprs_of rs) ≡ true
  rs_made = all_made_alone rs a.reductions

  -- each key has a value for each key expression, in whatever order
  abbrev IsWide : List Value → Type 0
  IsWide key = length key ≡ length (expr_names keys)

  wide_keys : AllByRecursion IsWide ks
  wide_keys = subst (λ (n : ℕ). AllByRecursion (λ (key : List Value). length key ≡ n) ks) (length-map keys (λ (e : Named). e.1) ∙ sym (length-map keys (λ (e : Named). e.0))) (each_key F at keys aggs t)

  wide_in : (js : List (List Value)) → IsPermutation ks js → AllByRecursion IsWide js
  wide_in js p = all-order IsWide false ks js p wide_keys

  meets_at : (key : List Value) → IsWide key → Meets first whole cells key
  meets_at key long = key_meets at s z.rows aggs rs xs (expr_names keys) h a.named a.distinct a.made rs_made a.apart a.inside key long

  pub all_meet : (js : List (List Value)) → IsPermutation ks js → AllMeet first whole cells js
  all_meet js p = by js (wide_in js p)
    where
      by : (js : List (List Value)) → AllByRecursion IsWide js → AllMeet first whole cells js
      by [] all = tt
      by (key ∷ js) all = (meets_at key all.0, by js all.1)

  -- the tables of both, in one order of the keys
  abbrev pub first_of : List (List Value) → Table
  first_of js = as_given (out_schema F at first_step (t ∷ [])) z.broken (map first js)

  abbrev pub whole_of : List (List Value) → Table
  whole_of js = as_given (out_schema F at whole_step (t ∷ [])) z.broken (map whole js)

  pub gives_whole : (js : List (List Value)) → IsPermutation ks js → Gives F at whole_step (t ∷ []) (whole_of js)
  gives_whole js p = (map whole js, IsPermutation-map whole ks js p, refl)

  pub rows_alike : (js : List (List Value)) → AllMeet first whole cells js → rows_before_fault (map cells (first_of js).rows) ≡ (whole_of js).rows
  rows_alike js all = by z.broken
    where
      by : (b : List Cause) → rows_before_fault (map cells (as_given (out_schema F at first_step (t ∷ [])) b (map first js)).rows) ≡ (as_given (out_schema F at whole_step (t ∷ [])) b (map whole js)).rows
      by [] = same_rows first whole cells js all
      by (c ∷ b) = refl

  pub whole_alike : (js : List (List Value)) → AllMeet first whole cells js → (is_empty (first_of js).broken && not (list_any is_faulty_row (map cells (first_of js).rows))) ≡ is_empty (whole_of js).broken
  whole_alike js all = by z.broken
    where
      by : (b : List Cause)
          → (is_empty (as_given (out_schema F at first_step (t ∷ [])) b (map first js)).broken && not (list_any is_faulty_row (map cells (as_given (out_schema F at first_step (t ∷ [])) b (map first js)).rows)))
          ≡ is_empty (as_given (out_schema F at whole_step (t ∷ [])) b (map whole js)).broken
      by [] = sym (same_whole first whole cells js all)
      by (c ∷ b) = refl

  -- what the group-by of the reductions gives: such a table, or the one without rows that lost causes break
  abbrev pub IsGiven : Table → Type 0
  IsGiven L = (js : List (List Value)) × IsPermutation ks js × (L ≡ first_of js)

  abbrev pub IsLost : Table → Type 0
  IsLost L = (V : Table) × Gives F at first_step (t ∷ []) V × (lost_causes F at first_step (t ∷ []) V.rows ≢ []) × (L ≡ no_rows V.schema (lost_causes F at first_step (t ∷ []) V.rows))

  pub before_is : (L : Table) → GivesBeforeCut F at first_step (t ∷ []) L → IsGiven L ⊎ IsLost L
  before_is L (inl (gs, order, e)) = let m = unmapped first ks gs order in inl (m.order, m.permutes, e ∙ ap (as_given (out_schema F at first_step (t ∷ [])) z.broken) m.values)
  before_is L (inr lost) = inr lost

  pub case_is : (L : Table) → Case F at first_step (t ∷ []) L → GivesBeforeCut F at first_step (t ∷ []) L
  case_is L (U, g, e) = subst (GivesBeforeCut F at first_step (t ∷ [])) (sym e) g

  -- what the one lost the other lost, and parts that read no row are lost where there are no rows
  abbrev lost_in_groups : List Tree → List Cause
  lost_in_groups es = cond (is_empty z.broken) (group_causes_lost at es s z.rows) []

  abbrev lost_parts : List Tree → List (List Value) → List Cause
  lost_parts es rows = cond (is_empty rows) (flat_map (free_causes at) es) []

  of_groups : (c : Cause) → Has (group_causes_lost at (exprs_of rs) s z.rows) c → Has (group_causes_lost at (exprs_of aggs) s z.rows) c
  of_groups c k =
      let lost = λ (es : List Tree). λ (key : List Value). flat_map (λ (x : Column). x.lost) (group_columns at es s z.rows key) in
      let key = of_flat (lost (exprs_of rs)) ks c k in
      has_flat (lost (exprs_of aggs)) ks key.0 c key.1 (lost_up at s z.rows aggs rs xs (expr_names keys) h a.named a.distinct a.made rs_made a.apart a.inside key.0 (one_of IsWide ks key.0 wide_keys key.1) c key.2)

  pub lost_here : (rows others : List (List Value)) (c : Cause) → Has (lost_causes F at first_step (t ∷ []) rows) c → Has (lost_causes F at whole_step (t ∷ []) others) c
  lost_here rows others c k = by (has_either z.lost (lost_in_groups (exprs_of rs) ++ lost_parts (exprs_of rs) rows) c k)
    where
      in_groups : (b : Bool) → Has (cond b (group_causes_lost at (exprs_of rs) s z.rows) []) c → Has (cond b (group_causes_lost at (exprs_of aggs) s z.rows) []) c
      in_groups true k = of_groups c k
      in_groups false k = absurd k

      in_parts : (b : Bool) → Has (cond b (flat_map (free_causes at) (exprs_of rs)) []) c → ⊥
      in_parts true k = subst (λ (cs : List Cause). Has cs c) (free_none at (exprs_of rs) (plain_exprs rs a.reductions)) k
      in_parts false k = k

      either : Has (lost_in_groups (exprs_of rs)) c ⊎ Has (lost_parts (exprs_of rs) rows) c → Has (lost_in_groups (exprs_of aggs)) c
      either (inl k) = in_groups (is_empty z.broken) k
      either (inr k) = absurd (in_parts (is_empty rows) k)

      by : Has z.lost c ⊎ Has (lost_in_groups (exprs_of rs) ++ lost_parts (exprs_of rs) rows) c → Has (lost_causes F at whole_step (t ∷ []) others) c
      by (inl k) = has_first z.lost (lost_in_groups (exprs_of aggs) ++ lost_parts (exprs_of aggs) others) c k
      by (inr k) =
          has_last z.lost (lost_in_groups (exprs_of aggs) ++ lost_parts (exprs_of aggs) others) c
          (has_first (lost_in_groups (exprs_of aggs)) (lost_parts (exprs_of aggs) others) c (either (has_either (lost_in_groups (exprs_of rs)) (lost_parts (exprs_of rs) rows) c k)))

  pub lost_free : (rows : List (List Value)) → rows ≡ [] → (c : Cause) → Has (flat_map (free_causes at) (exprs_of aggs)) c → Has (lost_causes F at whole_step (t ∷ []) rows) c
  lost_free rows none c k =
      has_last z.lost (lost_in_groups (exprs_of aggs) ++ lost_parts (exprs_of aggs) rows) c
      (has_last (lost_in_groups (exprs_of aggs)) (lost_parts (exprs_of aggs) rows) c (subst (λ (rows : List (List Value)). Has (lost_parts (exprs_of aggs) rows) c) (sym none) k))

  -- what breaks the one breaks the other
  abbrev pub Breaks : Cause → Type 0
  Breaks c = IsCaseBrokenBy F at whole_step (t ∷ []) c

  key_breaks : (js : List (List Value)) → IsPermutation ks js → (key : List Value) → Has js key → (c : Cause) → Has (whole key).causes c → Breaks c
  key_breaks js p key there c k = group_breaks F at keys aggs t out out_all (map whole js) (IsPermutation-map whole ks js p) c (has_flat (λ (g : Group). g.causes) (map whole js) (whole key) c (has_map whole js key there) k)

  lost_break : (c : Cause) → Has (lost_causes F at whole_step (t ∷ []) (first_given F at keys aggs t out out_all).rows) c → Breaks c
  lost_break c k = lost_breaks F at keys aggs t out out_all (first_given F at keys aggs t out out_all) (gives_first F at keys aggs t out out_all) c k

  given_breaks : (js : List (List Value)) → IsPermutation ks js → (c : Cause) → Has z.broken c ⊎ Has (flat_map (λ (g : Group). g.causes) (map first js)) c → Breaks c
  given_breaks js p c (inl k) = own_breaks F at keys aggs t out out_all c (inl k)
  given_breaks js p c (inr k) =
      let g = of_flat (λ (g : Group). g.causes) (map first js) c k in
      let key = of_map first js g.0 g.1 in
      let long = one_of IsWide js key.0 (wide_in js p) key.1 in
      key_breaks js p key.0 key.1 c (causes_up at s z.rows aggs rs xs (expr_names keys) h a.named a.distinct a.made rs_made a.apart a.inside key.0 long c (subst (λ (g : Group). Has g.causes c) (sym key.2) g.2))

  before_breaks : (U : Table) (c : Cause) → IsGiven U ⊎ IsLost U → Has U.broken c → Breaks c
  before_breaks U c (inl (js, p, e)) k = given_breaks js p c (given_causes (out_schema F at first_step (t ∷ [])) z.broken (map first js) c (subst (λ (T : Table). Has T.broken c) e k))
  before_breaks U c (inr (V, g, some, e)) k = lost_break c (lost_here V.rows (first_given F at keys aggs t out out_all).rows c (subst (λ (T : Table). Has T.broken c) e k))

  pub first_breaks : (c : Cause) → IsCaseBrokenBy F at first_step (t ∷ []) c → Breaks c
  first_breaks c (U, inl l, k) = before_breaks U c (before_is U (case_is U l)) (to_has U.broken c k)
  first_breaks c (U, inr g, k) = before_breaks U c (before_is U g) (to_has U.broken c k)

  -- so does a cause of a part that reads no row
  pub free_breaks : (c : Cause) → Has (flat_map (free_causes at) (exprs_of aggs)) c → Breaks c
  free_breaks c k = by ks refl
    where
      none_given : (b : List Cause) → ks ≡ [] → (as_given (out_schema F at whole_step (t ∷ [])) b (map whole ks)).rows ≡ []
      none_given [] e = ap (λ (js : List (List Value)). rows_before_faulty (map whole js)) e
      none_given (c ∷ b) e = refl

      shown_at : (key : List Value) → Has (whole key).causes c
      shown_at key =
          let G = group_rows s z.rows key in
          let x = of_flat (free_causes at) (exprs_of aggs) c k in
          has_flat column_causes (group_columns at (exprs_of aggs) s z.rows key) (eval at G x.0) c (has_map (λ (e : Tree). eval at G e) (exprs_of aggs) x.0 x.1) (shows_free at G x.0 (one_made (exprs_of aggs) a.made x.0 x.1) c x.2)

      by : (js : List (List Value)) → ks ≡ js → Breaks c
      by [] e = lost_break c (lost_free (first_given F at keys aggs t out out_all).rows (none_given z.broken e) c k)
      by (key ∷ js) e = key_breaks ks (IsPermutation-refl ks) key (subst (λ (all : List (List Value)). Has all key) (sym e) (inl refl)) c (shown_at key)

  -- and one of a cell over a row of the reductions
  clear_row : (js : List (List Value)) (row : List Value) → Has (rows_before_faulty (map first js)) row → (key : List Value) × Has js key × ((first key).causes ≡ []) × ((first key).cells ≡ row)
  clear_row [] row k = absurd k
  clear_row (j ∷ js) row k = by (is_empty (first j).causes) refl k (clear_row js row)
    where
      by : (b : Bool) → is_empty (first j).causes ≡ b → Has (cond {A = List (List Value)} b ((first j).cells ∷ rows_before_faulty (map first js)) []) row
          → (Has (rows_before_faulty (map first js)) row → (key : List Value) × Has js key × ((first key).causes ≡ []) × ((first key).cells ≡ row)) → (key : List Value) × Has (j ∷ js) key × ((first key).causes ≡ []) × ((first key).cells ≡ row)
      by true q (inl e) rest = (j, inl refl, is_none (first j).causes q, e)
      by true q (inr k) rest = let r = rest k in (r.0, inr r.1, r.2, r.3)
      by false q k rest = absurd k

  row_of : (b : List Cause) (js : List (List Value)) (row : List Value) → Has (as_given (out_schema F at first_step (t ∷ [])) b (map first js)).rows row → (key : List Value) × Has js key × ((first key).causes ≡ []) × ((first key).cells ≡ row)
  row_of [] js row k = clear_row js row k
  row_of (c ∷ b) js row k = absurd k

  pub row_breaks : (js : List (List Value)) → IsPermutation ks js → (row : List Value) → Has (first_of js).rows row → (c : Cause) → Has (row_causes (cells row)) c → Breaks c
  row_breaks js p row there c k =
      let r = row_of z.broken js row there in
      key_breaks js p r.0 r.1 c (met r.0 r.2 (subst (λ (row : List Value). Has (row_causes (cells row)) c) (sym r.3) k) (meets_at r.0 (one_of IsWide js r.0 (wide_in js p) r.1)))
    where
      met : (key : List Value) → (first key).causes ≡ [] → Has (row_causes (cells (first key).cells)) c → Meets first whole cells key → Has (whole key).causes c
      met key clear k (inl m) = subst (λ (cs : List Cause). Has cs c) m.causes k
      met key clear k (inr m) = absurd (differ (sym (ap is_empty clear) ∙ m.below))

  -- what is large
  abbrev pub Large : Type 0
  Large = IsLargeCase F at whole_step (t ∷ []) ⊎ SomeIsLarge (t ∷ [])

  -- many rows with keys come of a long table, or of a key's long column
  many_rows : max_rows < length z.rows → Large
  many_rows long = let w = rows_long max_rows some_rows at (columns_of t ++ columns_at at (exprs_of keys) t) long in by w.0 (has_either (columns_of t) (columns_at at (exprs_of keys) t) w.0 w.1) w.2
    where
      by : (c : Column) → Has (columns_of t) c ⊎ Has (columns_at at (exprs_of keys) t) c → max_rows < length c.cells → Large
      by c (inl k) many = inr (inl (own_fit max_rows some_rows at t c k many))
      by c (inr k) many =
          let e = of_map (λ (e : Tree). eval at t e) (exprs_of keys) c k in
          inl (inl (inl (e.0, e.0, from_has (exprs_of keys) e.0 e.1, from_has (tree_parts e.0) e.0 (own_part e.0), subst (λ (x : Column). max_rows < length x.cells) (sym e.2) many)))

  many_given : (U : Table) → IsGiven U ⊎ IsLost U → max_rows < length U.rows → Large
  many_given U (inl (js, p, e)) long =
      let k = ap (λ (T : Table). length T.rows) e in
      let f = given_fewer (out_schema F at first_step (t ∷ [])) z.broken (map first js) in
      let l = length-map js first in
      let n = length_permutation ks js p in
      let d = distinct_fewer (map (drop (length s)) z.rows) in
      let m = length-map z.rows (drop (length s)) in
      many_rows (omega arith)
  many_given U (inr (V, g, some, e)) long = let k = ap (λ (T : Table). length T.rows) e in absurd (omega arith)

  pub case_large : (L : Table) → Case F at first_step (t ∷ []) L → max_rows < length L.rows → Large
  case_large L l long = many_given L (before_is L (case_is L l)) long

  column_up : (key : List Value) → HasLargeColumn at (exprs_of rs) (group_rows s z.rows key) → HasLargeColumn at (exprs_of aggs) (group_rows s z.rows key)
  column_up key (e, p, there, part, long) =
      let o = of_flat reductions_in (exprs_of aggs) e (subst (λ (es : List Tree). Has es e) a.inside (to_has (exprs_of rs) e there)) in
      (o.0, p, from_has (exprs_of aggs) o.0 o.1, from_has (tree_parts o.0) p (part_of_part e p (to_has (tree_parts e) p part) o.0 (reduction_part o.0 e o.2)), long)

  some_up : Any (λ (key : List Value). HasLargeColumn at (exprs_of rs) (group_rows s z.rows key)) ks → Any (λ (key : List Value). HasLargeColumn at (exprs_of aggs) (group_rows s z.rows key)) ks
  some_up (i, key, within, is, l) = (i, key, within, is, column_up key l)

  pub first_large : IsLargeCase F at first_step (t ∷ []) ⊎ SomeIsLarge (t ∷ []) → Large
  first_large (inr l) = inr l
  first_large (inl (inl (inl l))) = inl (inl (inl l))
  first_large (inl (inl (inr l))) = inl (inl (inr (some_up l)))
  first_large (inl (inr (U, g, long))) = many_given U (before_is U g) long
