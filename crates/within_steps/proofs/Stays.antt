-- A step over tables that are within others gives a table within one that it gives over those, in whatever order its rows come.
use Rattle.std.proofs.Common.{◌≡◌, ℕ, ◌⊎◌, List, [], ◌∷◌, ◌++◌, length, refl, sym, ap, subst, ◌∙◌, inl, inr}
use Rattle.std.specs.Prelude.{Bool, true, false, map, Some, None, unwrap_or}
use Rattle.ps_frame.specs.Causes.{Cause}
use Rattle.ps_frame.specs.Functions.{Functions, IsLawful}
use Rattle.ps_frame.specs.Tables.{Fields, Table, columns_of, whole}
use Rattle.ps_frame.specs.Zip.{Zipped, zipped}
use Rattle.ps_frame.specs.declared.value.Value.{Value}
use Rattle.ps_meaning.specs.Cases.{Case, Gives, GivesBeforeCut, columns_at, cut_by, first_table, if_whole, joined_table, keyed, out_schema, rows_table, second_table, sorted_rows, table_of, union_rows, where_true, with_group_causes, hstack_places}
use Rattle.ps_meaning.specs.Distinct.{key_places, kept_rows, picked}
use Rattle.ps_meaning.specs.Groups.{Group, groups, groups_table}
use Rattle.ps_meaning.specs.Orders.{IsOrder}
use Rattle.ps_meaning.specs.Schemas.{names_of, schema_or_empty}
use Rattle.ps_meaning.specs.Steps.{Cut, Step, scan, project, select, hstack, filter, slice, sink, row_index, user, sort, union, hconcat, cache, group_by, join, distinct, left_out, GroupStep, JoinStep, DistinctStep, exprs_of, step_cut}
use Rattle.ps_meaning.specs.Within.{Within}
use Rattle.ps_meaning.proofs.Begins.{Begins, begins-empty, begins-filter, begins-map}
use Rattle.ps_meaning.proofs.EvalUnder.{exprs-under, keyed-under}
use Rattle.ps_meaning.proofs.SchemaLaw.{gives-schema, if_whole-schema}
use Rattle.within_steps.specs.Within.{AreWithin}
use Rattle.ps_meaning.proofs.StepWithin.{Part, all-columns, first-within, if_whole-within, index-within, moved, needs-whole, projected-within, schemas-same, second-within, union-within, user-within, within-same, zip-within}
use Rattle.ps_meaning.proofs.Under.{Broken, zipped-under}
use Rattle.ps_meaning.proofs.WithinLemmas.{at_within}
use Rattle.plan_laws.proofs.JoinWithin.{left-broken, right-broken}
use Rattle.std.proofs.lemmas.List.Sorted.{IsPermutation-refl}
use Rattle.ps_meaning.specs.Cases.{user_table}

order_itself : {X : Type 0} (m : Bool) (xs : List X) → IsOrder m xs xs
order_itself true xs = refl
order_itself false xs = IsPermutation-refl xs

cut_within : (cut : Cut) (p l : Table) → Within p l → Within (cut_by cut p) (cut_by cut l)
cut_within None p l w = w
cut_within (Some s) p l w = at_within s.0 s.1 p l w

no_causes : (cs : List Cause) (gs : List Group) → with_group_causes cs gs ≡ [] → cs ≡ []
no_causes [] gs e = refl
no_causes (c ∷ cs) gs e = cc

module _ (F : Functions) (lawful : IsLawful F) (at : ℕ) where
  -- the table of a group-by from its groups
  abbrev given_groups : GroupStep → Fields → List Cause → List Group → Table
  given_groups o out causes gs = if_whole out (with_group_causes causes gs) (groups_table out gs)

  -- a table that the step gives over these before its slice, that another is within
  abbrev StaysBefore : Step → List Table → Table → Type 0
  StaysBefore step ls U = (K : Table) × GivesBeforeCut F at step ls K × Within U K

  abbrev StaysGiven : Step → List Table → Table → Type 0
  StaysGiven step ls U = (K : Table) × Gives F at step ls K × Within U K

  -- a group-by, its groups in any order
  module _ (o : GroupStep) (ps ls : List Table) (w : AreWithin ps ls) where
    abbrev p : Table
    p = first_table ps

    abbrev l : Table
    l = first_table ls

    abbrev zip_of : Table → Zipped
    zip_of t = keyed at (exprs_of o.keys) t

    abbrev groups_of : Fields → Zipped → List Group
    groups_of s z = groups at (exprs_of o.aggregates) s z.rows

    abbrev out_of : List Table → Fields
    out_of ts = out_schema F at (group_by o) ts

    abbrev Same : Type 0
    Same = columns_of p ++ columns_at at (exprs_of o.keys) p ≡ columns_of l ++ columns_at at (exprs_of o.keys) l

    first : Within p l
    first = first-within ps ls w

    out : out_of ps ≡ out_of ls
    out = ap (schema_or_empty F (group_by o)) (schemas-same ps ls w)

    -- the groups in their order
    abbrev ordered_groups : Table
    ordered_groups = given_groups o (out_of ls) (zip_of l).broken (groups_of l.schema (zip_of l))

    gives_ordered : Gives F at (group_by o) ls ordered_groups
    gives_ordered = (groups_of l.schema (zip_of l), order_itself o.maintain_order (groups_of l.schema (zip_of l)), refl)

    its_schema : ordered_groups.schema ≡ out_of ls
    its_schema = if_whole-schema (out_of ls) (with_group_causes (zip_of l).broken (groups_of l.schema (zip_of l))) (groups_table (out_of ls) (groups_of l.schema (zip_of l))) refl

    of_groups : (U : Table) (gs : List Group) → IsOrder o.maintain_order (groups_of p.schema (zip_of p)) gs → U ≡ given_groups o (out_of ps) (zip_of p).broken gs → StaysGiven (group_by o) ls U
    of_groups U gs order g = by (zipped-under false at _ _ (keyed-under at (exprs_of o.keys) p l first))
      where
        by : Same ⊎ Broken (zip_of p).broken × Begins (zip_of p).rows (zip_of l).rows → StaysGiven (group_by o) ls U
        by (inl e) =
            let zips : zip_of p ≡ zip_of l = ap (zipped false at) e in
            let same : given_groups o (out_of ps) (zip_of p).broken gs ≡ given_groups o (out_of ls) (zip_of l).broken gs = λ i. given_groups o (out i) (zips i).broken gs in
            let is = g ∙ same in (
              given_groups o (out_of ls) (zip_of l).broken gs,
              (gs, subst (λ hs. IsOrder o.maintain_order hs gs) (λ i. groups_of (first.same_schema i) (zips i)) order, refl),
              record { same_schema = ap (λ (t : Table). t.schema) is; part = inl is },
            )
        by (inr (broken, b)) =
            let v = if_whole-within (out_of ps) (with_group_causes (zip_of p).broken gs) (groups_table (out_of ps) gs) ordered_groups (λ e. broken (no_causes (zip_of p).broken gs e)) (its_schema ∙ sym out) in
            (ordered_groups, gives_ordered, subst (λ (T : Table). Within T ordered_groups) (sym g) v)

  -- a distinct, its rows in any order
  module _ (o : DistinctStep) (ps ls : List Table) (w : AreWithin ps ls) where
    abbrev q : Table
    q = first_table ps

    abbrev r : Table
    r = first_table ls

    abbrev kept_of : Table → List (List Value)
    kept_of t = kept_rows o.keep (key_places o t.schema) t.rows

    abbrev table_with : Table → List (List Value) → Table
    table_with t rows = if_whole t.schema t.broken (rows_table t.schema rows)

    within_first : Within q r
    within_first = first-within ps ls w

    of_rows : (U : Table) (rows : List (List Value)) → IsOrder o.maintain_order (kept_of q) rows → U ≡ table_with q rows → StaysGiven (distinct o) ls U
    of_rows U rows order g = by within_first.part
      where
        by : (q ≡ r) ⊎ (q.broken ≡ [] → ⊥) × ((rest : List (List Value)) × (q.rows ++ rest ≡ r.rows)) → StaysGiven (distinct o) ls U
        by (inl e) =
            let is = g ∙ ap (λ t. table_with t rows) e in
            (table_with r rows, (rows, subst (λ t. IsOrder o.maintain_order (kept_of t) rows) e order, refl), record { same_schema = ap (λ (t : Table). t.schema) is; part = inl is })
        by (inr (broken, b)) =
            let K = table_with r (kept_of r) in
            let v = if_whole-within q.schema q.broken (rows_table q.schema rows) K broken (if_whole-schema r.schema r.broken (rows_table r.schema (kept_of r)) refl ∙ sym within_first.same_schema) in
            (K, (kept_of r, order_itself o.maintain_order (kept_of r), refl), subst (λ (T : Table). Within T K) (sym g) v)

  join_within : (o : JoinStep) (p l q r : Table) (out out' : Fields) → out ≡ out' → Within p l → Within q r
      → Within (joined_table o p.schema q.schema out (keyed at o.left_on p) (keyed at o.right_on q)) (joined_table o l.schema r.schema out' (keyed at o.left_on l) (keyed at o.right_on r))
  join_within o p l q r out out' eo w v =
      by (zipped-under false at _ _ (keyed-under at o.left_on p l w)) (zipped-under false at _ _ (keyed-under at o.right_on q r v))
    where
      by : (columns_of p ++ columns_at at o.left_on p ≡ columns_of l ++ columns_at at o.left_on l) ⊎ Broken (keyed at o.left_on p).broken × Begins (keyed at o.left_on p).rows (keyed at o.left_on l).rows
          → (columns_of q ++ columns_at at o.right_on q ≡ columns_of r ++ columns_at at o.right_on r) ⊎ Broken (keyed at o.right_on q).broken × Begins (keyed at o.right_on q).rows (keyed at o.right_on r).rows
          → Within (joined_table o p.schema q.schema out (keyed at o.left_on p) (keyed at o.right_on q)) (joined_table o l.schema r.schema out' (keyed at o.left_on l) (keyed at o.right_on r))
      by (inl e) (inl f) =
          let same : joined_table o p.schema q.schema out (keyed at o.left_on p) (keyed at o.right_on q) ≡ joined_table o l.schema r.schema out' (keyed at o.left_on l) (keyed at o.right_on r) =
          λ i. joined_table o (w.same_schema i) (v.same_schema i) (eo i) (zipped false at (e i)) (zipped false at (f i)) in
          record { same_schema = ap (λ (t : Table). t.schema) same; part = inl same }
      by (inr (broken, b)) (inl f) =
          left-broken o p.schema l.schema q.schema r.schema out out' w.same_schema v.same_schema eo (keyed at o.left_on p) (keyed at o.left_on l) (keyed at o.right_on q) (keyed at o.right_on r) broken b (ap (zipped false at) f)
      by h (inr (broken, b)) =
          right-broken o p.schema l.schema q.schema r.schema out out' w.same_schema v.same_schema eo (keyed at o.left_on p) (keyed at o.left_on l) (keyed at o.right_on q) (keyed at o.right_on r) broken

  gives_within : (step : Step) (ps ls : List Table) (T : Table) → AreWithin ps ls → Gives F at step ps T → StaysGiven step ls T
  gives_within (scan t None) ps ls T w g = (_, refl, moved g refl (within-same (whole t)))
  gives_within (scan t (Some ns)) ps ls T w g = (_, refl, moved g refl (within-same _))
  gives_within (project ns) ps ls T w g = (_, refl, moved g refl (projected-within ns _ _ (first_table ps) (first_table ls) (ap (schema_or_empty F (project ns)) (schemas-same ps ls w)) (first-within ps ls w)))
  gives_within (select es) ps ls T w g = (
    _,
    refl,
    moved g refl (zip-within false at _ _ (λ rows. rows) (λ rows. rows) _ _ (ap (schema_or_empty F (select es)) (schemas-same ps ls w)) refl (λ xs ys b. b)
        (zipped-under false at _ _ (exprs-under at (exprs_of es) (first_table ps) (first_table ls) (first-within ps ls w)))),
  )
  gives_within (hstack es) ps ls T w g =
      let out = ap (schema_or_empty F (hstack es)) (schemas-same ps ls w) in
      let first = first-within ps ls w in (
        _,
        refl,
        moved g refl (zip-within false at _ _ (map (picked (hstack_places (names_of (out_schema F at (hstack es) ps)) es (first_table ps).schema))) (map (picked (hstack_places (names_of (out_schema F at (hstack es) ls)) es (first_table ls).schema))) _ _ out
            (λ i. map (picked (hstack_places (names_of (out i)) es (first.same_schema i)))) (λ xs ys b. begins-map _ xs ys b) (zipped-under false at _ _ (keyed-under at (exprs_of es) (first_table ps) (first_table ls) first))),
      )
  gives_within (filter e) ps ls T w g =
      let first = first-within ps ls w in (
        _,
        refl,
        moved g refl (zip-within false at _ _ (where_true (length (first_table ps).schema)) (where_true (length (first_table ls).schema)) _ _ first.same_schema (λ i. where_true (length (first.same_schema i)))
            (λ xs ys b. begins-map _ _ _ (begins-filter _ xs ys b)) (zipped-under false at _ _ (keyed-under at (e ∷ []) (first_table ps) (first_table ls) first))),
      )
  gives_within (slice offset n) ps ls T w g = (_, refl, moved g refl (at_within offset n (first_table ps) (first_table ls) (first-within ps ls w)))
  gives_within (sink payload) ps ls T w g = (_, refl, moved g refl (first-within ps ls w))
  gives_within (row_index name offset) ps ls T w g =
      (_, refl, moved g refl (index-within at _ _ (unwrap_or offset 0) (first_table ps) (first_table ls) (ap (schema_or_empty F (row_index name offset)) (schemas-same ps ls w)) (first-within ps ls w)))
  gives_within (user n) ps ls T w g =
      let out = ap (schema_or_empty F (user n)) (schemas-same ps ls w) in
      (_, refl, moved g refl (user-within F at n _ _ (first_table ps) (first_table ls) out (gives-schema F lawful at (user n) ls (user_table F at n (out_schema F at (user n) ls) (first_table ls)) refl) (first-within ps ls w)))
  gives_within (sort o) ps ls T w g =
      let first = first-within ps ls w in (
        _,
        refl,
        moved g refl (needs-whole at (λ s out z. table_of out (sorted_rows o (length s)) z) (first_table ps).schema (first_table ls).schema (first_table ps).schema (first_table ls).schema _ _ (λ z. refl) first.same_schema first.same_schema
            (zipped-under false at _ _ (keyed-under at o.keys (first_table ps) (first_table ls) first))),
      )
  gives_within (union cut) ps ls T w g = (_, refl, moved g refl (by (union-within ps ls w)))
    where
      out : out_schema F at (union cut) ps ≡ out_schema F at (union cut) ls
      out = ap (schema_or_empty F (union cut)) (schemas-same ps ls w)

      by : Part (union_rows ps) (union_rows ls) → Within (table_of (out_schema F at (union cut) ps) (λ rows. rows) (union_rows ps)) (table_of (out_schema F at (union cut) ls) (λ rows. rows) (union_rows ls))
      by (inl e) = record { same_schema = out; part = inl (λ i. table_of (out i) (λ rows. rows) (e i)) }
      by (inr h) = record { same_schema = out; part = inr h }
  gives_within hconcat ps ls T w g =
      (_, refl, moved g refl (zip-within true at _ _ (λ rows. rows) (λ rows. rows) _ _ (ap (schema_or_empty F hconcat) (schemas-same ps ls w)) refl (λ xs ys b. b) (zipped-under true at _ _ (all-columns ps ls w))))
  gives_within (cache id) ps ls T w g = (_, refl, moved g refl (first-within ps ls w))
  gives_within (join o) ps ls T w g =
      (_, refl, moved g refl (join_within o (first_table ps) (first_table ls) (second_table ps) (second_table ls) _ _ (ap (schema_or_empty F (join o)) (schemas-same ps ls w)) (first-within ps ls w) (second-within ps ls w)))
  gives_within (group_by o) ps ls T w (gs, order, g) = of_groups o ps ls w T gs order g
  gives_within (distinct o) ps ls T w (rows, order, g) = of_rows o ps ls w T rows order g
  gives_within (left_out what) ps ls T w g = absurd g

  before_within : (step : Step) (ps ls : List Table) (U : Table) → AreWithin ps ls → GivesBeforeCut F at step ps U → StaysBefore step ls U
  before_within step ps ls U w (inl g) = let k = gives_within step ps ls U w g in (k.0, inl k.1, k.2)
  before_within step ps ls U w (inr (V, g, lost, e)) =
      let k = gives_within step ps ls V w g in
      (k.0, inl k.1, subst (λ (T : Table). Within T k.0) (sym e) (record { same_schema = k.2.same_schema; part = inr (lost, begins-empty k.0.rows) }))

  pub steps_stay : (step : Step) (ps ls : List Table) (T : Table) → AreWithin ps ls → Case F at step ps T → (K : Table) × Case F at step ls K × Within T K
  steps_stay step ps ls T w (U, before, e) =
      let k = before_within step ps ls U w before in
      (cut_by (step_cut step) k.0, (k.0, k.1, refl), subst (λ (T : Table). Within T (cut_by (step_cut step) k.0)) (sym e) (cut_within (step_cut step) U k.0 k.2))
