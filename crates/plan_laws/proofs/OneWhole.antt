-- A plan whose nodes all fix their order has at most one whole table: whatever it means is within one table.
use Rattle.std.proofs.Common.{◌≡◌, ℕ, ◌⊎◌, List, [], ◌∷◌, ◌++◌, length, refl, sym, ap, subst, ◌∙◌, inl, inr}
use Rattle.std.specs.Prelude.{Bool, true, false, map, Some, None, unwrap_or}
use Rattle.ps_frame.specs.Causes.{Cause}
use Rattle.ps_frame.specs.Functions.{Functions, IsLawful}
use Rattle.ps_frame.specs.Tables.{Fields, Table, columns_of, no_rows, whole}
use Rattle.ps_frame.specs.Zip.{Zipped, zipped}
use Rattle.ps_frame.specs.declared.value.Value.{Value}
use Rattle.ps_meaning.specs.Cases.{Case, Gives, GivesBeforeCut, columns_at, cut_by, first_table, if_whole, joined_table, keyed, out_schema, rows_table, second_table, sorted_rows, table_of, union_rows, where_true, with_group_causes, hstack_places}
use Rattle.ps_meaning.specs.Distinct.{key_places, kept_rows, picked}
use Rattle.ps_meaning.specs.Groups.{Group, groups, groups_table}
use Rattle.ps_meaning.specs.Laws.{IsBuilt}
use Rattle.plan_laws.specs.Laws.{FixesOrder}
use Rattle.ps_meaning.specs.Laws.{EachStep, EachStepOf}
use Rattle.ps_meaning.specs.Meaning.{Choice, Means, by_case, AllMean, none_mean, more_mean, IsWholeMeaning}
use Rattle.ps_meaning.specs.Orders.{IsOrder}
use Rattle.ps_meaning.specs.PlanTrees.{PlanTree, node, missing, PlanTrees, no_trees, tree}
use Rattle.ps_meaning.specs.Schemas.{names_of, schema_or_empty}
use Rattle.ps_meaning.specs.Steps.{Cut, Step, scan, project, select, hstack, filter, slice, sink, row_index, user, sort, union, hconcat, cache, group_by, join, distinct, left_out, GroupStep, JoinStep, DistinctStep, exprs_of, step_cut}
use Rattle.ps_meaning.specs.Within.{Within}
use Rattle.ps_meaning.proofs.Begins.{Begins, begins-empty, begins-filter, begins-map}
use Rattle.plan_laws.proofs.ChoiceLaw.{some_given}
use Rattle.ps_meaning.proofs.EvalUnder.{exprs-under, keyed-under}
use Rattle.ps_meaning.proofs.SchemaLaw.{gives-schema, if_whole-schema}
use Rattle.ps_meaning.proofs.StepWithin.{AllWithin, Part, all-columns, first-within, if_whole-within, index-within, moved, needs-whole, projected-within, schemas-same, second-within, union-within, user-within, within-same, zip-within}
use Rattle.ps_meaning.proofs.Under.{Broken, zipped-under}
use Rattle.ps_meaning.proofs.WithinLemmas.{at_within}
use Rattle.plan_laws.proofs.JoinWithin.{left-broken, right-broken}

-- an order that is kept is the first one
kept-order : {X : Type 0} (b : Bool) (xs ys : List X) → b ≡ true → IsOrder b xs ys → ys ≡ xs
kept-order true xs ys e h = h
kept-order false xs ys e h = cc

module _ (F : Functions) (lawful : IsLawful F) (at : ℕ) where
  -- the table of a group-by from its groups
  abbrev given-groups : GroupStep → Fields → List Cause → List Group → Table
  given-groups o out causes gs = if_whole out (with_group_causes causes gs) (groups_table out gs)

  no-causes : (cs : List Cause) (gs : List Group) → with_group_causes cs gs ≡ [] → cs ≡ []
  no-causes [] gs e = refl
  no-causes (c ∷ cs) gs e = cc

  groups-within : (o : GroupStep) (p l : Table) (out out' : Fields) → out ≡ out' → Within p l
      → Within (given-groups o out (keyed at (exprs_of o.keys) p).broken (groups at (exprs_of o.aggregates) p.schema (keyed at (exprs_of o.keys) p).rows))
      (given-groups o out' (keyed at (exprs_of o.keys) l).broken (groups at (exprs_of o.aggregates) l.schema (keyed at (exprs_of o.keys) l).rows))
  groups-within o p l out out' eo w = by (zipped-under false at _ _ (keyed-under at (exprs_of o.keys) p l w))
    where
      table : Fields → Fields → Zipped → Table
      table s out z = given-groups o out z.broken (groups at (exprs_of o.aggregates) s z.rows)

      by : (columns_of p ++ columns_at at (exprs_of o.keys) p ≡ columns_of l ++ columns_at at (exprs_of o.keys) l) ⊎ Broken (keyed at (exprs_of o.keys) p).broken × Begins (keyed at (exprs_of o.keys) p).rows (keyed at (exprs_of o.keys) l).rows
          → Within (table p.schema out (keyed at (exprs_of o.keys) p)) (table l.schema out' (keyed at (exprs_of o.keys) l))
      by (inl e) =
          let same : table p.schema out (keyed at (exprs_of o.keys) p) ≡ table l.schema out' (keyed at (exprs_of o.keys) l) = λ i. table (w.same_schema i) (eo i) (zipped false at (e i)) in
          record { same_schema = ap (λ (t : Table). t.schema) same; part = inl same }
      by (inr (broken, b)) =
          let gs = groups at (exprs_of o.aggregates) p.schema (keyed at (exprs_of o.keys) p).rows in
          if_whole-within out (with_group_causes (keyed at (exprs_of o.keys) p).broken gs) (groups_table out gs) (table l.schema out' (keyed at (exprs_of o.keys) l)) (λ e. broken (no-causes (keyed at (exprs_of o.keys) p).broken gs e))
          (if_whole-schema out' (with_group_causes (keyed at (exprs_of o.keys) l).broken (groups at (exprs_of o.aggregates) l.schema (keyed at (exprs_of o.keys) l).rows)) (groups_table out' (groups at (exprs_of o.aggregates) l.schema (keyed at (exprs_of o.keys) l).rows)) refl ∙ sym eo)

  join-within : (o : JoinStep) (p l q r : Table) (out out' : Fields) → out ≡ out' → Within p l → Within q r
      → Within (joined_table o p.schema q.schema out (keyed at o.left_on p) (keyed at o.right_on q)) (joined_table o l.schema r.schema out' (keyed at o.left_on l) (keyed at o.right_on r))
  join-within o p l q r out out' eo w v =
      by (zipped-under false at _ _ (keyed-under at o.left_on p l w)) (zipped-under false at _ _ (keyed-under at o.right_on q r v))
    where
      by : (columns_of p ++ columns_at at o.left_on p ≡ columns_of l ++ columns_at at o.left_on l) ⊎ Broken (keyed at o.left_on p).broken × Begins (keyed at o.left_on p).rows (keyed at o.left_on l).rows
          → (columns_of q ++ columns_at at o.right_on q ≡ columns_of r ++ columns_at at o.right_on r) ⊎ Broken (keyed at o.right_on q).broken × Begins (keyed at o.right_on q).rows (keyed at o.right_on r).rows
          → Within (joined_table o p.schema q.schema out (keyed at o.left_on p) (keyed at o.right_on q)) (joined_table o l.schema r.schema out' (keyed at o.left_on l) (keyed at o.right_on r))
      by (inl e) (inl f) =
          let same : joined_table o p.schema q.schema out (keyed at o.left_on p) (keyed at o.right_on q) ≡ joined_table o l.schema r.schema out' (keyed at o.left_on l) (keyed at o.right_on r) =
          λ i. joined_table o (w.same_schema i) (v.same_schema i) (eo i) (zipped false at (e i)) (zipped false at (f i)) in
          record { same_schema = ap (λ (t : Table). t.schema) same; part = inl same }
      by (inr (broken, b)) (inl f) =
          left-broken o p.schema l.schema q.schema r.schema out out' w.same_schema v.same_schema eo (keyed at o.left_on p) (keyed at o.left_on l) (keyed at o.right_on q) (keyed at o.right_on r) broken b (ap (zipped false at) f)
      by h (inr (broken, b)) =
          right-broken o p.schema l.schema q.schema r.schema out out' w.same_schema v.same_schema eo (keyed at o.left_on p) (keyed at o.left_on l) (keyed at o.right_on q) (keyed at o.right_on r) broken

  distinct-within : (o : DistinctStep) (p l : Table) → Within p l
      → Within (if_whole p.schema p.broken (rows_table p.schema (kept_rows o.keep (key_places o p.schema) p.rows))) (if_whole l.schema l.broken (rows_table l.schema (kept_rows o.keep (key_places o l.schema) l.rows)))
  distinct-within o p l w = by w.part
    where
      by : (p ≡ l) ⊎ (p.broken ≡ [] → ⊥) × ((rest : List (List Value)) × (p.rows ++ rest ≡ l.rows))
          → Within (if_whole p.schema p.broken (rows_table p.schema (kept_rows o.keep (key_places o p.schema) p.rows))) (if_whole l.schema l.broken (rows_table l.schema (kept_rows o.keep (key_places o l.schema) l.rows)))
      by (inl e) = subst (λ l. Within (if_whole p.schema p.broken (rows_table p.schema (kept_rows o.keep (key_places o p.schema) p.rows))) (if_whole l.schema l.broken (rows_table l.schema (kept_rows o.keep (key_places o l.schema) l.rows)))) e (within-same (if_whole p.schema p.broken (rows_table p.schema (kept_rows o.keep (key_places o p.schema) p.rows))))
      by (inr (broken, b)) =
          let rows = rows_table l.schema (kept_rows o.keep (key_places o l.schema) l.rows) in
          if_whole-within p.schema p.broken (rows_table p.schema (kept_rows o.keep (key_places o p.schema) p.rows)) (if_whole l.schema l.broken rows) broken (if_whole-schema l.schema l.broken rows refl ∙ sym w.same_schema)

  step-within : (step : Step) (ps ls : List Table) (T K : Table) → FixesOrder step → AllWithin ps ls → Gives F at step ps T → Gives F at step ls K → Within T K
  step-within (scan t None) ps ls T K p w g h = moved g h (within-same (whole t))
  step-within (scan t (Some ns)) ps ls T K p w g h = moved g h (within-same _)
  step-within (project ns) ps ls T K p w g h = moved g h (projected-within ns _ _ (first_table ps) (first_table ls) (ap (schema_or_empty F (project ns)) (schemas-same ps ls w)) (first-within ps ls w))
  step-within (select es) ps ls T K p w g h =
      moved g h (zip-within false at _ _ (λ rows. rows) (λ rows. rows) _ _ (ap (schema_or_empty F (select es)) (schemas-same ps ls w)) refl (λ xs ys b. b)
      (zipped-under false at _ _ (exprs-under at (exprs_of es) (first_table ps) (first_table ls) (first-within ps ls w))))
  step-within (hstack es) ps ls T K p w g h =
      let out = ap (schema_or_empty F (hstack es)) (schemas-same ps ls w) in
      let first = first-within ps ls w in
      moved g h (zip-within false at _ _ (map (picked (hstack_places (names_of (out_schema F at (hstack es) ps)) es (first_table ps).schema))) (map (picked (hstack_places (names_of (out_schema F at (hstack es) ls)) es (first_table ls).schema))) _ _ out
      (λ i. map (picked (hstack_places (names_of (out i)) es (first.same_schema i)))) (λ xs ys b. begins-map _ xs ys b) (zipped-under false at _ _ (keyed-under at (exprs_of es) (first_table ps) (first_table ls) first)))
  step-within (filter e) ps ls T K p w g h =
      let first = first-within ps ls w in
      moved g h (zip-within false at _ _ (where_true (length (first_table ps).schema)) (where_true (length (first_table ls).schema)) _ _ first.same_schema (λ i. where_true (length (first.same_schema i)))
      (λ xs ys b. begins-map _ _ _ (begins-filter _ xs ys b)) (zipped-under false at _ _ (keyed-under at (e ∷ []) (first_table ps) (first_table ls) first)))
  step-within (slice offset n) ps ls T K p w g h = moved g h (at_within offset n (first_table ps) (first_table ls) (first-within ps ls w))
  step-within (sink payload) ps ls T K p w g h = moved g h (first-within ps ls w)
  step-within (row_index name offset) ps ls T K p w g h =
      moved g h (index-within at _ _ (unwrap_or offset 0) (first_table ps) (first_table ls) (ap (schema_or_empty F (row_index name offset)) (schemas-same ps ls w)) (first-within ps ls w))
  step-within (user n) ps ls T K p w g h =
      let out = ap (schema_or_empty F (user n)) (schemas-same ps ls w) in
      moved g h (user-within F at n _ _ (first_table ps) (first_table ls) out (ap (λ (t : Table). t.schema) (sym h) ∙ gives-schema F lawful at (user n) ls K h) (first-within ps ls w))
  step-within (sort o) ps ls T K p w g h =
      let first = first-within ps ls w in
      moved g h (needs-whole at (λ s out z. table_of out (sorted_rows o (length s)) z) (first_table ps).schema (first_table ls).schema (first_table ps).schema (first_table ls).schema _ _ (λ z. refl) first.same_schema first.same_schema
      (zipped-under false at _ _ (keyed-under at o.keys (first_table ps) (first_table ls) first)))
  step-within (union cut) ps ls T K p w g h = moved g h (by (union-within ps ls w))
    where
      out : out_schema F at (union cut) ps ≡ out_schema F at (union cut) ls
      out = ap (schema_or_empty F (union cut)) (schemas-same ps ls w)

      by : Part (union_rows ps) (union_rows ls) → Within (table_of (out_schema F at (union cut) ps) (λ rows. rows) (union_rows ps)) (table_of (out_schema F at (union cut) ls) (λ rows. rows) (union_rows ls))
      by (inl e) = record { same_schema = out; part = inl (λ i. table_of (out i) (λ rows. rows) (e i)) }
      by (inr h) = record { same_schema = out; part = inr h }
  step-within hconcat ps ls T K p w g h =
      moved g h (zip-within true at _ _ (λ rows. rows) (λ rows. rows) _ _ (ap (schema_or_empty F hconcat) (schemas-same ps ls w)) refl (λ xs ys b. b) (zipped-under true at _ _ (all-columns ps ls w)))
  step-within (cache id) ps ls T K p w g h = moved g h (first-within ps ls w)
  step-within (group_by o) ps ls T K p w (gs, order, g) (hs, order', h) =
      let first = first-within ps ls w in
      let out = ap (schema_or_empty F (group_by o)) (schemas-same ps ls w) in
      let a = g ∙ ap (λ gs. given-groups o (out_schema F at (group_by o) ps) (keyed at (exprs_of o.keys) (first_table ps)).broken gs) (kept-order o.maintain_order _ gs p order) in
      let b = h ∙ ap (λ gs. given-groups o (out_schema F at (group_by o) ls) (keyed at (exprs_of o.keys) (first_table ls)).broken gs) (kept-order o.maintain_order _ hs p order') in
      moved a b (groups-within o (first_table ps) (first_table ls) _ _ out first)
  step-within (join o) ps ls T K p w g h =
      moved g h (join-within o (first_table ps) (first_table ls) (second_table ps) (second_table ls) _ _ (ap (schema_or_empty F (join o)) (schemas-same ps ls w)) (first-within ps ls w) (second-within ps ls w))
  step-within (distinct o) ps ls T K p w (rows, order, g) (more, order', h) =
      let a = g ∙ ap (λ rows. if_whole (first_table ps).schema (first_table ps).broken (rows_table (first_table ps).schema rows)) (kept-order o.maintain_order _ rows p order) in
      let b = h ∙ ap (λ rows. if_whole (first_table ls).schema (first_table ls).broken (rows_table (first_table ls).schema rows)) (kept-order o.maintain_order _ more p order') in
      moved a b (distinct-within o (first_table ps) (first_table ls) (first-within ps ls w))
  step-within (left_out what) ps ls T K p w g h = absurd g

cut_by-within : (cut : Cut) (p l : Table) → Within p l → Within (cut_by cut p) (cut_by cut l)
cut_by-within None p l w = w
cut_by-within (Some s) p l w = at_within s.0 s.1 p l w

module _ (F : Functions) (lawful : IsLawful F) where
  -- the table that a step gives, its rows in the order of the definitions
  abbrev pub given : ℕ → Step → List Table → Table
  given at (left_out what) ts = no_rows [] []
  given at step ts = (some_given F at step ts tt).0

  pub given-gives : (at : ℕ) (step : Step) (ts : List Table) → IsBuilt step → Gives F at step ts (given at step ts)
  given-gives at (left_out what) ts b = absurd b
  given-gives at step ts b = (some_given F at step ts tt).1

  built : (at : ℕ) (step : Step) (ts : List Table) (T : Table) → Gives F at step ts T → IsBuilt step
  built at (left_out what) ts T g = g
  built at _ ts T g = tt

  -- the table that a plan has where each step gives its rows in that order
  abbrev mutual
    pub ordered : PlanTree → Table
    ordered (node at step below) = cut_by (step_cut step) (given at step (all_ordered below))
    ordered missing = no_rows [] []

    pub all_ordered : PlanTrees → List Table
    all_ordered no_trees = []
    all_ordered (tree t ts) = ordered t ∷ all_ordered ts

  before-within : (at : ℕ) (step : Step) (ps ls : List Table) (T K : Table) → FixesOrder step → AllWithin ps ls → GivesBeforeCut F at step ps T → Gives F at step ls K → Within T K
  before-within at step ps ls T K p w (inl g) h = step-within F lawful at step ps ls T K p w g h
  before-within at step ps ls T K p w (inr (V, g, some, e)) h =
      let v = step-within F lawful at step ps ls V K p w g h in
      subst (λ T. Within T K) (sym e) (record { same_schema = v.same_schema; part = inr (some, begins-empty K.rows) })

  built-before : (at : ℕ) (step : Step) (ts : List Table) (T : Table) → GivesBeforeCut F at step ts T → IsBuilt step
  built-before at step ts T (inl g) = built at step ts T g
  built-before at step ts T (inr (V, g, some, e)) = built at step ts V g

  case-within : (at : ℕ) (step : Step) (ps ls : List Table) (T : Table) → FixesOrder step → AllWithin ps ls → Case F at step ps T → Within T (cut_by (step_cut step) (given at step ls))
  case-within at step ps ls T p w (U, before, e) =
      let h = given-gives at step ls (built-before at step ps U before) in
      subst (λ T. Within T (cut_by (step_cut step) (given at step ls))) (sym e) (cut_by-within (step_cut step) U (given at step ls) (before-within at step ps ls U (given at step ls) p w before h))

  module _ (c : Choice) where
    mutual
      pub means-within : {t : PlanTree} {T : Table} → Means F c t T → EachStep FixesOrder t → Within T (ordered t)
      means-within (by_case {at} {step} {below} {Ts} {T} ms k chosen) p = case-within at step Ts (all_ordered below) T p.0 (all_mean-within ms p.1) k

      all_mean-within : {ts : PlanTrees} {Ts : List Table} → AllMean F c ts Ts → EachStepOf FixesOrder ts → AllWithin Ts (all_ordered ts)
      all_mean-within none_mean p = tt
      all_mean-within (more_mean m ms) p = (means-within m p.0, all_mean-within ms p.1)

  whole-is : (t : PlanTree) (T : Table) → EachStep FixesOrder t → IsWholeMeaning F t T → T ≡ ordered t
  whole-is t T p ((c, m), is_whole) = by (means-within c m p).part
    where
      by : (T ≡ ordered t) ⊎ (T.broken ≡ [] → ⊥) × ((rest : List (List Value)) × (T.rows ++ rest ≡ (ordered t).rows)) → T ≡ ordered t
      by (inl e) = e
      by (inr (broken, b)) = absurd (broken is_whole)

  pub one-whole : (t : PlanTree) (T U : Table) → EachStep FixesOrder t → IsWholeMeaning F t T → IsWholeMeaning F t U → T ≡ U
  one-whole t T U p m n = whole-is t T p m ∙ sym (whole-is t U p n)
