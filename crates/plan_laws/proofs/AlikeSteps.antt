-- A step over tables that end alike gives tables that end alike.
use Rattle.std.proofs.Common.{◌≡◌, ℕ, ◌+◌, ◌-◌, ◌⊎◌, ℤ, pos, negsuc, Bool, true, false, not, cond, ◌&&◌, List, [], ◌∷◌, ◌++◌, length, take, drop, Some, None, refl, sym, ap, subst, ◌∙◌, inl, inr}
use Rattle.std.proofs.lemmas.List.Elements.{Contains-append_left, Contains-append_right}
use Rattle.std.specs.Prelude.{Contains, flat_map, if◌then◌else◌, map, nat_eq, nat_lt, unwrap_or, ⊤}
use Rattle.ps_frame.specs.Aggregates.{max_rows}
use Rattle.ps_frame.specs.Causes.{Cause, is_empty}
use Rattle.ps_frame.specs.Free.{free_causes}
use Rattle.ps_frame.specs.Functions.{Functions}
use Rattle.ps_frame.specs.Tables.{Fields, Table, no_rows}
use Rattle.ps_frame.specs.Zip.{Zipped}
use Rattle.ps_frame.specs.declared.value.DataFault.TheVariants as fault
use Rattle.ps_frame.specs.declared.value.Value.{Value}
use Rattle.ps_meaning.specs.Cases.{Case, Gives, GivesBeforeCut, all_columns, answer_or_fault, cut_at, cut_by, end_of, first_table, hstack_places, if_whole, joined_table, keyed, lost_causes, numbered, out_schema, rows_from_end, rows_table, schemas_of, second_table, sorted_rows, stream_table, streamed, table_of, union_rows, user_table, where_true, with_group_causes, with_row_index}
use Rattle.ps_meaning.specs.Distinct.{key_places, kept_rows, picked, places_in}
use Rattle.ps_meaning.specs.Groups.{Group, group_causes_lost, groups, groups_table}
use Rattle.ps_meaning.specs.Joins.{front_rows, goes_by_left, join_rows}
use Rattle.ps_meaning.specs.Orders.{IsOrder}
use Rattle.ps_meaning.specs.Schemas.{names_of, schema_or_empty}
use Rattle.ps_meaning.specs.Steps.{Cut, JoinStep, Step, scan, project, select, hstack, filter, slice, sink, row_index, user, sort, union, hconcat, cache, group_by, join, distinct, left_out, exprs_of, step_cut}
use Rattle.ps_meaning.specs.Within.{EndAlike}
use Rattle.ps_meaning.proofs.StepWithin.{united}
use Rattle.ps_meaning.proofs.WithinLemmas.{has_all}
use Rattle.plan_laws.proofs.AlikeColumns.{AllAlike, Ends, ZipAlike, ends-append, ends-same, zipped-alike}
use Rattle.plan_laws.proofs.AlikeEval.{TableAlike, both-columns, columns-alike, exprs-alike, keyed-alike}
use Rattle.plan_laws.specs.Laws.{AllEndAlike, causes_of}

module _ (Q : Cause → Type 0) where
  table-same : (t : Table) → TableAlike Q t t
  table-same t = record { schema = refl; rows = refl; ends = ends-same Q t.broken }

  given-by : {T X K : Table} → T ≡ X → TableAlike Q X K → TableAlike Q T K
  given-by {T} {X} {K} e a = subst (λ (T : Table). TableAlike Q T K) (sym e) a

  of-zip : (s s' : Fields) (f g : List (List Value) → List (List Value)) (z w : Zipped) → s ≡ s' → f ≡ g → ZipAlike Q z w → TableAlike Q (table_of s f z) (table_of s' g w)
  of-zip s s' f g z w es ef a = record { schema = es; rows = λ i. ef i (a.rows i); ends = a.ends }

  where-whole : (s s' : Fields) (cs ds : List Cause) (t u : Table) → s ≡ s' → Ends Q cs ds → TableAlike Q t u → TableAlike Q (if_whole s cs t) (if_whole s' ds u)
  where-whole s s' [] [] t u es e a = a
  where-whole s s' [] (d ∷ ds) t u es e a = let never = e.empty in cc
  where-whole s s' (c ∷ cs) [] t u es e a = let never = e.empty in cc
  where-whole s s' (c ∷ cs) (d ∷ ds) t u es e a = record { schema = es; rows = refl; ends = e }

  of-rows : (s s' : Fields) (xs ys : List (List Value)) → s ≡ s' → xs ≡ ys → TableAlike Q (rows_table s xs) (rows_table s' ys)
  of-rows s s' xs ys es e = record { schema = es; rows = e; ends = ends-same Q [] }

  -- slices
  unless : (b : Bool) (cs ds : List Cause) → Ends Q cs ds → Ends Q (cond b [] cs) (cond b [] ds)
  unless true cs ds e = ends-same Q []
  unless false cs ds e = e

  at-alike : (offset : ℤ) (n : ℕ) (p l : Table) → TableAlike Q p l → TableAlike Q (cut_at offset n p) (cut_at offset n l)
  at-alike (pos o) n p l a =
      record {
        schema = a.schema;
        rows = ap (λ rows. drop o (take (end_of o n) rows)) a.rows;
        ends = subst (λ b. Ends Q (cond {A = List Cause} (has_all o n p.rows) [] p.broken) (cond {A = List Cause} b [] l.broken)) (ap (has_all o n) a.rows) (unless (has_all o n p.rows) p.broken l.broken a.ends);
      }
  at-alike (negsuc k) n p l a = by (nat_eq n 0)
    where
      by : (b : Bool)
          → TableAlike Q (if b then no_rows p.schema [] else if_whole p.schema p.broken (rows_table p.schema (rows_from_end (k + 1) n p.rows)))
          (if b then no_rows l.schema [] else if_whole l.schema l.broken (rows_table l.schema (rows_from_end (k + 1) n l.rows)))
      by true = record { schema = a.schema; rows = refl; ends = ends-same Q [] }
      by false =
          where-whole p.schema l.schema p.broken l.broken (rows_table p.schema (rows_from_end (k + 1) n p.rows)) (rows_table l.schema (rows_from_end (k + 1) n l.rows)) a.schema a.ends
          (of-rows p.schema l.schema (rows_from_end (k + 1) n p.rows) (rows_from_end (k + 1) n l.rows) a.schema (ap (rows_from_end (k + 1) n) a.rows))

  by-alike : (cut : Cut) (p l : Table) → TableAlike Q p l → TableAlike Q (cut_by cut p) (cut_by cut l)
  by-alike None p l a = a
  by-alike (Some s) p l a = at-alike s.0 s.1 p l a

  -- row numbers
  index-alike : (at : ℕ) (s s' : Fields) (offset : ℕ) (p l : Table) → s ≡ s' → TableAlike Q p l → TableAlike Q (with_row_index at s offset p) (with_row_index at s' offset l)
  index-alike at s s' offset p l es a =
      record {
        schema = es;
        rows = ap (λ rows. numbered offset (take (max_rows - offset) rows)) a.rows;
        ends = ends-append Q p.broken (past p.rows) l.broken (past l.rows) a.ends (subst (λ rows. Ends Q (past p.rows) (past rows)) a.rows (ends-same Q (past p.rows)));
      }
    where
      past : List (List Value) → List Cause
      past rows = if nat_lt (max_rows - offset) (length rows) then record { fault = fault.RowIndex; node = at } ∷ [] else []

  -- functions
  user-alike : (F : Functions) (at n : ℕ) (s s' : Fields) (p l : Table) → s ≡ s' → TableAlike Q p l → TableAlike Q (user_table F at n s p) (user_table F at n s' l)
  user-alike F at n s s' p l es a = by (F.streams n)
    where
      answered : Fields → List (List Value) → Zipped
      answered schema rows = streamed at (λ r. F.answer n (record { schema = schema; rows = r ∷ [] })) rows

      zips : answered p.schema p.rows ≡ answered l.schema l.rows
      zips = λ i. answered (a.schema i) (a.rows i)

      by : (b : Bool)
          → TableAlike Q (if b then stream_table F at n s p else if_whole s p.broken (answer_or_fault at s (F.answer n (record { schema = p.schema; rows = p.rows }))))
          (if b then stream_table F at n s' l else if_whole s' l.broken (answer_or_fault at s' (F.answer n (record { schema = l.schema; rows = l.rows }))))
      by true =
          record {
            schema = es;
            rows = ap (λ (z : Zipped). z.rows) zips;
            ends = ends-append Q p.broken (answered p.schema p.rows).broken l.broken (answered l.schema l.rows).broken a.ends (subst (λ (z : Zipped). Ends Q (answered p.schema p.rows).broken z.broken) zips (ends-same Q (answered p.schema p.rows).broken));
          }
      by false =
          where-whole s s' p.broken l.broken (answer_or_fault at s (F.answer n (record { schema = p.schema; rows = p.rows }))) (answer_or_fault at s' (F.answer n (record { schema = l.schema; rows = l.rows }))) es a.ends
          (subst (TableAlike Q (answer_or_fault at s (F.answer n (record { schema = p.schema; rows = p.rows })))) (λ i. answer_or_fault at (es i) (F.answer n (record { schema = a.schema i; rows = a.rows i }))) (table-same _))

  -- a group-by's causes
  group-ends : (cs ds : List Cause) (gs : List Group) → Ends Q cs ds → Ends Q (with_group_causes cs gs) (with_group_causes ds gs)
  group-ends [] [] gs e = ends-same Q []
  group-ends [] (d ∷ ds) gs e = let never = e.empty in cc
  group-ends (c ∷ cs) [] gs e = let never = e.empty in cc
  group-ends (c ∷ cs) (d ∷ ds) gs e = ends-append Q (c ∷ cs) (flat_map (λ (g : Group). g.causes) gs) (d ∷ ds) (flat_map (λ (g : Group). g.causes) gs) e (ends-same Q (flat_map (λ (g : Group). g.causes) gs))

  -- joins
  joined-alike : (o : JoinStep) (s s' q q' out out' : Fields) (l l' r r' : Zipped) → s ≡ s' → q ≡ q' → out ≡ out' → ZipAlike Q l l' → ZipAlike Q r r' → TableAlike Q (joined_table o s q out l r) (joined_table o s' q' out' l' r')
  joined-alike o s s' q q' out out' l l' r r' es eq eo a b = subst (λ t. TableAlike Q (joined_table o s q out l r) (given t s' q' out' l' r')) same (by (goes_by_left o.args.how && (is_empty r.broken && not (is_empty l.broken))))
    where
      given : Bool → (s q out : Fields) → Zipped → Zipped → Table
      given t s q out l r =
          if t then record { schema = out; rows = front_rows o s q l.rows r.rows; broken = l.broken }
          else if_whole out (l.broken ++ r.broken) (rows_table out (join_rows o s q l.rows r.rows))

      same : (goes_by_left o.args.how && (is_empty r.broken && not (is_empty l.broken))) ≡ (goes_by_left o.args.how && (is_empty r'.broken && not (is_empty l'.broken)))
      same = λ i. goes_by_left o.args.how && (b.ends.empty i && not (a.ends.empty i))

      by : (t : Bool) → TableAlike Q (given t s q out l r) (given t s' q' out' l' r')
      by true = record { schema = eo; rows = λ i. front_rows o (es i) (eq i) (a.rows i) (b.rows i); ends = a.ends }
      by false =
          where-whole out out' (l.broken ++ r.broken) (l'.broken ++ r'.broken) (rows_table out (join_rows o s q l.rows r.rows)) (rows_table out' (join_rows o s' q' l'.rows r'.rows)) eo (ends-append Q l.broken r.broken l'.broken r'.broken a.ends b.ends)
          (of-rows out out' (join_rows o s q l.rows r.rows) (join_rows o s' q' l'.rows r'.rows) eo (λ i. join_rows o (es i) (eq i) (a.rows i) (b.rows i)))

  -- several tables
  abbrev pub AllTables : List Table → List Table → Type 0
  AllTables [] [] = ⊤
  AllTables (p ∷ ps) (l ∷ ls) = TableAlike Q p l × AllTables ps ls
  AllTables _ _ = ⊥

  pub first-alike : (ps ls : List Table) → AllTables ps ls → TableAlike Q (first_table ps) (first_table ls)
  first-alike [] [] a = table-same (no_rows [] [])
  first-alike [] (l ∷ ls) a = absurd a
  first-alike (p ∷ ps) [] a = absurd a
  first-alike (p ∷ ps) (l ∷ ls) a = a.0

  pub second-alike : (ps ls : List Table) → AllTables ps ls → TableAlike Q (second_table ps) (second_table ls)
  second-alike [] [] a = table-same (no_rows [] [])
  second-alike [] (l ∷ ls) a = absurd a
  second-alike (p ∷ ps) [] a = absurd a
  second-alike (p ∷ ps) (l ∷ ls) a = first-alike ps ls a.1

  schemas-alike : (ps ls : List Table) → AllTables ps ls → schemas_of ps ≡ schemas_of ls
  schemas-alike [] [] a = refl
  schemas-alike [] (l ∷ ls) a = absurd a
  schemas-alike (p ∷ ps) [] a = absurd a
  schemas-alike (p ∷ ps) (l ∷ ls) a = let rest = schemas-alike ps ls a.1 in λ i. a.0.schema i ∷ rest i

  all-columns-alike : (ps ls : List Table) → AllTables ps ls → AllAlike Q (all_columns ps) (all_columns ls)
  all-columns-alike [] [] a = tt
  all-columns-alike [] (l ∷ ls) a = absurd a
  all-columns-alike (p ∷ ps) [] a = absurd a
  all-columns-alike (p ∷ ps) (l ∷ ls) a = both-columns Q _ _ (all_columns ps) (all_columns ls) (columns-alike Q p l a.0) (all-columns-alike ps ls a.1)

  united-alike : (t u : Table) (z w : Zipped) (b c : Bool) → b ≡ c → TableAlike Q t u → ZipAlike Q z w → ZipAlike Q (united t z b) (united u w c)
  united-alike t u z w b c e a h = subst (λ c. ZipAlike Q (united t z b) (united u w c)) e (by b)
    where
      by : (b : Bool) → ZipAlike Q (united t z b) (united u w b)
      by true = record { rows = λ i. a.rows i ++ h.rows i; lost = refl; ends = h.ends }
      by false = record { rows = a.rows; lost = refl; ends = a.ends }

  union-alike : (ps ls : List Table) → AllTables ps ls → ZipAlike Q (union_rows ps) (union_rows ls)
  union-alike [] [] a = record { rows = refl; lost = refl; ends = ends-same Q [] }
  union-alike [] (l ∷ ls) a = absurd a
  union-alike (p ∷ ps) [] a = absurd a
  union-alike (p ∷ ps) (l ∷ ls) a = united-alike p l (union_rows ps) (union_rows ls) (is_empty p.broken) (is_empty l.broken) a.0.ends.empty a.0 (union-alike ps ls a.1)

  module _ (F : Functions) (at : ℕ) (ps ls : List Table) (all : AllTables ps ls) where
    outs : (step : Step) → out_schema F at step ps ≡ out_schema F at step ls
    outs step = ap (schema_or_empty F step) (schemas-alike ps ls all)

    step-alike : (step : Step) (T : Table) → Gives F at step ps T → (K : Table) × Gives F at step ls K × TableAlike Q T K
    step-alike (scan t None) T g = (T, g, table-same T)
    step-alike (scan t (Some ns)) T g = (T, g, table-same T)
    step-alike (project ns) T g =
        let a = first-alike ps ls all in
        (_, refl, given-by g (record { schema = outs (project ns); rows = λ i. map (picked (places_in ns (a.schema i))) (a.rows i); ends = a.ends }))
    step-alike (select es) T g =
        (_, refl, given-by g (of-zip _ _ (λ rows. rows) (λ rows. rows) _ _ (outs (select es)) refl (zipped-alike Q false at _ _ (exprs-alike Q (first_table ps) (first_table ls) (first-alike ps ls all) at (exprs_of es)))))
    step-alike (hstack es) T g =
        let a = first-alike ps ls all in
        let out = outs (hstack es) in
        (_, refl, given-by g (of-zip _ _ _ _ _ _ out (λ i. map (picked (hstack_places (names_of (out i)) es (a.schema i)))) (keyed-alike Q (first_table ps) (first_table ls) a at (exprs_of es))))
    step-alike (filter e) T g =
        let a = first-alike ps ls all in
        (_, refl, given-by g (of-zip _ _ _ _ _ _ a.schema (λ i. where_true (length (a.schema i))) (keyed-alike Q (first_table ps) (first_table ls) a at (e ∷ []))))
    step-alike (slice offset n) T g = (_, refl, given-by g (at-alike offset n (first_table ps) (first_table ls) (first-alike ps ls all)))
    step-alike (sink payload) T g = (_, refl, given-by g (first-alike ps ls all))
    step-alike (row_index name offset) T g = (_, refl, given-by g (index-alike at _ _ (unwrap_or offset 0) (first_table ps) (first_table ls) (outs (row_index name offset)) (first-alike ps ls all)))
    step-alike (user n) T g = (_, refl, given-by g (user-alike F at n _ _ (first_table ps) (first_table ls) (outs (user n)) (first-alike ps ls all)))
    step-alike (sort o) T g =
        let a = first-alike ps ls all in
        let k = keyed-alike Q (first_table ps) (first_table ls) a at o.keys in
        (_, refl, given-by g (where-whole _ _ _ _ _ _ a.schema k.ends (of-zip _ _ _ _ _ _ a.schema (λ i. sorted_rows o (length (a.schema i))) k)))
    step-alike (union cut) T g = (_, refl, given-by g (of-zip _ _ (λ rows. rows) (λ rows. rows) _ _ (outs (union cut)) refl (union-alike ps ls all)))
    step-alike hconcat T g = (_, refl, given-by g (of-zip _ _ (λ rows. rows) (λ rows. rows) _ _ (outs hconcat) refl (zipped-alike Q true at _ _ (all-columns-alike ps ls all))))
    step-alike (cache id) T g = (_, refl, given-by g (first-alike ps ls all))
    step-alike (group_by o) T (gs, order, g) =
        let a = first-alike ps ls all in
        let k = keyed-alike Q (first_table ps) (first_table ls) a at (exprs_of o.keys) in
        let same : groups at (exprs_of o.aggregates) (first_table ps).schema (keyed at (exprs_of o.keys) (first_table ps)).rows ≡ groups at (exprs_of o.aggregates) (first_table ls).schema (keyed at (exprs_of o.keys) (first_table ls)).rows =
        λ i. groups at (exprs_of o.aggregates) (a.schema i) (k.rows i) in (
          _,
          (gs, subst (λ hs. IsOrder o.maintain_order hs gs) same order, refl),
          given-by g (where-whole _ _ _ _ _ _ (outs (group_by o)) (group-ends _ _ gs k.ends) (record { schema = outs (group_by o); rows = refl; ends = ends-same Q (groups_table (out_schema F at (group_by o) ps) gs).broken })),
        )
    step-alike (join o) T g =
        let a = first-alike ps ls all in
        let b = second-alike ps ls all in (
          _,
          refl,
          given-by g (joined-alike o _ _ _ _ _ _ _ _ _ _ a.schema b.schema (outs (join o)) (keyed-alike Q (first_table ps) (first_table ls) a at o.left_on) (keyed-alike Q (second_table ps) (second_table ls) b at o.right_on)),
        )
    step-alike (distinct o) T (rows, order, g) =
        let a = first-alike ps ls all in
        let same : kept_rows o.keep (key_places o (first_table ps).schema) (first_table ps).rows ≡ kept_rows o.keep (key_places o (first_table ls).schema) (first_table ls).rows = λ i. kept_rows o.keep (key_places o (a.schema i)) (a.rows i) in
        (_, (rows, subst (λ hs. IsOrder o.maintain_order hs rows) same order, refl), given-by g (where-whole _ _ _ _ _ _ a.schema a.ends (of-rows _ _ rows rows a.schema refl)))
    step-alike (left_out what) T g = absurd g

    lost-alike : (step : Step) (rows : List (List Value)) → lost_causes F at step ps rows ≡ lost_causes F at step ls rows
    lost-alike (scan t ns) rows = refl
    lost-alike (project ns) rows = refl
    lost-alike (select es) rows = (zipped-alike Q false at _ _ (exprs-alike Q (first_table ps) (first_table ls) (first-alike ps ls all) at (exprs_of es))).lost
    lost-alike (hstack es) rows = (keyed-alike Q (first_table ps) (first_table ls) (first-alike ps ls all) at (exprs_of es)).lost
    lost-alike (filter e) rows = (keyed-alike Q (first_table ps) (first_table ls) (first-alike ps ls all) at (e ∷ [])).lost
    lost-alike (slice offset n) rows = refl
    lost-alike (sink payload) rows = refl
    lost-alike (row_index name offset) rows = refl
    lost-alike (user n) rows = refl
    lost-alike (sort o) rows = (keyed-alike Q (first_table ps) (first_table ls) (first-alike ps ls all) at o.keys).lost
    lost-alike (union cut) rows = refl
    lost-alike hconcat rows = refl
    lost-alike (cache id) rows = refl
    lost-alike (group_by o) rows =
        let a = first-alike ps ls all in
        let k = keyed-alike Q (first_table ps) (first_table ls) a at (exprs_of o.keys) in
        λ i. k.lost i
        ++ ((if k.ends.empty i then group_causes_lost at (exprs_of o.aggregates) (a.schema i) (k.rows i) else [])
        ++ (if is_empty rows then flat_map (free_causes at) (exprs_of o.aggregates) else []))
    lost-alike (join o) rows =
        let a = (keyed-alike Q (first_table ps) (first_table ls) (first-alike ps ls all) at o.left_on).lost in
        let b = (keyed-alike Q (second_table ps) (second_table ls) (second-alike ps ls all) at o.right_on).lost in
        λ i. a i ++ b i
    lost-alike (distinct o) rows = refl
    lost-alike (left_out what) rows = refl

    before-alike : (step : Step) (T : Table) → GivesBeforeCut F at step ps T → (K : Table) × GivesBeforeCut F at step ls K × TableAlike Q T K
    before-alike step T (inl g) = let k = step-alike step T g in (k.0, inl k.1, k.2)
    before-alike step T (inr (V, g, some, e)) =
        let k = step-alike step V g in
        let lost : lost_causes F at step ps V.rows ≡ lost_causes F at step ls k.0.rows = lost-alike step V.rows ∙ ap (lost_causes F at step ls) k.2.rows in (
          no_rows k.0.schema (lost_causes F at step ls k.0.rows),
          inr (k.0, k.1, (λ none. some (lost ∙ none)), refl),
          given-by e (record { schema = k.2.schema; rows = refl; ends = subst (Ends Q (lost_causes F at step ps V.rows)) lost (ends-same Q (lost_causes F at step ps V.rows)) }),
        )

    pub case-alike : (step : Step) (T : Table) → Case F at step ps T → (K : Table) × Case F at step ls K × TableAlike Q T K
    case-alike step T (U, before, e) = let k = before-alike step U before in (cut_by (step_cut step) k.0, (k.0, k.1, refl), given-by e (by-alike (step_cut step) U k.0 k.2))

-- the causes of inputs
abbrev Among : List Table → Cause → Type 0
Among ps c = Contains (causes_of ps) c

all-tables : (qs ps ls : List Table) → ((c : Cause) → Contains (causes_of ps) c → Among qs c) → AllEndAlike ps ls → AllTables (Among qs) ps ls
all-tables qs [] [] from a = tt
all-tables qs [] (l ∷ ls) from a = absurd a
all-tables qs (p ∷ ps) [] from a = absurd a
all-tables qs (p ∷ ps) (l ∷ ls) from a = (
  record { schema = a.0.same_schema; rows = a.0.same_rows; ends = record { empty = a.0.both_whole; causes = λ c h. inr (from c (Contains-append_left p.broken (causes_of ps) c h)) } },
  all-tables qs ps ls (λ c h. from c (Contains-append_right p.broken (causes_of ps) c h)) a.1,
)

pub steps-keep : (F : Functions) (at : ℕ) (step : Step) (ps ls : List Table) (T : Table) → AllEndAlike ps ls → Case F at step ps T
    → (K : Table) × Case F at step ls K × EndAlike T K × ((c : Cause) → Contains T.broken c → Contains K.broken c ⊎ Contains (causes_of ps) c)
steps-keep F at step ps ls T a k =
    let r = case-alike (Among ps) F at ps ls (all-tables ps ps ls (λ c h. h) a) step T k in
    (r.0, r.1, record { same_schema = r.2.schema; same_rows = r.2.rows; both_whole = r.2.ends.empty }, r.2.ends.causes)

pub befores-keep : (F : Functions) (at : ℕ) (step : Step) (ps ls : List Table) (T : Table) → AllEndAlike ps ls → GivesBeforeCut F at step ps T
    → (K : Table) × GivesBeforeCut F at step ls K × EndAlike T K × ((c : Cause) → Contains T.broken c → Contains K.broken c ⊎ Contains (causes_of ps) c)
befores-keep F at step ps ls T a g =
    let r = before-alike (Among ps) F at ps ls (all-tables ps ps ls (λ c h. h) a) step T g in
    (r.0, r.1, record { same_schema = r.2.schema; same_rows = r.2.rows; both_whole = r.2.ends.empty }, r.2.ends.causes)
