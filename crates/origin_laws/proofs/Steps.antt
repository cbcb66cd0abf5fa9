-- What holds of the causes of all inputs, and of all that the step's node makes, holds of what breaks each table that the step may give.
use Rattle.std.proofs.Common.{◌≡◌, ℕ, ◌⊎◌, List, [], ◌∷◌, ◌++◌, length, refl, sym, subst, inl, inr, ◌+◌}
use Rattle.std.specs.Prelude.{Bool, true, false, cond, Contains, ◌&&◌, ◌||◌, ℤ, pos, negsuc, Option, Some, None, nat_eq, nat_le, not, if◌then◌else◌}
use Rattle.std.specs.List.{flat_map, list_any}
use Rattle.std.proofs.lemmas.List.Sorted.{Contains-permutation, IsPermutation-sym}
use Rattle.ps_frame.specs.Causes.{Cause, Column, column_causes, is_empty, is_ended}
use Rattle.ps_frame.specs.Free.{free_causes}
use Rattle.ps_frame.specs.Functions.{Functions}
use Rattle.ps_frame.specs.Tables.{Fields, Frame, Table, columns_of, no_rows}
use Rattle.ps_frame.specs.Trees.{Tree}
use Rattle.ps_frame.specs.Zip.{zipped}
use Rattle.ps_frame.specs.declared.value.DataFault.TheVariants as fault
use Rattle.ps_frame.specs.declared.value.Value.{Value}
use Rattle.ps_meaning.specs.Cases.{Case, Gives, GivesBeforeCut, all_columns, answer_or_fault, columns_at, cut_at, cut_by, cut_from_end, end_of, first_table, function_cause, if_whole, joined_table, keyed, lost_causes, rows_from_end, rows_table, second_table, stream_table, streamed, union_rows, user_table, with_group_causes}
use Rattle.ps_meaning.specs.Groups.{Group, group_causes_lost, group_columns, group_of, group_rows, groups, keys_of}
use Rattle.ps_meaning.specs.Joins.{front_rows, goes_by_left, join_rows}
use Rattle.ps_meaning.specs.Orders.{IsOrder}
use Rattle.ps_meaning.specs.Shape.{PhysicalBefore, PhysicalKind, PhysicalNode, independent_select, mild_zip, tables_for}
use Rattle.ps_meaning.specs.Steps.{Cut, JoinStep, Step, cache, distinct, exprs_of, filter, group_by, hconcat, hstack, join, left_out, project, row_index, scan, select, sink, slice, sort, step_cut, union, user}
use Rattle.ps_frame.specs.Zip.{Zipped}
use Rattle.origin_laws.proofs.Causes.{Each, both, contains_cases, contains_first, contains_later, either, flat, from_map, none, none_in_nil, one}
use Rattle.origin_laws.proofs.Columns.{AllHold, all_causes, broken_holds, columns_hold, exprs_hold, free_hold, lost_holds, no_columns, together}

module _ (P : Cause → Type 0) where
  -- what holds of one of two equal tables
  of : {T U : Table} → T ≡ U → Each P U.broken → Each P T.broken
  of e h = subst (λ (V : Table). Each P V.broken) (sym e) h

  first_holds : (ts : List Table) → ((t : Table) → Contains ts t → Each P t.broken) → Each P (first_table ts).broken
  first_holds [] h = none P
  first_holds (t ∷ ts) h = h t (contains_first t ts)

  second_holds : (ts : List Table) → ((t : Table) → Contains ts t → Each P t.broken) → Each P (second_table ts).broken
  second_holds [] h = none P
  second_holds (t ∷ ts) h = first_holds ts (λ u c. h u (contains_later t u ts c))

  if_whole_holds : (s : Fields) (xs : List Cause) (t : Table) → Each P xs → Each P t.broken → Each P (if_whole s xs t).broken
  if_whole_holds s [] t h g = g
  if_whole_holds s (x ∷ xs) t h g = h

  union_holds : (ts : List Table) → ((t : Table) → Contains ts t → Each P t.broken) → Each P (union_rows ts).broken
  union_holds [] h = none P
  union_holds (t ∷ ts) h = by (is_empty t.broken) (union_holds ts (λ u c. h u (contains_later t u ts c)))
    where
      by : (b : Bool) → Each P (union_rows ts).broken → Each P (cond {A = Zipped} b (record { rows = t.rows ++ (union_rows ts).rows; broken = (union_rows ts).broken; lost = [] }) (record { rows = t.rows; broken = t.broken; lost = [] })).broken
      by true rest = rest
      by false rest = h t (contains_first t ts)

  -- SLICES
  from_end_holds : (back n : ℕ) (t : Table) → Each P t.broken → Each P (cut_from_end back n t).broken
  from_end_holds back n t h = by (nat_eq n 0)
    where
      by : (b : Bool) → Each P (if b then no_rows t.schema [] else if_whole t.schema t.broken (rows_table t.schema (rows_from_end back n t.rows))).broken
      by true = none P
      by false = if_whole_holds t.schema t.broken (rows_table t.schema (rows_from_end back n t.rows)) h (none P)

  cut_at_holds : (offset : ℤ) (n : ℕ) (t : Table) → Each P t.broken → Each P (cut_at offset n t).broken
  cut_at_holds (pos offset) n t h = either P (nat_eq n 0 || nat_le (end_of offset n) (length t.rows)) [] t.broken (none P) h
  cut_at_holds (negsuc k) n t h = from_end_holds (k + 1) n t h

  cut_by_holds : (cut : Cut) (t : Table) → Each P t.broken → Each P (cut_by cut t).broken
  cut_by_holds None t h = h
  cut_by_holds (Some s) t h = cut_at_holds s.0 s.1 t h

  module _ (node : ℕ) (own : (x : Cause) → x.node ≡ node → P x) where
    -- FUNCTIONS
    function_holds : Each P (function_cause node)
    function_holds = one P (record { fault = fault.Function; node = node }) (own (record { fault = fault.Function; node = node }) refl)

    streamed_holds : (answer : List Value → Option Frame) (rows : List (List Value)) → Each P (streamed node answer rows).broken
    streamed_holds answer [] = none P
    streamed_holds answer (r ∷ rs) = by (answer r) (streamed_holds answer rs)
      where
        by : (o : Option Frame) → Each P (streamed node answer rs).broken
            → Each P (elim o as (λ _. Zipped) [ None ↦ record { rows = []; broken = function_cause node; lost = [] } | Some a ↦ record { rows = a.rows ++ (streamed node answer rs).rows; broken = (streamed node answer rs).broken; lost = [] } ]).broken
        by None rest = function_holds
        by (Some a) rest = rest

    answer_holds : (s : Fields) (o : Option Frame) → Each P (answer_or_fault node s o).broken
    answer_holds s None = function_holds
    answer_holds s (Some a) = none P

    user_holds : (F : Functions) (n : ℕ) (s : Fields) (t : Table) → Each P t.broken → Each P (user_table F node n s t).broken
    user_holds F n s t h = by (F.streams n)
      where
        by : (b : Bool) → Each P (if b then stream_table F node n s t else if_whole s t.broken (answer_or_fault node s (F.answer n (record { schema = t.schema; rows = t.rows })))).broken
        by true = both P t.broken _ h (streamed_holds (λ r. F.answer n (record { schema = t.schema; rows = r ∷ [] })) t.rows)
        by false = if_whole_holds s t.broken (answer_or_fault node s (F.answer n (record { schema = t.schema; rows = t.rows }))) h (answer_holds s (F.answer n (record { schema = t.schema; rows = t.rows })))

    -- ZIPS OF A TABLE AND EXPRESSIONS
    keyed_columns : (keys : List Tree) (t : Table) → Each P t.broken → AllHold P node own (columns_of t ++ columns_at node keys t)
    keyed_columns keys t h = together P node own (columns_of t) (columns_at node keys t) (columns_hold P node own t h) (exprs_hold P node own t h keys)

    pub keyed_holds : (keys : List Tree) (t : Table) → Each P t.broken → Each P (keyed node keys t).broken
    keyed_holds keys t h = broken_holds P node own false (columns_of t ++ columns_at node keys t) (keyed_columns keys t h)

    pub keyed_lost : (keys : List Tree) (t : Table) → Each P t.broken → Each P (keyed node keys t).lost
    keyed_lost keys t h = lost_holds P node own false (columns_of t ++ columns_at node keys t) (keyed_columns keys t h)

    -- GROUPS
    group_columns_hold : (es : List Tree) (s : Fields) (rows : List (List Value)) (key : List Value) → AllHold P node own (group_columns node es s rows key)
    group_columns_hold es s rows key = exprs_hold P node own (group_rows s rows key) (none P) es

    group_holds : (es : List Tree) (s : Fields) (rows : List (List Value)) (g : Group) → Contains (groups node es s rows) g → Each P g.causes
    group_holds es s rows g c =
        let key = from_map (group_of node es s rows) g (keys_of (length s) rows) c in
        subst (λ (x : Group). Each P x.causes) key.2 (all_causes P node own (group_columns node es s rows key.0) (group_columns_hold es s rows key.0))

    ordered : (b : Bool) (xs ys : List Group) → IsOrder b xs ys → (g : Group) → Contains ys g → Contains xs g
    ordered true xs ys e g c = subst (λ zs. Contains zs g) e c
    ordered false xs ys e g c = Contains-permutation ys xs g (IsPermutation-sym xs ys e) c

    groups_lost_hold : (es : List Tree) (s : Fields) (rows : List (List Value)) → Each P (group_causes_lost node es s rows)
    groups_lost_hold es s rows =
        flat P (λ key. flat_map (λ (c : Column). c.lost) (group_columns node es s rows key)) (keys_of (length s) rows)
        (λ key c. flat P (λ (c : Column). c.lost) (group_columns node es s rows key) (λ col d. (group_columns_hold es s rows key col d).lost))

    with_groups_hold : (xs : List Cause) (gs : List Group) → Each P xs → Each P (flat_map (λ (g : Group). g.causes) gs) → Each P (with_group_causes xs gs)
    with_groups_hold [] gs h g = none P
    with_groups_hold (x ∷ xs) gs h g = both P (x ∷ xs) (flat_map (λ (g : Group). g.causes) gs) h g

    -- JOINS
    joined_holds : (o : JoinStep) (left right s : Fields) (l r : Zipped) → Each P l.broken → Each P r.broken → Each P (joined_table o left right s l r).broken
    joined_holds o left right s l r h g = by (goes_by_left o.args.how && (is_empty r.broken && not (is_empty l.broken)))
      where
        by : (b : Bool) → Each P (cond {A = Table} b (record { schema = s; rows = front_rows o left right l.rows r.rows; broken = l.broken }) (if_whole s (l.broken ++ r.broken) (rows_table s (join_rows o left right l.rows r.rows)))).broken
        by true = h
        by false = if_whole_holds s (l.broken ++ r.broken) (rows_table s (join_rows o left right l.rows r.rows)) (both P l.broken r.broken h g) (none P)

    -- EACH STEP
    module _ (F : Functions) (ts : List Table) (inputs : (t : Table) → Contains ts t → Each P t.broken) where
      first : Each P (first_table ts).broken
      first = first_holds ts inputs

      second : Each P (second_table ts).broken
      second = second_holds ts inputs

      inputs_hold : AllHold P node own (all_columns ts)
      inputs_hold = of_tables ts inputs
        where
          of_tables : (us : List Table) → ((t : Table) → Contains us t → Each P t.broken) → AllHold P node own (flat_map columns_of us)
          of_tables [] h = no_columns P node own
          of_tables (u ∷ us) h = together P node own (columns_of u) (flat_map columns_of us) (columns_hold P node own u (h u (contains_first u us))) (of_tables us (λ t c. h t (contains_later u t us c)))

      exprs : (es : List Tree) → AllHold P node own (columns_at node es (first_table ts))
      exprs es = exprs_hold P node own (first_table ts) first es

      gives_holds : (step : Step) (T : Table) → Gives F node step ts T → Each P T.broken
      gives_holds (scan t None) T e = of e (none P)
      gives_holds (scan t (Some ns)) T e = of e (none P)
      gives_holds (project ns) T e = of e first
      gives_holds (select es) T e = of e (broken_holds P node own false (columns_at node (exprs_of es) (first_table ts)) (exprs (exprs_of es)))
      gives_holds (hstack es) T e = of e (keyed_holds (exprs_of es) (first_table ts) first)
      gives_holds (filter x) T e = of e (keyed_holds (x ∷ []) (first_table ts) first)
      gives_holds (slice offset n) T e = of e (cut_at_holds offset n (first_table ts) first)
      gives_holds (sink payload) T e = of e first
      gives_holds (row_index name offset) T e =
          of e (both P (first_table ts).broken _ first (either P _ (record { fault = fault.RowIndex; node = node } ∷ []) [] (one P (record { fault = fault.RowIndex; node = node }) (own (record { fault = fault.RowIndex; node = node }) refl)) (none P)))
      gives_holds (user n) T e = of e (user_holds F n _ (first_table ts) first)
      gives_holds (sort o) T e = of e (if_whole_holds _ (keyed node o.keys (first_table ts)).broken _ (keyed_holds o.keys (first_table ts) first) (keyed_holds o.keys (first_table ts) first))
      gives_holds (union cut) T e = of e (union_holds ts inputs)
      gives_holds hconcat T e = of e (broken_holds P node own true (all_columns ts) inputs_hold)
      gives_holds (cache id) T e = of e first
      gives_holds (group_by o) T e =
          let rows = (keyed node (exprs_of o.keys) (first_table ts)).rows in
          let all : Each P (flat_map (λ (g : Group). g.causes) e.0) = flat P (λ (g : Group). g.causes) e.0 (λ g c. group_holds (exprs_of o.aggregates) (first_table ts).schema rows g (ordered o.maintain_order (groups node (exprs_of o.aggregates) (first_table ts).schema rows) e.0 e.1 g c)) in
          of e.2 (if_whole_holds _ (with_group_causes (keyed node (exprs_of o.keys) (first_table ts)).broken e.0) _ (with_groups_hold (keyed node (exprs_of o.keys) (first_table ts)).broken e.0 (keyed_holds (exprs_of o.keys) (first_table ts) first) all) all)
      gives_holds (join o) T e =
          of e (joined_holds o _ _ _ (keyed node o.left_on (first_table ts)) (keyed node o.right_on (second_table ts)) (keyed_holds o.left_on (first_table ts) first) (keyed_holds o.right_on (second_table ts) second))
      gives_holds (distinct o) T e = of e.2 (if_whole_holds _ (first_table ts).broken _ first (none P))
      gives_holds (left_out what) T e = absurd e

      lost_hold : (step : Step) (rows : List (List Value)) → Each P (lost_causes F node step ts rows)
      lost_hold (select es) rows = lost_holds P node own false (columns_at node (exprs_of es) (first_table ts)) (exprs (exprs_of es))
      lost_hold (hstack es) rows = keyed_lost (exprs_of es) (first_table ts) first
      lost_hold (filter x) rows = keyed_lost (x ∷ []) (first_table ts) first
      lost_hold (sort o) rows = keyed_lost o.keys (first_table ts) first
      lost_hold (group_by o) rows =
          let z = keyed node (exprs_of o.keys) (first_table ts) in
          let of_groups = group_causes_lost node (exprs_of o.aggregates) (first_table ts).schema z.rows in
          let of_free = flat_map (free_causes node) (exprs_of o.aggregates) in
          both P z.lost ((if is_empty z.broken then of_groups else []) ++ (if is_empty rows then of_free else [])) (keyed_lost (exprs_of o.keys) (first_table ts) first)
          (both P (if is_empty z.broken then of_groups else []) (if is_empty rows then of_free else []) (either P (is_empty z.broken) of_groups [] (groups_lost_hold (exprs_of o.aggregates) (first_table ts).schema z.rows) (none P))
          (either P (is_empty rows) of_free [] (flat P (free_causes node) (exprs_of o.aggregates) (λ x c. free_hold P node own x)) (none P)))
      lost_hold (join o) rows = both P (keyed node o.left_on (first_table ts)).lost _ (keyed_lost o.left_on (first_table ts) first) (keyed_lost o.right_on (second_table ts) second)
      lost_hold step rows = none P

      pub before_holds : (step : Step) (U : Table) → GivesBeforeCut F node step ts U → Each P U.broken
      before_holds step U (inl g) = gives_holds step U g
      before_holds step U (inr l) = of l.3 (lost_hold step l.0.rows)

      pub case_holds : (step : Step) (T : Table) → Case F node step ts T → Each P T.broken
      case_holds step T c = of c.2 (cut_by_holds (step_cut step) c.0 (before_holds step c.0 c.1))

      mild_holds : Each P (mild_zip node (all_columns ts)).broken
      mild_holds = either P (list_any is_ended (all_columns ts)) (flat_map column_causes (all_columns ts)) (zipped false node (all_columns ts)).broken (all_causes P node own (all_columns ts) inputs_hold) (broken_holds P node own false (all_columns ts) inputs_hold)

      mild_lost : Each P (mild_zip node (all_columns ts)).lost
      mild_lost = lost_holds P node own false (all_columns ts) inputs_hold

-- an input independent select looks at no table
tables_hold : (P : Cause → Type 0) (F : Functions) (kind : PhysicalKind) (ts : List Table) → ((t : Table) → Contains ts t → Each P t.broken) → (t : Table) → Contains (tables_for F kind ts) t → Each P t.broken
tables_hold P F (independent_select es) ts h t c = by (contains_cases (no_rows [] []) t [] c)
  where
    by : (no_rows [] [] ≡ t) ⊎ Contains [] t → Each P t.broken
    by (inl e) = subst (λ (u : Table). Each P u.broken) e (none P)
    by (inr later) = absurd (none_in_nil t later)
tables_hold P F kind ts h t c = h t c

pub physical_holds : (P : Cause → Type 0) (F : Functions) (p : PhysicalNode) → ((x : Cause) → x.node ≡ p.origin → P x) → (ts : List Table) → ((t : Table) → Contains ts t → Each P t.broken) → (o : Option Step) (U : Table) → PhysicalBefore F p o (tables_for F p.kind ts) U → Each P U.broken
physical_holds P F p own ts h (Some step) U b = before_holds P p.origin own F (tables_for F p.kind ts) (tables_hold P F p.kind ts h) step U b
physical_holds P F p own ts h None U (inl e) = of P e (mild_holds P p.origin own F (tables_for F p.kind ts) (tables_hold P F p.kind ts h))
physical_holds P F p own ts h None U (inr l) = of P l.1 (mild_lost P p.origin own F (tables_for F p.kind ts) (tables_hold P F p.kind ts h))
