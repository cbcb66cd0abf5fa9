-- What breaks a table that a step of a query gives: what broke its inputs, or a count past the greatest number of rows. No cause is lost.
use Rattle.std.proofs.Common.{◌≡◌, ℕ, suc, ◌+◌, ◌<◌, ◌≤◌, max, ℤ, pos, negsuc, List, [], ◌∷◌, ◌++◌, length, map, take, drop, Bool, true, false, cond, refl, sym, subst, inl, inr, arith}
use Rattle.std.specs.Prelude.{filter, flat_map, not, ◌&&◌, ◌||◌, nat_eq, nat_le, if◌then◌else◌, Some, None, ⊤}
use Rattle.std.specs.List.{AllByRecursion}
use Rattle.std.proofs.lemmas.List.{length-map}
use Rattle.ps_frame.specs.Aggregates.{max_rows}
use Rattle.ps_frame.specs.Causes.{Cause, Column, column_causes, is_empty}
use Rattle.ps_frame.specs.Free.{free_causes}
use Rattle.ps_frame.specs.Functions.{Functions}
use Rattle.ps_frame.specs.Tables.{Fields, Table, columns_of, no_rows}
use Rattle.ps_frame.specs.Trees.{Tree}
use Rattle.ps_frame.specs.Values.{same_row}
use Rattle.ps_frame.specs.Zip.{Zipped}
use Rattle.ps_frame.specs.declared.value.DataFault.TheVariants as fault
use Rattle.ps_frame.specs.declared.value.Value.{Value}
use Rattle.ps_meaning.proofs.Fits.{all-append}
use Rattle.ps_meaning.specs.Cases.{Case, Gives, GivesBeforeCut, columns_at, cut_at, cut_by, end_of, first_table, if_whole, joined_table, keyed, lost_causes, out_schema, rows_from_end, rows_table, schemas_of, second_table, with_group_causes}
use Rattle.ps_meaning.specs.Groups.{Group, group_causes_lost, group_columns, group_of, group_rows, groups, keys_of, rows_of_key}
use Rattle.ps_meaning.specs.Orders.{IsOrder}
use Rattle.ps_meaning.specs.Joins.{front_rows, goes_by_left, join_rows}
use Rattle.ps_meaning.specs.Schemas.{first_schema, second_schema}
use Rattle.ps_meaning.specs.Steps.{Cut, JoinStep, Step, scan, project, select, hstack, filter as filtered, slice, sink, row_index, user, sort, union, hconcat, cache, group_by, join, distinct, left_out, exprs_of, step_cut}
use Rattle.ps_meaning.proofs.SchemaLaw.{first-is}
use Rattle.text_faults.proofs.Even.{IsEven, all-causes, none-lost, zipped-causes, zipped-lost, zipped-short}
use Rattle.text_faults.proofs.EvenEval.{IsKnown, even-columns, even-table, free-causes}

-- the steps that a query makes, whose expressions are known over the schemas of the inputs
abbrev pub IsKnownStep : List Fields → Step → Type 0
IsKnownStep ss (scan t None) = ⊤
IsKnownStep ss (select es) = AllByRecursion (IsKnown (first_schema ss)) (exprs_of es)
IsKnownStep ss (hstack es) = AllByRecursion (IsKnown (first_schema ss)) (exprs_of es)
IsKnownStep ss (filtered e) = IsKnown (first_schema ss) e
IsKnownStep ss (slice offset n) = ⊤
IsKnownStep ss (sink payload) = ⊤
IsKnownStep ss (sort o) = AllByRecursion (IsKnown (first_schema ss)) o.keys
IsKnownStep ss (group_by o) = (o.maintain_order ≡ true) × AllByRecursion (IsKnown (first_schema ss)) (exprs_of o.keys) × AllByRecursion (IsKnown (first_schema ss)) (exprs_of o.aggregates)
IsKnownStep ss (join o) = AllByRecursion (IsKnown (first_schema ss)) o.left_on × AllByRecursion (IsKnown (second_schema ss)) o.right_on
IsKnownStep ss (distinct o) = ⊤
IsKnownStep ss _ = ⊥

second-is : (ts : List Table) → (second_table ts).schema ≡ second_schema (schemas_of ts)
second-is [] = refl
second-is (t ∷ ts) = first-is ts

module _ (P : Cause → Type 0) (at : ℕ) where
  -- a table with these causes, and that is past the greatest number of rows only with such a cause
  pub record IsMild (t : Table) : Type 0 where
    pub causes : AllByRecursion P t.broken
    pub big : max_rows < length t.rows → P (record { fault = fault.Rows; node = at })

  pub mild-none : (s : Fields) → IsMild (no_rows s [])
  mild-none s = record { causes = tt; big = λ h. absurd (omega arith) }

  -- a step that needs its whole input, and slices
  whole-mild : (s : Fields) (cs : List Cause) (t : Table) → AllByRecursion P cs → AllByRecursion P t.broken → AllByRecursion P (if_whole s cs t).broken
  whole-mild s [] t h k = k
  whole-mild s (c ∷ cs) t h k = h

  pub cut-mild : (offset : ℤ) (n : ℕ) (t : Table) → AllByRecursion P t.broken → AllByRecursion P (cut_at offset n t).broken
  cut-mild (pos offset) n t h = by (nat_eq n 0 || nat_le (end_of offset n) (length t.rows))
    where
      by : (b : Bool) → AllByRecursion P (if b then [] else t.broken)
      by true = tt
      by false = h
  cut-mild (negsuc k) n t h = by (nat_eq n 0)
    where
      by : (b : Bool) → AllByRecursion P (if b then no_rows t.schema [] else if_whole t.schema t.broken (rows_table t.schema (rows_from_end (k + 1) n t.rows))).broken
      by true = tt
      by false = whole-mild t.schema t.broken _ h tt

  pub cut_by-mild : (cut : Cut) (t : Table) → AllByRecursion P t.broken → AllByRecursion P (cut_by cut t).broken
  cut_by-mild None t h = h
  cut_by-mild (Some s) t h = cut-mild s.0 s.1 t h

  -- the columns of a table and of expressions over it
  module _ (t : Table) (mild : IsMild t) where
    own : (es : List Tree) → AllByRecursion (IsKnown t.schema) es → AllByRecursion (IsEven P (length t.rows)) (columns_at at es t)
    own es k = even-columns P at t mild.causes mild.big es k

    beside : (es : List Tree) → AllByRecursion (IsKnown t.schema) es → AllByRecursion (IsEven P (length t.rows)) (columns_of t ++ columns_at at es t)
    beside es k = all-append (IsEven P (length t.rows)) (columns_of t) (columns_at at es t) (even-table P at t mild.causes mild.big) (own es k)

    keyed-causes : (es : List Tree) → AllByRecursion (IsKnown t.schema) es → AllByRecursion P (keyed at es t).broken
    keyed-causes es k = zipped-causes P (length t.rows) at (columns_of t ++ columns_at at es t) (beside es k)

    keyed-lost : (es : List Tree) → AllByRecursion (IsKnown t.schema) es → (keyed at es t).lost ≡ []
    keyed-lost es k = zipped-lost P (length t.rows) at (columns_of t ++ columns_at at es t) (beside es k)

    keyed-short : (es : List Tree) → AllByRecursion (IsKnown t.schema) es → length (keyed at es t).rows ≤ max 1 (length t.rows)
    keyed-short es k = zipped-short P (length t.rows) at (columns_of t ++ columns_at at es t) (beside es k)

  -- groups
  kept-few : (p : List Value → Bool) (rows : List (List Value)) → length (filter p rows) ≤ length rows
  kept-few p [] = omega arith
  kept-few p (r ∷ rows) = by (p r) (kept-few p rows)
    where
      by : (b : Bool) → length (filter p rows) ≤ length rows → length (cond b (r ∷ filter p rows) (filter p rows)) ≤ suc (length rows)
      by true h = omega arith
      by false h = omega arith

  module _ (s : Fields) (rows : List (List Value)) (big : max_rows < length rows → P (record { fault = fault.Rows; node = at })) where
    group-mild : (key : List Value) → IsMild (group_rows s rows key)
    group-mild key =
        let w = length s in
        let l : length (rows_of_key w key rows) ≡ length (filter (λ row. same_row key (drop w row)) rows) = length-map (filter (λ row. same_row key (drop w row)) rows) (take w) in
        let k = kept-few (λ row. same_row key (drop w row)) rows in
        record { causes = tt; big = λ h. big (omega arith) }

    module _ (es : List Tree) (k : AllByRecursion (IsKnown s) es) where
      group-even : (key : List Value) → AllByRecursion (IsEven P (length (group_rows s rows key).rows)) (group_columns at es s rows key)
      group-even key = let mild = group-mild key in even-columns P at (group_rows s rows key) mild.causes mild.big es k

      group-causes : (keys : List (List Value)) → AllByRecursion P (flat_map (λ (g : Group). g.causes) (map (group_of at es s rows) keys))
      group-causes [] = tt
      group-causes (key ∷ keys) =
          all-append P (flat_map column_causes (group_columns at es s rows key)) _ (all-causes P (length (group_rows s rows key).rows) (group_columns at es s rows key) (group-even key)) (group-causes keys)

      group-lost : (keys : List (List Value)) → flat_map (λ key. flat_map (λ (c : Column). c.lost) (group_columns at es s rows key)) keys ≡ []
      group-lost [] = refl
      group-lost (key ∷ keys) = λ i. none-lost P (length (group_rows s rows key).rows) (group_columns at es s rows key) (group-even key) i ++ group-lost keys i

  free-lost : (s : Fields) (es : List Tree) → AllByRecursion (IsKnown s) es → flat_map (free_causes at) es ≡ []
  free-lost s [] k = refl
  free-lost s (e ∷ es) k = λ i. free-causes at s e k.0 i ++ free-lost s es k.1 i

  with-groups : (cs : List Cause) (gs : List Group) → AllByRecursion P cs → AllByRecursion P (flat_map (λ (g : Group). g.causes) gs) → AllByRecursion P (with_group_causes cs gs)
  with-groups [] gs h k = tt
  with-groups (c ∷ cs) gs h k = all-append P (c ∷ cs) (flat_map (λ (g : Group). g.causes) gs) h k

  joined-mild : (o : JoinStep) (left right out : Fields) (l r : Zipped) → AllByRecursion P l.broken → AllByRecursion P r.broken → AllByRecursion P (joined_table o left right out l r).broken
  joined-mild o left right out l r h k = by (goes_by_left o.args.how && (is_empty r.broken && not (is_empty l.broken)))
    where
      by : (b : Bool)
          → AllByRecursion P (if b then record { schema = out; rows = front_rows o left right l.rows r.rows; broken = l.broken } else if_whole out (l.broken ++ r.broken) (rows_table out (join_rows o left right l.rows r.rows))).broken
      by true = h
      by false = whole-mild out (l.broken ++ r.broken) _ (all-append P l.broken r.broken h k) tt

  module _ (F : Functions) (ts : List Table) (one : IsMild (first_table ts)) (two : IsMild (second_table ts)) where
    all-first : (es : List Tree) → AllByRecursion (IsKnown (first_schema (schemas_of ts))) es → AllByRecursion (IsKnown (first_table ts).schema) es
    all-first es k = subst (λ s. AllByRecursion (IsKnown s) es) (sym (first-is ts)) k

    all-second : (es : List Tree) → AllByRecursion (IsKnown (second_schema (schemas_of ts))) es → AllByRecursion (IsKnown (second_table ts).schema) es
    all-second es k = subst (λ s. AllByRecursion (IsKnown s) es) (sym (second-is ts)) k

    known-first : (e : Tree) → IsKnown (first_schema (schemas_of ts)) e → IsKnown (first_table ts).schema e
    known-first e k = subst (λ s. IsKnown s e) (sym (first-is ts)) k

    -- what breaks a table is what breaks one that equals it
    same-broken : (T U : Table) → T ≡ U → AllByRecursion P U.broken → AllByRecursion P T.broken
    same-broken T U e h = subst (λ (V : Table). AllByRecursion P V.broken) (sym e) h

    big-keyed : (es : List Tree) → AllByRecursion (IsKnown (first_table ts).schema) es → max_rows < length (keyed at es (first_table ts)).rows → P (record { fault = fault.Rows; node = at })
    big-keyed es k h = let short = keyed-short (first_table ts) one es k in one.big (omega arith)

    pub gives-mild : (step : Step) (T : Table) → IsKnownStep (schemas_of ts) step → Gives F at step ts T → AllByRecursion P T.broken
    gives-mild (scan t None) T k g = same-broken T _ g tt
    gives-mild (select es) T k g = same-broken T _ g (zipped-causes P (length (first_table ts).rows) at (columns_at at (exprs_of es) (first_table ts)) (own (first_table ts) one (exprs_of es) (all-first (exprs_of es) k)))
    gives-mild (hstack es) T k g = same-broken T _ g (keyed-causes (first_table ts) one (exprs_of es) (all-first (exprs_of es) k))
    gives-mild (filtered e) T k g = same-broken T _ g (keyed-causes (first_table ts) one (e ∷ []) (known-first e k, tt))
    gives-mild (slice offset n) T k g = same-broken T _ g (cut-mild offset n (first_table ts) one.causes)
    gives-mild (sink payload) T k g = same-broken T _ g one.causes
    gives-mild (sort o) T k g =
        let causes = keyed-causes (first_table ts) one o.keys (all-first o.keys k) in
        same-broken T _ g (whole-mild (first_table ts).schema (keyed at o.keys (first_table ts)).broken _ causes causes)
    gives-mild (group_by o) T k g =
        let keys = all-first (exprs_of o.keys) k.1 in
        let z = keyed at (exprs_of o.keys) (first_table ts) in
        let ordered : g.0 ≡ groups at (exprs_of o.aggregates) (first_table ts).schema z.rows = subst (λ b. IsOrder b (groups at (exprs_of o.aggregates) (first_table ts).schema z.rows) g.0) k.0 g.1 in
        let causes : AllByRecursion P (flat_map (λ (h : Group). h.causes) g.0) =
        subst (λ (gs : List Group). AllByRecursion P (flat_map (λ (h : Group). h.causes) gs)) (sym ordered)
        (group-causes (first_table ts).schema z.rows (big-keyed (exprs_of o.keys) keys) (exprs_of o.aggregates) (all-first (exprs_of o.aggregates) k.2) (keys_of (length (first_table ts).schema) z.rows)) in
        same-broken T _ g.2 (whole-mild (out_schema F at (group_by o) ts) (with_group_causes z.broken g.0) _ (with-groups z.broken g.0 (keyed-causes (first_table ts) one (exprs_of o.keys) keys) causes) causes)
    gives-mild (join o) T k g =
        same-broken T _ g
        (joined-mild o (first_table ts).schema (second_table ts).schema (out_schema F at (join o) ts) (keyed at o.left_on (first_table ts)) (keyed at o.right_on (second_table ts)) (keyed-causes (first_table ts) one o.left_on (all-first o.left_on k.0))
        (keyed-causes (second_table ts) two o.right_on (all-second o.right_on k.1)))
    gives-mild (distinct o) T k g = same-broken T _ g.2 (whole-mild (first_table ts).schema (first_table ts).broken _ one.causes tt)
    gives-mild (scan t (Some ns)) T k g = absurd k
    gives-mild (project ns) T k g = absurd k
    gives-mild (row_index name offset) T k g = absurd k
    gives-mild (user n) T k g = absurd k
    gives-mild (union cut) T k g = absurd k
    gives-mild hconcat T k g = absurd k
    gives-mild (cache id) T k g = absurd k
    gives-mild (left_out what) T k g = absurd k

    pub lost-none : (step : Step) (rows : List (List Value)) → IsKnownStep (schemas_of ts) step → lost_causes F at step ts rows ≡ []
    lost-none (scan t None) rows k = refl
    lost-none (select es) rows k = zipped-lost P (length (first_table ts).rows) at (columns_at at (exprs_of es) (first_table ts)) (own (first_table ts) one (exprs_of es) (all-first (exprs_of es) k))
    lost-none (hstack es) rows k = keyed-lost (first_table ts) one (exprs_of es) (all-first (exprs_of es) k)
    lost-none (filtered e) rows k = keyed-lost (first_table ts) one (e ∷ []) (known-first e k, tt)
    lost-none (slice offset n) rows k = refl
    lost-none (sink payload) rows k = refl
    lost-none (sort o) rows k = keyed-lost (first_table ts) one o.keys (all-first o.keys k)
    lost-none (group_by o) rows k =
        let keys = all-first (exprs_of o.keys) k.1 in
        let aggs = all-first (exprs_of o.aggregates) k.2 in
        let z = keyed at (exprs_of o.keys) (first_table ts) in
        let groups-lost = group-lost (first_table ts).schema z.rows (big-keyed (exprs_of o.keys) keys) (exprs_of o.aggregates) aggs (keys_of (length (first_table ts).schema) z.rows) in
        λ i.
        keyed-lost (first_table ts) one (exprs_of o.keys) keys i
        ++ (if-none (is_empty z.broken) (group_causes_lost at (exprs_of o.aggregates) (first_table ts).schema z.rows) groups-lost i ++ if-none (is_empty rows) (flat_map (free_causes at) (exprs_of o.aggregates)) (free-lost (first_table ts).schema (exprs_of o.aggregates) aggs) i)
      where
        if-none : (b : Bool) (cs : List Cause) → cs ≡ [] → (if b then cs else []) ≡ []
        if-none true cs e = e
        if-none false cs e = refl
    lost-none (join o) rows k = λ i. keyed-lost (first_table ts) one o.left_on (all-first o.left_on k.0) i ++ keyed-lost (second_table ts) two o.right_on (all-second o.right_on k.1) i
    lost-none (distinct o) rows k = refl
    lost-none (scan t (Some ns)) rows k = absurd k
    lost-none (project ns) rows k = absurd k
    lost-none (row_index name offset) rows k = absurd k
    lost-none (user n) rows k = absurd k
    lost-none (union cut) rows k = absurd k
    lost-none hconcat rows k = absurd k
    lost-none (cache id) rows k = absurd k
    lost-none (left_out what) rows k = absurd k

    pub before-mild : (step : Step) (U : Table) → IsKnownStep (schemas_of ts) step → GivesBeforeCut F at step ts U → AllByRecursion P U.broken
    before-mild step U k (inl g) = gives-mild step U k g
    before-mild step U k (inr l) = absurd (l.2 (lost-none step l.0.rows k))

    pub case-mild : (step : Step) (T : Table) → IsKnownStep (schemas_of ts) step → Case F at step ts T → AllByRecursion P T.broken
    case-mild step T k c = same-broken T _ c.2 (cut_by-mild (step_cut step) c.0 (before-mild step c.0 k c.1))
