-- Expressions that are reductions.
use Rattle.std.proofs.Common.{◌≡◌, ℕ, zero, suc, ◌<◌, ◌≤◌, List, [], ◌∷◌, ◌++◌, length, get_or, map, true, false, not, refl, sym, ap, subst, ◌∙◌, arith}
use Rattle.std.specs.Prelude.{◌==◌, ◌||◌, flat_map, slice_get, if◌then◌else◌, IsTrue, Some}
use Rattle.std.specs.Str.{bytes_eq}
use Rattle.std.specs.List.{All, list_any}
use Rattle.std.proofs.lemmas.Bool.{le-leb}
use Rattle.std.proofs.lemmas.List.{length-map}
use Rattle.std.proofs.lemmas.List.Quantifiers.{position-Some}
use Rattle.pu_base.specs.declared.arena.Node.{Node}
use Rattle.ps_expr_eval.proofs.Taking.{aggregate-tree}
use Rattle.ps_expr_eval.specs.Wholes.{aggregated_of, aggregation_of}
use Rattle.ps_frame.specs.Aggregates.{aggregate_column, count_column, distinct_values, max_rows, sum_value}
use Rattle.ps_frame.specs.Causes.{Column, value, cell_causes, cell_values, column_causes, has_cause, is_empty, whole_column}
use Rattle.ps_frame.specs.Eval.{eval, from_whole, operand}
use Rattle.ps_frame.specs.Frames.{kinds_of}
use Rattle.ps_frame.specs.Gathered.{rows_at}
use Rattle.ps_frame.specs.Lawful.{FitsFrame}
use Rattle.ps_frame.specs.Tables.{Fields, Frame, field_index, field_kind, values_at, values_at_some, whole}
use Rattle.ps_frame.specs.Trees.{Aggregation, Tree, aggregate_tree}
use Rattle.ps_frame.specs.Series.{Series, all_fit}
use Rattle.ps_frame.specs.Typing.{kind_over}
use Rattle.ps_frame.specs.Values.{is_null}
use Rattle.ps_frame.specs.Zip.{below}
use Rattle.ps_frame.specs.declared.expr.IRAggExpr.{IRAggExpr}
use Rattle.ps_frame.specs.declared.value.DataFault.TheVariants as fault
use Rattle.ps_frame.specs.declared.value.DataType.{DataType}
use Rattle.ps_frame.specs.declared.value.DataType.TheVariants as kind
use Rattle.ps_frame.specs.declared.value.Value.{Value}
use Rattle.ps_frame.specs.declared.value.Value.TheVariants as val
use Rattle.ps_meaning.specs.Groups.{only_value}
use Rattle.ps_keys.specs.KeyRows.{places_of_each}
use Rattle.ps_keys.specs.Numbering.{places_of}
use Rattle.ps_keys.specs.declared.numbering.Numbering.{Numbering}
use Rattle.ps_keys.proofs.FirstRows.{at-below, length-below}
use Rattle.ps_keys.proofs.KeptRows.{kept-all, kept-few}
use Rattle.ps_keys.proofs.Places.{places-few}
use Rattle.ps_keys.proofs.RowValues.{map-map}
use Rattle.ps_groups.specs.Grouped.{IsAggregate}
use Rattle.ps_groups.specs.Reductions.{Reduces, ReducesColumn, count_values, reduced_value, reduced_values, values_of_key}
use Rattle.ps_groups.specs.GroupTables.{IsNumberingOf, group_tables, table_at}
use Rattle.ps_groups.specs.declared.reductions.Reduction.{Reduction}
use Rattle.ps_groups.specs.declared.reductions.Reduction.TheVariants as reduction
use Rattle.ps_groups.specs.Statistics.{told, values_in}
use Rattle.ps_groups.specs.declared.statistics.Statistic.{Statistic}
use Rattle.ps_groups.specs.declared.statistics.Statistic.TheVariants as statistic
use Rattle.ps_groups.proofs.KeyTables.{tables-fit}
use Rattle.ps_groups.proofs.Told.{distinct-few}
use Rattle.ps_groups.proofs.Values.{values-fit}

-- a column of values has no causes, and gives them back
values-back : (vs : List Value) → cell_values (map value vs) ≡ vs
values-back [] = refl
values-back (v ∷ vs) = ap (λ ws. v ∷ ws) (values-back vs)

no-causes : (vs : List Value) → flat_map cell_causes (map value vs) ≡ []
no-causes [] = refl
no-causes (v ∷ vs) = no-causes vs

-- what takes a whole operand takes its values
of-values : (F : List (List Value) → Column) (vs : List Value) → from_whole F (whole_column vs ∷ []) ≡ record (F (vs ∷ [])) { lost = [] }
of-values F vs =
    let clean : list_any has_cause (whole_column vs ∷ []) ≡ false = ap (λ cs. not (is_empty (cs ++ [])) || false) (no-causes vs) in
    let c : Column = whole_column vs in
    let broken : Column = record { cells = []; broken = flat_map column_causes (c ∷ []); lost = flat_map (λ (d : Column). d.lost) (c ∷ []) } in
    ap (λ b. if b then broken else record (F (map (λ (d : Column). cell_values d.cells) (c ∷ []))) { lost = [] }) clean
    ∙ ap (λ ws. record (F (ws ∷ [])) { lost = [] }) (values-back vs)

-- the kind of the field at the place of a name
first-kind : (name : List ℕ) (s : Fields) (i : ℕ) (d : List ℕ × DataType) → i < length s → bytes_eq name (get_or s i d).0 ≡ true → ((j : ℕ) → j < i → bytes_eq name (get_or s j d).0 ≡ false) → field_kind name s ≡ slice_get (kinds_of s) i
first-kind name [] i d within hit before = absurd (omega arith)
first-kind name (f ∷ fs) zero d within hit before = rw hit refl
first-kind name (f ∷ fs) (suc i) d within hit before =
    let miss : bytes_eq name f.0 ≡ false = before 0 (omega arith) in
    rw miss (first-kind name fs i d (omega arith) hit (λ j h. before (suc j) (omega arith)))

kind-at : (name : List ℕ) (s : Fields) (i : ℕ) → i < length s → field_index name s ≡ Some i → field_kind name s ≡ slice_get (kinds_of s) i
kind-at name s i within there =
    let d : List ℕ × DataType = ([], kind.Int64) in
    let first = position-Some (λ (f : List ℕ × DataType). bytes_eq name f.0) s i d there in
    first-kind name s i d within first.1 first.2

-- a count that isn't too large
count-is : (at n : ℕ) → n ≤ max_rows → count_column at n ≡ whole_column (val.IdxSize n ∷ [])
count-is at n few =
    let large : Column = record { cells = []; broken = record { fault = fault.Rows; node = at } ∷ []; lost = [] } in
    ap (λ b. if b then whole_column (val.IdxSize n ∷ []) else large) (le-leb n max_rows few)

-- an aggregate of a column takes the values at its place
of-column : (at : ℕ) (f : Frame) (a : Aggregation) (name : List ℕ) (i : ℕ) → field_index name f.schema ≡ Some i
    → eval at (whole f) (Tree.aggregate a (Tree.column name)) ≡ record (aggregate_column at a (field_kind name f.schema) (values_at i f.rows)) { lost = [] }
of-column at f a name i there =
    let F : List (List Value) → Column = λ vs. aggregate_column at a (field_kind name f.schema) (operand 0 vs) in
    ap (λ o. from_whole F (record { cells = map value (values_at_some o f.rows); broken = []; lost = [] } ∷ [])) there
    ∙ of-values F (values_at i f.rows)

-- the reductions
pub len-reduces : (s : Fields) → Reduces s Tree.len reduction.Len
len-reduces s at f same few = count-is at (length f.rows) few

pub sum-reduces : (i : ℕ) → ReducesColumn Aggregation.sum i (reduction.Sum i)
sum-reduces i s name within there at f same few =
    of-column at f Aggregation.sum name i (ap (field_index name) same ∙ there)
    ∙ ap (λ k. whole_column (sum_value k (values_at i f.rows) ∷ [])) (ap (field_kind name) same ∙ kind-at name s i within there)

pub values-reduce : (i : ℕ) → ReducesColumn (Aggregation.count false) i (reduction.Count i)
values-reduce i s name within there at f same few =
    let vs = values_at i f.rows in
    of-column at f (Aggregation.count false) name i (ap (field_index name) same ∙ there)
    ∙ ap (λ (c : Column). record c { lost = [] })
    (count-is at (count_values vs) (omega (arith, kept-few (λ v. not (is_null v)) vs, length-map f.rows (λ (row : List Value). get_or row i val.Null), few)))

pub rows-reduce : (i : ℕ) → ReducesColumn (Aggregation.count true) i reduction.Len
rows-reduce i s name within there at f same few =
    let long : length (values_at i f.rows) ≡ length f.rows = length-map f.rows (λ (row : List Value). get_or row i val.Null) in
    of-column at f (Aggregation.count true) name i (ap (field_index name) same ∙ there)
    ∙ ap (λ n. record (count_column at n) { lost = [] }) long
    ∙ ap (λ (c : Column). record c { lost = [] }) (count-is at (length f.rows) few)

-- what is told of a column
pub least-told : (i : ℕ) → ReducesColumn Aggregation.min i (reduction.Told statistic.Least i)
least-told i s name within there at f same few = of-column at f Aggregation.min name i (ap (field_index name) same ∙ there)

pub greatest-told : (i : ℕ) → ReducesColumn Aggregation.max i (reduction.Told statistic.Greatest i)
greatest-told i s name within there at f same few = of-column at f Aggregation.max name i (ap (field_index name) same ∙ there)

pub first-told : (i : ℕ) → ReducesColumn Aggregation.first i (reduction.Told statistic.First i)
first-told i s name within there at f same few = of-column at f Aggregation.first name i (ap (field_index name) same ∙ there)

pub last-told : (i : ℕ) → ReducesColumn Aggregation.last i (reduction.Told statistic.Last i)
last-told i s name within there at f same few = of-column at f Aggregation.last name i (ap (field_index name) same ∙ there)

pub distinct-told : (i : ℕ) → ReducesColumn Aggregation.n_unique i (reduction.Told statistic.Distinct i)
distinct-told i s name within there at f same few =
    let vs = values_at i f.rows in
    of-column at f Aggregation.n_unique name i (ap (field_index name) same ∙ there)
    ∙ ap (λ (c : Column). record c { lost = [] })
    (count-is at (length (distinct_values vs)) (omega (arith, distinct-few vs, length-map f.rows (λ (row : List Value). get_or row i val.Null), few)))

-- an aggregate's entry is reduced as its column is
pub reduces-column : (f : Node → Tree) (a : IRAggExpr) (s : Fields) (i : ℕ) (n : Node) (r : Reduction) → n ≡ aggregated_of a → i < length s
    → ((name : List ℕ) × (f n ≡ Tree.column name) × (field_index name s ≡ Some i)) → ReducesColumn (aggregation_of a) i r → Reduces s (aggregate_tree f a) r
reduces-column f a s i n r e within (name, is, there) reduces =
    subst (λ t. Reduces s t r) (sym (aggregate-tree f a ∙ ap (Tree.aggregate (aggregation_of a)) (ap f (sym e) ∙ is))) (reduces s name within there)

-- the values at a place of rows that are picked
read-at : (i : ℕ) (rows : List (List Value)) (p : ℕ) → get_or (values_at i rows) p val.Null ≡ get_or (get_or rows p []) i val.Null
read-at i [] p = refl
read-at i (r ∷ rows) zero = refl
read-at i (r ∷ rows) (suc p) = read-at i rows p

values-picked : (i : ℕ) (rows : List (List Value)) (places : List ℕ) → map (λ p. get_or (values_at i rows) p val.Null) places ≡ values_at i (rows_at places rows)
values-picked i rows [] = refl
values-picked i rows (p ∷ places) = λ j. read-at i rows p j ∷ values-picked i rows places j

-- the values of reductions over the rows of each key
module _ (f : Frame) (count : ℕ) (keys : List ℕ) (i : ℕ) (r : Reduction) where
  pub counts-reduced : (vs : List Value) → vs ≡ values_at i f.rows → r ≡ reduction.Count i → map (λ k. val.IdxSize (count_values (values_of_key vs keys k))) (below count) ≡ reduced_values f count keys r
  counts-reduced vs values is =
      (λ j. map (λ k. val.IdxSize (count_values (values_of_key (values j) keys k))) (below count))
      ∙ (λ j. map (λ k. val.IdxSize (count_values (values-picked i f.rows (places_of k keys) j))) (below count))
      ∙ ap (reduced_values f count keys) (sym is)

  pub sums-reduced : (c : Series) → slice_get (kinds_of f.schema) i ≡ Some c.kind → c.values ≡ values_at i f.rows → r ≡ reduction.Sum i
      → map (λ k. sum_value (Some c.kind) (values_of_key c.values keys k)) (below count) ≡ reduced_values f count keys r
  sums-reduced c kind values is =
      (λ j. map (λ k. sum_value (sym kind j) (values_of_key (values j) keys k)) (below count))
      ∙ (λ j. map (λ k. sum_value (slice_get (kinds_of f.schema) i) (values-picked i f.rows (places_of k keys) j)) (below count))
      ∙ ap (reduced_values f count keys) (sym is)

  pub told-reduced : (s : Statistic) (vs : List Value) (rows : List (List ℕ)) → vs ≡ values_at i f.rows → rows ≡ places_of_each count keys → r ≡ reduction.Told s i
      → map (λ ps. told s (values_in vs ps)) rows ≡ reduced_values f count keys r
  told-reduced s vs rows values together is =
      ap (map (λ ps. told s (values_in vs ps))) together
      ∙ map-map (λ ps. told s (values_in vs ps)) (λ k. places_of k keys) (below count)
      ∙ (λ j. map (λ k. told s (values_in (values j) (places_of k keys))) (below count))
      ∙ (λ j. map (λ k. told s (values-picked i f.rows (places_of k keys) j)) (below count))
      ∙ ap (reduced_values f count keys) (sym is)

-- the rows of each key are rows, and not too many
module _ (count : ℕ) (keys : List ℕ) where
  row-of-key : (k : ℕ) (d : List ℕ) → k < length (places_of_each count keys) → get_or (places_of_each count keys) k d ≡ places_of k keys
  row-of-key k d within = at-below (λ k. places_of k keys) count k d (omega (arith, length-map (below count) (λ k. places_of k keys), length-below count))

  pub rows-inside : (n : ℕ) → length keys ≡ n → All (λ ps. All (λ i. i < n) ps) (places_of_each count keys)
  rows-inside n long k d within =
      subst (All (λ i. i < n)) (sym (row-of-key k d within)) (subst (λ m. All (λ i. i < m) (places_of k keys)) long (kept-all (length keys) (λ i. get_or keys i 0 == k)))

  pub rows-few : length keys ≤ max_rows → All (λ ps. length ps ≤ max_rows) (places_of_each count keys)
  rows-few few k d within = subst (λ (ps : List ℕ). length ps ≤ max_rows) (sym (row-of-key k d within)) (omega (arith, places-few k keys, few))

-- an expression that is a reduction, over the tables of groups
module _ (at : ℕ) (f : Frame) (n : Numbering) (of : IsNumberingOf f n) where
  abbrev count : ℕ
  count = length n.firsts.items

  abbrev own : ℕ → Frame
  own k = table_at f (places_of k n.keys.items)

  each-table : group_tables f n ≡ map own (below count)
  each-table = map-map (table_at f) (λ k. places_of k n.keys.items) (below count)

  table-found : (k : ℕ) (d : Frame) → k < length (group_tables f n) → get_or (group_tables f n) k d ≡ own k
  table-found k d within =
      ap (λ fs. get_or fs k d) each-table
      ∙ at-below own count k d (omega (arith, ap length each-table, length-map (below count) own, length-below count))

  -- the tables have the schema of the whole
  pub kinds-over : (t : Tree) (k : DataType) → kind_over f.schema t ≡ Some k → All (λ (g : Frame). kind_over g.schema t ≡ Some k) (group_tables f n)
  kinds-over t k e i d within = subst (λ (g : Frame). kind_over g.schema t ≡ Some k) (sym (table-found i d within)) e

  pub fit-over : FitsFrame f → All FitsFrame (group_tables f n)
  fit-over fits = tables-fit f count n.keys.items fits of.long

  module _ (t : Tree) (r : Reduction) (small : length f.rows ≤ max_rows) (reduces : Reduces f.schema t r) where
    one-cell : (k : ℕ) → eval at (whole (own k)) t ≡ whole_column (reduced_value f.schema (rows_at (places_of k n.keys.items) f.rows) r ∷ [])
    one-cell k =
        reduces at (own k) refl
        (omega (arith, length-map (places_of k n.keys.items) (λ i. get_or f.rows i []), places-few k n.keys.items, of.long, small))

    values-are : map (λ (g : Frame). only_value (eval at (whole g) t)) (group_tables f n) ≡ reduced_values f count n.keys.items r
    values-are =
        ap (map (λ (g : Frame). only_value (eval at (whole g) t))) each-table
        ∙ map-map (λ (g : Frame). only_value (eval at (whole g) t)) own (below count)
        ∙ (λ j. map (λ k. only_value (one-cell k j)) (below count))

    pub reduced-fit : (k : DataType) → FitsFrame f → kind_over f.schema t ≡ Some k → IsTrue (all_fit k (reduced_values f count n.keys.items r))
    reduced-fit k fits kind = subst (λ vs. IsTrue (all_fit k vs)) values-are (values-fit at k t (group_tables f n) (fit-over fits) (kinds-over t k kind))

    pub is-aggregate : (c : Series) → c.values ≡ reduced_values f count n.keys.items r → IsAggregate at (group_tables f n) t c
    is-aggregate c values = record {
      values = values ∙ sym values-are;
      clean = λ k d within. subst (λ (g : Frame). column_causes (eval at (whole g) t) ≡ []) (sym (table-found k d within)) (ap column_causes (one-cell k));
    }
